-- `witnesses::test_fold` meets its contract: its tests are the rules, in their order.
use mathlib.Core.Path.{◌≡◌, sym, ◌∙◌, ap}
use Prim.Native.Nat.{ℕ}
use lib.Dec.{leb}
use lib.IntN.{pos, nat_abs}
use lib.ListN.{length, get_or}
use Rattle.matrices.specs.Tables.{entry}
use Rattle.settings.specs.Accepted.{parameters_in}
use Rattle.settings.specs.Settings.{h_of}
use Rattle.lova.specs.Stored.{columns_of, sent_S~}
use Rattle.lova.specs.Tests.{every, are_ternary, bounded}
use Rattle.lova.specs.Calls.{WitnessLengths}
use Rattle.lova.specs.Witness.{witness_rules}
use Rattle.lova.proofs.Refusals.{witness_lens}
use Rattle.lova.proofs.Rebuilding.{N-is, rebuilt-is}
use Rattle.lova.proofs.Numbers.{true-T, gives-number, gives_later, gives_none}
use Rattle.scans.proofs.Scans.{all-entries}
use Rattle.witnesses.proofs.test_fold.Goals as goal
use Rattle.witnesses.proofs.test_fold.Goals.{After-are_ternary, After-entries_within, Else-not-lengths_fit}

pub returns-then-not-lengths_fit : goal.returns-then-not-lengths_fit
unfolding witness_rules
returns-then-not-lengths_fit c = gives-number _ 7 _ (sym c.lengths_fit.ensures ∙ c.if-not-lengths_fit.true)

-- the stated lengths, once their test has passed
lengths : (c : Else-not-lengths_fit) →
    let a = c.args in
    WitnessLengths (parameters_in a.accepted.now) a.profile a.ss.now a.c.now a.s.now
lengths c =
    let a = c.args in
    (witness_lens (parameters_in a.accepted.now) a.profile a.ss.now a.c.now a.s.now).says.0
    (true-T _ (sym c.lengths_fit.ensures ∙ c.if-not-lengths_fit.false))

-- the test of the bytes, with N for the setting's own columns
bytes-are : (c : After-are_ternary) →
    let a = c.args in
    c.are_ternary.result ≡ are_ternary (parameters_in a.accepted.now) a.c.now
unfolding are_ternary
bytes-are c =
    let a = c.args in
    c.are_ternary.ensures ∙ ap (λ (N : ℕ). every N a.accepted.now.setting.t (λ i j. leb (entry 0 a.accepted.now.setting.t a.c.now i j) 2)) (N-is a.accepted.now.setting (rebuilt-is a.accepted.now))

pub returns-then-not-are_ternary : goal.returns-then-not-are_ternary
unfolding witness_rules
returns-then-not-are_ternary c =
    gives_later _ 7 _ 9 (sym c.lengths_fit.ensures ∙ c.if-not-lengths_fit.false)
    (gives-number _ 9 _ (sym (bytes-are (goal.at.returns-then-not-are_ternary c).After-are_ternary) ∙ c.if-not-are_ternary.true))

-- past the bytes, the entries of S~
entries-are : (c : After-entries_within) →
    let a = c.args in
    let p = parameters_in a.accepted.now in
    c.entries_within.result ≡ bounded p.m (columns_of p a.profile) (h_of p) ((sent_S~ p a.profile).read a.ss.now)
entries-are c =
    let a = c.args in
    let p = parameters_in a.accepted.now in
    c.entries_within.ensures
    ∙ all-entries (length a.ss.now) p.m (columns_of p a.profile) (λ i. leb (nat_abs (get_or a.ss.now i (pos 0))) (h_of p))
    (lengths (goal.at.After-entries_within c).Else-not-lengths_fit).0

pub returns-then-not-entries_within : goal.returns-then-not-entries_within
unfolding witness_rules
returns-then-not-entries_within c =
    gives_later _ 7 _ 11 (sym c.lengths_fit.ensures ∙ c.if-not-lengths_fit.false)
    (gives_later _ 9 _ 11 (sym (bytes-are (goal.at.returns-then-not-entries_within c).After-are_ternary) ∙ c.if-not-are_ternary.false)
    (gives-number _ 11 _ (sym (entries-are (goal.at.returns-then-not-entries_within c).After-entries_within) ∙ c.if-not-entries_within.true)))

pub returns : goal.returns
unfolding witness_rules
returns c =
    gives_later _ 7 _ 0 (sym c.lengths_fit.ensures ∙ c.if-not-lengths_fit.false)
    (gives_later _ 9 _ 0 (sym (bytes-are (goal.at.returns c).After-are_ternary) ∙ c.if-not-are_ternary.false)
    (gives_later _ 11 _ 0 (sym (entries-are (goal.at.returns c).After-entries_within) ∙ c.if-not-entries_within.false) gives_none))
