-- `verdicts::test_verify` meets its contract: its tests are the rules, in their order.
use mathlib.Core.Path.{◌≡◌, sym, ◌∙◌, ap}
use mathlib.Core.Bool.{true}
use Prim.Native.Nat.{ℕ}
use native.Mathlib.Omega.{arith}
use native.Mathlib.Nat.{mul-le-mul}
use lib.Dec.{leb}
use lib.IntN.{pos, nat_abs}
use lib.ListN.{get_or}
use Rattle.integers.specs.Tests.{all}
use Rattle.matrices.specs.Tables.{entry}
use Rattle.settings.specs.Settings.{Parameters, HOf}
use Rattle.settings.specs.Accepted.{parameters_in}
use Rattle.lova.specs.Stored.{columns_of, sent_D~}
use Rattle.lova.specs.Lent.{as_instance, lent_instance, lent_message}
use Rattle.lova.specs.Tests.{every, bounded, are_ternary}
use Rattle.lova.specs.Verdict.{verdict_rules_as}
use Rattle.lova.proofs.Numbers.{gives-number, gives_later, gives_none}
use Rattle.lova.proofs.Rebuilding.{rebuilt-accepted, rebuilt-is, N-is}
use Rattle.lova.proofs.Tests.{mirrored-test}
use Rattle.verdicts.proofs.Lengths.{lengths_fit, C-length, D~-length}
use Rattle.verdicts.proofs.test_verify.Goals as goal
use Rattle.verdicts.proofs.test_verify.Goals.{After-are_ternary, After-entries_within, Else-not-lengths_fit, Start}

abbrev p : Start → Parameters
p s = parameters_in s.args.accepted.now

-- the lengths are those of the rule, and what is so past the test
lengths : (c : Else-not-lengths_fit) →
    let s = (goal.at.Else-not-lengths_fit c).Start in
    let a = s.args in
    lengths_fit (p s) a.profile (lent_instance a.first).instance (lent_instance a.second).instance (lent_message a.message) a.c.now (as_instance a.t.now a.d.now) ≡ true
lengths c = sym c.lengths_fit.ensures ∙ c.if-not-lengths_fit.false

bytes : (c : After-are_ternary) → let s = (goal.at.After-are_ternary c).Start in c.are_ternary.result ≡ are_ternary (p s) s.args.c.now
unfolding are_ternary
bytes c =
    let a = c.args in
    let s = a.accepted.now.setting in
    c.are_ternary.ensures ∙ ap (λ (n : ℕ). every n s.t (λ i j. leb (entry 0 s.t a.c.now i j) 2)) (N-is s (rebuilt-is a.accepted.now))

entries : (c : After-entries_within) →
    let s = (goal.at.After-entries_within c).Start in
    c.entries_within.result ≡ bounded (columns_of (p s) s.args.profile) (columns_of (p s) s.args.profile) (HOf (p s)) ((sent_D~ (p s) s.args.profile).read s.args.message.dd.now)
entries c =
    let e = (goal.at.After-entries_within c).Else-not-lengths_fit in
    let s = (goal.at.After-entries_within c).Start in
    let a = s.args in
    c.entries_within.ensures
    ∙ ap (λ (n : ℕ). all n (λ i. leb (nat_abs (get_or a.message.dd.now i (pos 0))) (HOf (p s))))
    (D~-length (p s) a.profile (lent_instance a.first).instance (lent_instance a.second).instance (lent_message a.message) a.c.now (as_instance a.t.now a.d.now) (lengths e))
    ∙ sym (mirrored-test (columns_of (p s) a.profile) (HOf (p s)) a.message.dd.now)

pub returns-then-not-lengths_fit : goal.returns-then-not-lengths_fit
unfolding verdict_rules_as
returns-then-not-lengths_fit c = gives-number _ 7 _ (sym c.lengths_fit.ensures ∙ c.if-not-lengths_fit.true)

pub returns-then-not-counts_join : goal.returns-then-not-counts_join
unfolding verdict_rules_as
returns-then-not-counts_join c =
    gives_later _ 7 _ 15 (sym c.lengths_fit.ensures ∙ c.if-not-lengths_fit.false)
    (gives-number _ 15 _ (sym c.counts_join.ensures ∙ c.if-not-counts_join.true))

pub are_ternary-requires : goal.are_ternary-requires
are_ternary-requires c =
    let e = (goal.at.are_ternary-requires c).Else-not-lengths_fit in
    let a = c.args in
    rw (N-is a.accepted.now.setting (rebuilt-is a.accepted.now))
    (C-length (parameters_in a.accepted.now) a.profile (lent_instance a.first).instance (lent_instance a.second).instance (lent_message a.message) a.c.now (as_instance a.t.now a.d.now) (lengths e))

pub returns-then-not-are_ternary : goal.returns-then-not-are_ternary
unfolding verdict_rules_as
returns-then-not-are_ternary c =
    gives_later _ 7 _ 9 (sym c.lengths_fit.ensures ∙ c.if-not-lengths_fit.false)
    (gives_later _ 15 _ 9 (sym c.counts_join.ensures ∙ c.if-not-counts_join.false)
    (gives-number _ 9 _ (sym (bytes (goal.at.returns-then-not-are_ternary c).After-are_ternary) ∙ c.if-not-are_ternary.true)))

pub overflow_mul-h : goal.overflow_mul-h
overflow_mul-h c =
    let a = c.args.accepted.now in
    let h = (rebuilt-accepted a.setting (rebuilt-is a)).digits-small in
    omega (arith, mul-le-mul h h)

pub overflow_mul-h-2 : goal.overflow_mul-h-2
overflow_mul-h-2 c =
    let a = c.args.accepted.now in
    let acc = rebuilt-accepted a.setting (rebuilt-is a) in
    omega (arith, mul-le-mul (mul-le-mul acc.digits-small acc.digits-small) acc.m-high)

pub returns-then-not-entries_within : goal.returns-then-not-entries_within
unfolding verdict_rules_as
returns-then-not-entries_within c =
    gives_later _ 7 _ 10 (sym c.lengths_fit.ensures ∙ c.if-not-lengths_fit.false)
    (gives_later _ 15 _ 10 (sym c.counts_join.ensures ∙ c.if-not-counts_join.false)
    (gives_later _ 9 _ 10 (sym (bytes (goal.at.returns-then-not-entries_within c).After-are_ternary) ∙ c.if-not-are_ternary.false)
    (gives-number _ 10 _ (sym (entries (goal.at.returns-then-not-entries_within c).After-entries_within) ∙ c.if-not-entries_within.true))))

pub returns : goal.returns
unfolding verdict_rules_as
returns c =
    gives_later _ 7 _ 0 (sym c.lengths_fit.ensures ∙ c.if-not-lengths_fit.false)
    (gives_later _ 15 _ 0 (sym c.counts_join.ensures ∙ c.if-not-counts_join.false)
    (gives_later _ 9 _ 0 (sym (bytes (goal.at.returns c).After-are_ternary) ∙ c.if-not-are_ternary.false)
    (gives_later _ 10 _ 0 (sym (entries (goal.at.returns c).After-entries_within) ∙ c.if-not-entries_within.false) gives_none)))
