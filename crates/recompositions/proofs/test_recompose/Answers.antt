-- `recompositions::test_recompose` meets its contract: its tests are the rules, in their order.
use mathlib.Core.Path.{◌≡◌, sym, ◌∙◌, ap}
use mathlib.Core.Bool.{true, not}
use Prim.Native.Nat.{ℕ, ◌+◌, ◌*◌, ◌/◌, ◌≤◌}
use native.Mathlib.Omega.{arith}
use lib.Dec.{leb}
use lib.IntN.{pos, nat_abs}
use lib.ListN.{length, get_or}
use Rattle.settings.specs.Accepted.{parameters_in}
use Rattle.settings.specs.Settings.{h_of}
use Rattle.lova.specs.Stored.{columns_of, sent_S~}
use Rattle.lova.specs.Tests.{bounded}
use Rattle.lova.specs.Calls.{RecomposeLengths}
use Rattle.lova.specs.Recompose.{recompose_rules}
use Rattle.lova.proofs.Refusals.{recompose_lens}
use Rattle.lova.proofs.Rebuilding.{rebuilt-accepted, rebuilt-is}
use Rattle.lova.proofs.Numbers.{true-T, failed-test, passed-test, gives-number, gives_later}
use Rattle.lova.proofs.Tests.{bounded_iff, bounded-everywhere}
use Rattle.lova.proofs.Widths.{right-few, wide-few}
use Rattle.scans.proofs.Scans.{all-entries}
use Rattle.recompositions.proofs.Passes.{rows_long, rows_are}
use Rattle.recompositions.proofs.test_recompose.Goals as goal
use Rattle.recompositions.proofs.test_recompose.Goals.{After-entries_within, After-right, Else-not-entries_within, Else-not-lengths_fit, Start}

pub returns-then-not-lengths_fit : goal.returns-then-not-lengths_fit
unfolding recompose_rules
returns-then-not-lengths_fit c = gives-number _ 7 _ (sym c.lengths_fit.ensures ∙ failed-test _ (ap not c.if-not-lengths_fit.true))

-- the stated lengths, once their test has passed
lengths : (e : Else-not-lengths_fit) →
    let a = e.args in
    RecomposeLengths (parameters_in a.accepted.now) a.profile a.ss.now (record { S₁ = a.s1.now; S₂ = a.s2.now })
lengths e =
    let a = e.args in
    (recompose_lens (parameters_in a.accepted.now) a.profile a.ss.now (record { S₁ = a.s1.now; S₂ = a.s2.now })).says.0
    (true-T _ (sym e.lengths_fit.ensures ∙ passed-test _ (ap not e.if-not-lengths_fit.false)))

-- the entry, from behind the test of the digits
abbrev start : After-entries_within → Start
start w = (goal.at.After-entries_within w).Start

-- the test of the digits
entries-are : (w : After-entries_within) →
    let a = (start w).args in
    let p = parameters_in a.accepted.now in
    w.entries_within.result ≡ bounded p.m (columns_of p a.profile) (h_of p) ((sent_S~ p a.profile).read a.ss.now)
entries-are w =
    let a = (start w).args in
    let p = parameters_in a.accepted.now in
    w.entries_within.ensures
    ∙ all-entries (length a.ss.now) p.m (columns_of p a.profile) (λ i. leb (nat_abs (get_or a.ss.now i (pos 0))) (h_of p)) (lengths (goal.at.After-entries_within w).Else-not-lengths_fit).0

-- 7 does not apply
past-lengths : (w : After-entries_within) → w.lengths_fit.result ≡ true
past-lengths w = passed-test _ (ap not w.if-not-lengths_fit.false)

pub returns-then-not-entries_within : goal.returns-then-not-entries_within
unfolding recompose_rules
returns-then-not-entries_within c =
    let w = (goal.at.returns-then-not-entries_within c).After-entries_within in
    gives_later _ 7 _ 11 (sym w.lengths_fit.ensures ∙ past-lengths w) (gives-number _ 11 _ (sym (entries-are w) ∙ failed-test _ (ap not c.if-not-entries_within.true)))

-- past both, the digits are within h wherever they are read
digits : (c : Else-not-entries_within) → let a = (start (goal.at.Else-not-entries_within c).After-entries_within).args in (x : ℕ) → nat_abs (get_or a.ss.now x (pos 0)) ≤ a.accepted.now.setting.b / 2
digits c =
    let w = (goal.at.Else-not-entries_within c).After-entries_within in
    let a = (start w).args in
    let p = parameters_in a.accepted.now in
    bounded-everywhere p.m (columns_of p a.profile) (h_of p) a.ss.now (lengths (goal.at.Else-not-entries_within c).Else-not-lengths_fit).0
    ((bounded_iff p.m (columns_of p a.profile) (h_of p) ((sent_S~ p a.profile).read a.ss.now)).0 (true-T _ (sym (entries-are w) ∙ passed-test _ (ap not c.if-not-entries_within.false))))

-- the length of S~ by its rows, with what `Profile::right` gave
long : (r : After-right) →
    let a = (start (goal.at.After-right r).After-entries_within).args in
    length a.ss.now ≡ a.accepted.now.setting.m * ((a.accepted.now.setting.t + r.right.result) * a.accepted.now.setting.k)
long r =
    let w = (goal.at.After-right r).After-entries_within in
    let s = start w in
    rows_long s.args.accepted.now s.args.profile r.right.result r.right.ensures s.args.ss.now (lengths (goal.at.After-right r).Else-not-lengths_fit).0

pub overflow_add-wide : goal.overflow_add-wide
overflow_add-wide c =
    let r = (goal.at.overflow_add-wide c).After-right in
    let s = start (goal.at.overflow_add-wide c).After-entries_within in
    omega (arith, (rebuilt-accepted s.args.accepted.now.setting (rebuilt-is s.args.accepted.now)).t-high, right-few s.args.accepted.now.setting (rebuilt-is s.args.accepted.now) s.args.profile r.right.result r.right.ensures)

pub invariant_of-rows : goal.invariant_of-rows
invariant_of-rows c =
    let r = (goal.at.invariant_of-rows c).After-right in
    let s = start (goal.at.invariant_of-rows c).After-entries_within in
    let acc = rebuilt-accepted s.args.accepted.now.setting (rebuilt-is s.args.accepted.now) in
    record {
      sized = (long r, wide-few s.args.accepted.now.setting (rebuilt-is s.args.accepted.now) s.args.profile r.right.result r.right.ensures);
      based = (acc.b-low, omega (arith, acc.b-high), digits (goal.at.invariant_of-rows c).Else-not-entries_within);
    }

pub test-requires : goal.test-requires
test-requires c =
    let a = c.args in
    let x = a.accepted.now in
    omega (arith, (rebuilt-accepted x.setting (rebuilt-is x)).t-high, right-few x.setting (rebuilt-is x) a.profile c.right.result c.right.ensures)

pub returns : goal.returns
unfolding recompose_rules
returns c =
    let r = (goal.at.returns c).After-right in
    let w = (goal.at.returns c).After-entries_within in
    let s = start w in
    gives_later _ 7 _ _ (sym w.lengths_fit.ensures ∙ past-lengths w)
    (gives_later _ 11 _ _ (sym (entries-are w) ∙ passed-test _ (ap not r.if-not-entries_within.false))
    (c.test.ensures ∙ rows_are s.args.accepted.now s.args.profile r.right.result r.right.ensures s.args.ss.now (long r)))
