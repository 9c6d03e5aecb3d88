-- `quadratic_forms::last_zeros` meets its contract: three tests.
use mathlib.Core.Path.{ap, ap₂, ◌∙◌}
use Prim.Native.Nat.{ℕ, ◌+◌, ◌≤◌}
use native.Mathlib.Omega.{arith}
use lib.IntN.{ℤ, pos}
use mir.Syntax.{w64}
use mir.ValLaws.{to_z-of_z}
use Rattle.lova.specs.Tests.{eq_Z}
use Rattle.quadratic_forms.specs.Forms.{tally}
use Rattle.quadratic_forms.specs.Search.{last_zeros}
use Rattle.quadratic_forms.proofs.Counts.{tally-small}
use Rattle.quadratic_forms.proofs.InWords.{Numbers, numbers}
use Rattle.quadratic_forms.proofs.last_zeros.Goals as goal
use Rattle.quadratic_forms.proofs.last_zeros.Goals.{After-tally_zero-above, Start}

carried : (s : Start) → Numbers s.args.q s.args.term s.args.square
carried s = numbers s.args.q s.args.term s.args.square s.requires

pub overflow_add-squared : goal.overflow_add-squared
overflow_add-squared c = (carried c).squared.fits

pub overflow_sub-squared : goal.overflow_sub-squared
overflow_sub-squared c = (carried c).less.fits

pub overflow_add-squared-2 : goal.overflow_add-squared-2
overflow_add-squared-2 c = (carried (goal.at.overflow_add-squared-2 c).Start).more.fits

-- each test counts 0 or 1
small : (c : After-tally_zero-above) → (c.tally_zero-below.result ≤ 1) × (c.tally_zero-at.result ≤ 1) × (c.tally_zero-above.result ≤ 1)
small c = (tally-small _ _ c.tally_zero-below.ensures, tally-small _ _ c.tally_zero-at.ensures, tally-small _ _ c.tally_zero-above.ensures)

pub overflow_add-result : goal.overflow_add-result
overflow_add-result c = omega (arith, (small c).1, (small c).2)

pub overflow_add-result-2 : goal.overflow_add-result-2
overflow_add-result-2 c = omega (arith, (small c).0, (small c).1, (small c).2)

pub returns : goal.returns
unfolding last_zeros
returns c =
    let s = (goal.at.returns c).Start in
    let tested : ℤ → ℕ = λ z. tally (eq_Z z (pos 0)) in
    ap₂ (λ (a b : ℕ). a + b) (c.tally_zero-below.ensures ∙ ap tested (carried s).less.read)
    (ap₂ (λ (a b : ℕ). a + b) (c.tally_zero-at.ensures ∙ ap tested (to_z-of_z w64 s.args.q s.ranges.q))
    (c.tally_zero-above.ensures ∙ ap tested (carried s).more.read))
