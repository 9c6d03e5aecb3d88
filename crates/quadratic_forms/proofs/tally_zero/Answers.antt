-- `quadratic_forms::tally_zero` meets its contract: the machine compares words.
use mathlib.Core.Path.{◌≡◌, sym, ap, ◌∙◌}
use native.Mathlib.Decide.{ℕ_discrete}
use lib.IntN.{ℤ, pos}
use borrow.Author.Tests.{eq-eqb, ne_eqb}
use mir.Syntax.{w64}
use mir.Val.{SFits, to_z, of_z, bool_byte}
use mir.ValLaws.{to_z-of_z}
use lib.Dec.{eqb}
use Rattle.lova.specs.Tests.{eq_Z}
use Rattle.quadratic_forms.specs.Forms.{tally}
use Rattle.quadratic_forms.proofs.Last.{tally-zero, tally-other}
use Rattle.quadratic_forms.proofs.tally_zero.Goals as goal

compared : (z : ℤ) → SFits w64 z → bool_byte (eqb (of_z w64 z) 0) ≡ tally (eq_Z z (pos 0))
compared z fits = go (ℕ_discrete (of_z w64 z) 0)
  where
    go : Dec (of_z w64 z ≡ 0) → bool_byte (eqb (of_z w64 z) 0) ≡ tally (eq_Z z (pos 0))
    go (yes e) = rw (eq-eqb (of_z w64 z) 0 e) (tally-zero z (sym (to_z-of_z w64 z fits) ∙ ap (to_z w64) e))
    go (no ne) = rw (ne_eqb (of_z w64 z) 0 ne) (tally-other z (λ e. ne (ap (of_z w64) e)))

pub returns : goal.returns
returns c = c.from.ensures ∙ compared c.args.value c.ranges.value
