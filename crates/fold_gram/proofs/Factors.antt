-- Means and multiples as the machine makes them, and what each factor adds.
use mathlib.Core.Path.{◌≡◌, refl, ap}
use Prim.Native.Nat.{◌^◌, ◌≤◌}
use native.Mathlib.Omega.{arith}
use native.Mathlib.Nat.{mul-le-mul}
use lib.IntN.{ℤ, pos, nat_abs, ◌*ℤ◌}
use lib.Signed.{quot_z}
use mir.Syntax.{w16, w64}
use mir.Val.{to_z, of_z}
use Rattle.integers.proofs.Sizes.{nat_abs-*, fits_in}
use Rattle.integers.proofs.Words.{Held, held, read_back, times}
use Rattle.small_rows.proofs.Small.{widened}
use Rattle.fold_gram.proofs.Halves.{half-size}

pub halved : {u : ℤ} (z : ℤ) → u ≡ z → nat_abs z ≤ 2 ^ 62 → Held w64 (quot_z u (pos 2)) (quot_z z (pos 2))
halved z e h = held w64 (ap (λ (y : ℤ). quot_z y (pos 2)) e) (omega (arith, half-size z))

-- twice a number y of D~, and a factor v times y
module _ (y : ℤ) (hy : nat_abs y ≤ 2 ^ 31) where
  pub twice : Held w64 (pos 2 *ℤ to_z w64 (of_z w64 y)) (pos 2 *ℤ y)
  twice = times (pos 2) y refl (read_back w64 y (omega arith)) (omega arith)

  pub scaled : (v : ℤ) → nat_abs v ≤ 16 → Held w64 (to_z w64 (of_z w64 (to_z w16 (of_z w16 v))) *ℤ to_z w64 (of_z w64 y)) (v *ℤ y)
  scaled v hv = times v y (widened v (fits_in w16 v (omega arith))).read (read_back w64 y (omega arith)) (omega (arith, mul-le-mul hv hy))

  pub twice-size : nat_abs (pos 2 *ℤ y) ≤ 2 ^ 32
  twice-size = omega (arith, nat_abs-* (pos 2) y)
