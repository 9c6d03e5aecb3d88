-- The numbers of a challenge's bytes.
use Rattle.std.proofs.Common.{◌≡◌, ℕ, zero, suc, ◌≤◌, ◌≢◌, ℤ, pos, negsuc, ◌*ℤ◌, nat_abs, refl, mul-le-mul, arith}
use Rattle.integers.proofs.Sizes.{nat_abs-*}
use Rattle.matrices.specs.Tables.{ternary}

-- a byte's number: 0, 1 or −1
pub ternary-zero : (v : ℕ) → v ≡ 0 → pos 0 ≡ ternary v
unfolding ternary
ternary-zero v e = rw e

pub ternary-one : (v : ℕ) → v ≡ 1 → pos 1 ≡ ternary v
unfolding ternary
ternary-one v e = rw e

pub ternary-two : (v : ℕ) → v ≢ 0 → v ≢ 1 → negsuc 0 ≡ ternary v
unfolding ternary
ternary-two zero h k = absurd (h refl)
ternary-two (suc zero) h k = absurd (k refl)
ternary-two (suc (suc v)) h k = refl

pub ternary-size : (v : ℕ) → nat_abs (ternary v) ≤ 1
unfolding ternary
ternary-size zero = omega arith
ternary-size (suc zero) = omega arith
ternary-size (suc (suc v)) = omega arith

pub ternary-times : (v : ℕ) (x : ℤ) (M : ℕ) → nat_abs x ≤ M → nat_abs (ternary v *ℤ x) ≤ M
ternary-times v x M h = omega (arith, nat_abs-* (ternary v) x, mul-le-mul (ternary-size v) h)
