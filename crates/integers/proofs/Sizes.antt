-- The size (nat_abs) of negations, sums and products, and which sizes fit a signed word.
use Rattle.std.proofs.Common.{◌≡◌, ℕ, zero, suc, ◌+◌, ◌-◌, ◌*◌, ◌^◌, ◌<◌, ◌≤◌, ltb, ℤ, pos, negsuc, ◌+ℤ◌, ◌*ℤ◌, neg_ℤ, nat_abs, refl, lt_of_le_of_lt, le_of_lt, arith, ltb→lt, w64, SFits}
use lib.IntN.{sub_ℕ}
use lib.Signed.{mag}
use mir.Syntax.{Width}
use mir.Val.{hbits}
use Rattle.integers.proofs.Tests.{cond_ind}

pub nat_abs_negate : (z : ℤ) → nat_abs (neg_ℤ z) ≡ nat_abs z
nat_abs_negate (pos zero) = refl
nat_abs_negate (pos (suc n)) = refl
nat_abs_negate (negsuc n) = refl

pub nat_abs-* : (x y : ℤ) → nat_abs (x *ℤ y) ≡ nat_abs x * nat_abs y
nat_abs-* (pos a) (pos b) = refl
nat_abs-* (pos a) (negsuc b) = nat_abs_negate (pos (a * suc b))
nat_abs-* (negsuc a) (pos b) = nat_abs_negate (pos (suc a * b))
nat_abs-* (negsuc a) (negsuc b) = refl

nat_abs_sub : (a b : ℕ) → nat_abs (sub_ℕ a b) ≤ a + b
nat_abs_sub a b = cond_ind (ltb a b) (negsuc (b - suc a)) (pos (a - b)) (λ z. nat_abs z ≤ a + b) (λ t. let l : a < b = ltb→lt a b t in omega arith) (λ t. omega arith)

pub nat_abs-+ : (x y : ℤ) → nat_abs (x +ℤ y) ≤ nat_abs x + nat_abs y
nat_abs-+ (pos a) (pos b) = omega arith
nat_abs-+ (pos a) (negsuc b) = nat_abs_sub a (suc b)
nat_abs-+ (negsuc a) (pos b) = let h = nat_abs_sub b (suc a) in omega arith
nat_abs-+ (negsuc a) (negsuc b) = omega arith

-- a square is its size's square
pub square-nat_abs : (z : ℤ) → z *ℤ z ≡ pos (nat_abs z * nat_abs z)
square-nat_abs (pos n) = refl
square-nat_abs (negsuc n) = refl

-- what the kit calls the magnitude of a number, n of pos n and of negsuc n, is at most its size
mag_le : (z : ℤ) → mag z ≤ nat_abs z
mag_le (pos n) = omega arith
mag_le (negsuc n) = omega arith

pub fits-by-size : (z : ℤ) → nat_abs z < 2 ^ 63 → SFits w64 z
fits-by-size z h = record { sfits = omega (arith, mag_le z) }

-- the same at any width, and the size of a number that fits
pub fits_in : (w : Width) (z : ℤ) → nat_abs z < 2 ^ hbits w → SFits w z
fits_in w z h = record { sfits = lt_of_le_of_lt (mag_le z) h }

pub fits-size : (w : Width) (z : ℤ) → SFits w z → nat_abs z ≤ 2 ^ hbits w
fits-size w (pos n) f = le_of_lt f.sfits
fits-size w (negsuc n) f = f.sfits
