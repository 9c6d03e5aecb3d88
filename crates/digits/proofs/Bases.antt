-- Division by a reciprocal.
use mathlib.Core.Path.{◌≡◌, refl, ap}
use mathlib.Core.List.{List}
use Prim.Native.Nat.{ℕ, ◌+◌, ◌*◌, ◌-◌, ◌/◌, ◌^◌, ◌<◌, ◌≤◌}
use native.Mathlib.Omega.{arith}
use native.Mathlib.Nat.{div-eq_of_lt-le, div-mul-le_self, lt-div-mul-add, lt_of_mul-lt-mul_right, mul-le-mul, mul-le-mul_left, mul-le-mul_right}
use lib.IntN.{ℤ, pos, nat_abs}
use lib.ListN.{take, drop}
use Rattle.integers.proofs.Lists.{part-everywhere}
use Rattle.digits.specs.declared.Base.{Base}
use Rattle.digits.specs.Bases.{scale, base_of, IsBase, InReach, AllInReach}

-- x times N/b + 1, divided by N, is x/b where x b is below N; all three divisions round down
pub by_reciprocal : (N b x : ℕ) → 1 ≤ b → x * b < N → x * (N / b + 1) / N ≡ x / b
by_reciprocal N b x low reach = div-eq_of_lt-le N below above
  where
    below : x / b * N ≤ x * (N / b + 1)
    below = omega (arith, mul-le-mul_left (x / b) (lt-div-mul-add {a = N} {b = b} low), mul-le-mul_right (N / b + 1) (div-mul-le_self x b))

    above : x * (N / b + 1) < (x / b + 1) * N
    above = lt_of_mul-lt-mul_right b (omega (arith, reach, mul-le-mul_left x (div-mul-le_self N b), mul-le-mul_right N (lt-div-mul-add {a = x} {b = b} low)))

-- and the product is a word
pub product-fits : (b x : ℕ) → 2 ≤ b → InReach b x → x * (scale / b + 1) < 2 ^ 64
product-fits b x low reach =
    let size : x ≤ 2 ^ 32 - 1 = omega (arith, mul-le-mul_left x low) in
    let reciprocal : scale / b + 1 ≤ 2 ^ 32 + 1 = omega (arith, mul-le-mul_left (scale / b) low, div-mul-le_self scale b) in
    omega (arith, mul-le-mul size reciprocal)

-- a smaller size is in reach too
pub in_reach-less : (b v w : ℕ) → v ≤ w → InReach b w → InReach b v
in_reach-less b v w h reach = omega (arith, mul-le-mul_right b h)

module _ (base : Base) (is : IsBase base) (x : ℕ) (reach : InReach base.b x) where
  reciprocal_is : base.reciprocal ≡ scale / base.b + 1
  reciprocal_is = ap (λ (y : Base). y.reciprocal) is.whole

  pub dividing_fits : x * base.reciprocal < 2 ^ 64
  dividing_fits = rw reciprocal_is (product-fits base.b x is.low reach)

  pub divided : x * base.reciprocal / scale ≡ x / base.b
  divided = rw reciprocal_is (by_reciprocal scale base.b x (omega (arith, is.low)) reach)

-- what `Base::new` gives is a base
pub is_base : (b : ℕ) → 2 ≤ b → b < 2 ^ 16 → IsBase (base_of b)
is_base b low high = record { low = low; high = high; whole = refl }

-- a part of a list in reach is in reach
pub part_in_reach : (b a k : ℕ) (xs : List ℤ) → AllInReach b xs → AllInReach b (take k (drop a xs))
part_in_reach b a k xs h = part-everywhere (λ z. InReach b (nat_abs z)) (pos 0) a k xs (omega arith) h
