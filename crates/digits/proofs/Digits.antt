-- The digits of an entry: they are small, they make the entry, and they go by its size and its sign.
use mathlib.Core.Path.{◌≡◌, refl, sym, ◌∙◌, ap}
use mathlib.Core.Logic.{◌≢◌}
use Prim.Native.Nat.{ℕ, zero, suc, ◌+◌, ◌*◌, ◌-◌, ◌/◌, ◌^◌, ◌<◌, ◌≤◌}
use native.Mathlib.Omega.{arith, by_contra}
use native.Mathlib.Nat.{add-suc, suc-add, zero-add, add-zero, mul-zero, two-mul, pow-suc, pow-zero, le_refl, le_trans, mul-le-mul}
use native.Mathlib.Numerals.{add-one}
use lib.Pow.{pow-add}
use lib.IntN.{ℤ, pos, negsuc, neg_ℤ, nat_abs, ◌+ℤ◌, ◌*ℤ◌, +ℤ_idr, neg_ℤ-neg_ℤ}
use Rattle.integers.specs.Sums.{sum}
use Rattle.integers.proofs.Ring.{diff_eq, ring, as_diff}
use Rattle.integers.proofs.Sizes.{nat_abs_negate}
use Rattle.integers.proofs.Sums.{sum_cong, sum_negate}
use Rattle.digits.specs.declared.Step.{Step}
use Rattle.digits.specs.Digits.{step_of, rest_of, sign_of, digit_of}
use Rattle.digits.proofs.Signs.{one-times, minus-one-times}
use Rattle.digits.proofs.Steps.{step-size, step_value, step-rest, step-last, step_less, step-zero, no_minus-half}

-- what is left after no step, and after one step more, at the code's p + 1
pub rest-none : (b w : ℕ) → rest_of b 0 w ≡ w
unfolding rest_of
rest-none b w = refl

pub rest_more : (b p w : ℕ) → rest_of b (p + 1) w ≡ (step_of b (rest_of b p w)).rest
unfolding rest_of
rest_more b p w = rw (add-one p) refl

-- no steps leave more than there was
pub rest-less : (b p w : ℕ) → 2 ≤ b → rest_of b p w ≤ w
unfolding rest_of
rest-less b zero w h = le_refl w
rest-less b (suc p) w h = le_trans (step_less b (rest_of b p w) h) (rest-less b p w h)

-- the digits of an entry are its sign times those of its size
pub digit_by-sign : (b : ℕ) (z : ℤ) (p : ℕ) → digit_of b z p ≡ sign_of z *ℤ (step_of b (rest_of b p (nat_abs z))).digit
unfolding digit_of sign_of
digit_by-sign b (pos w) p = sym (one-times (step_of b (rest_of b p w)).digit)
digit_by-sign b (negsuc w) p = sym (minus-one-times (step_of b (rest_of b p (suc w))).digit)

-- each digit is at most h = b/2 in size
pub digit_bound : (b : ℕ) (z : ℤ) (p : ℕ) → 2 ≤ b → nat_abs (digit_of b z p) ≤ b / 2
unfolding digit_of
digit_bound b (pos w) p h = step-size b (rest_of b p w) h
digit_bound b (negsuc w) p h = rw (nat_abs_negate (step_of b (rest_of b p (suc w))).digit) (step-size b (rest_of b p (suc w)) h)

-- at an even base b = 2h no entry from 0 on has a digit −h
pub above_no_minus-half : (h w p : ℕ) → 1 ≤ h → digit_of (2 * h) (pos w) p ≢ neg_ℤ (pos h)
unfolding digit_of
above_no_minus-half h w p l = no_minus-half h (rest_of (2 * h) p w) l

-- and none below 0 has a digit h
pub below_no_half : (h w p : ℕ) → 1 ≤ h → digit_of (2 * h) (negsuc w) p ≢ pos h
unfolding digit_of
below_no_half h w p l e = no_minus-half h (rest_of (2 * h) p (suc w)) l (sym (neg_ℤ-neg_ℤ (step_of (2 * h) (rest_of (2 * h) p (suc w))).digit) ∙ ap neg_ℤ e)

-- 0 leaves 0, and its digits are 0
rest-of-zero : (b p : ℕ) → rest_of b p 0 ≡ 0
unfolding rest_of
rest-of-zero b zero = refl
rest-of-zero b (suc p) = ap (λ (n : ℕ). (step_of b n).rest) (rest-of-zero b p) ∙ ap (λ (s : Step). s.rest) (step-zero b)

pub digit_zero : (b p : ℕ) → digit_of b (pos 0) p ≡ pos 0
unfolding digit_of
digit_zero b p = ap (λ (n : ℕ). (step_of b n).digit) (rest-of-zero b p) ∙ ap (λ (s : Step). s.digit) (step-zero b)

-- the negated entry has the negated digits
pub digit_negate : (b : ℕ) (z : ℤ) (p : ℕ) → digit_of b (neg_ℤ z) p ≡ neg_ℤ (digit_of b z p)
unfolding digit_of
digit_negate b (pos zero) p = digit_zero b p ∙ ap neg_ℤ (sym (digit_zero b p))
digit_negate b (pos (suc w)) p = refl
digit_negate b (negsuc w) p = sym (neg_ℤ-neg_ℤ (step_of b (rest_of b p (suc w))).digit)

-- after p steps the digits so far and b^p times what is left make the size
pub digits_so_far : (b w p : ℕ) → 2 ≤ b → sum p (λ i. (step_of b (rest_of b i w)).digit *ℤ pos (b ^ i)) +ℤ pos (b ^ p * rest_of b p w) ≡ pos w
unfolding sum rest_of
digits_so_far b w zero h = ap pos (rw (pow-zero b) (omega arith))
digits_so_far b w (suc p) h = rw (pow-suc b p)
    (regroup (sum p (λ i. (step_of b (rest_of b i w)).digit *ℤ pos (b ^ i))) (step_of b (rest_of b p w)).digit (b ^ p) (step_of b (rest_of b p w)).rest
    ∙ ap (λ z. sum p (λ i. (step_of b (rest_of b i w)).digit *ℤ pos (b ^ i)) +ℤ pos (b ^ p) *ℤ z) (step_value b (rest_of b p w) h)
    ∙ digits_so_far b w p h)
  where
    regroup : (s d : ℤ) (c n : ℕ) → s +ℤ d *ℤ pos c +ℤ pos (c * b * n) ≡ s +ℤ pos c *ℤ (d +ℤ pos b *ℤ pos n)
    regroup s d c n = rw (as_diff s, as_diff d) (simp ring (diff_eq _ _ _ _ (omega arith)))

-- p steps leave at most b^j of a size up to b^(j + p)
pub rest-bound : (b w p j : ℕ) → 2 ≤ b → w ≤ b ^ (j + p) → rest_of b p w ≤ b ^ j
unfolding rest_of
rest-bound b w zero j h l = rw add-zero at l
rest-bound b w (suc p) j h l = step-rest b (rest_of b p w) h j (rest-bound b w p (suc j) h (rw (suc-add j p, ← add-suc j p) l))

-- j + 1 steps leave nothing of a size up to b^j
pub rest-zero : (b w j : ℕ) → 2 ≤ b → w ≤ b ^ j → rest_of b (suc j) w ≡ 0
unfolding rest_of
rest-zero b w j h l = step-last b (rest_of b j w) h (omega (arith, rest-bound b w j 0 h (rw (zero-add j) l), pow-zero b))

recompose-size : (b w j : ℕ) → 2 ≤ b → w ≤ b ^ j → sum (suc j) (λ i. (step_of b (rest_of b i w)).digit *ℤ pos (b ^ i)) ≡ pos w
recompose-size b w j h l = sym (+ℤ_idr _) ∙ rw (rest-zero b w j h l, mul-zero) at (digits_so_far b w (suc j) h)

-- j + 1 digits of an entry of size up to b^j recompose to it
pub recompose : (b : ℕ) (z : ℤ) (j : ℕ) → 2 ≤ b → nat_abs z ≤ b ^ j → sum (suc j) (λ p. digit_of b z p *ℤ pos (b ^ p)) ≡ z
unfolding digit_of
recompose b (pos w) j h l = recompose-size b w j h l
recompose b (negsuc w) j h l = sum_cong (suc j) _ _ (λ p k. neg-* (step_of b (rest_of b p (suc w))).digit (pos (b ^ p)))
    ∙ sym (sum_negate (suc j) (λ p. (step_of b (rest_of b p (suc w))).digit *ℤ pos (b ^ p)))
    ∙ ap neg_ℤ (recompose-size b (suc w) j h l)
  where
    neg-* : (x y : ℤ) → neg_ℤ x *ℤ y ≡ neg_ℤ (x *ℤ y)
    neg-* x y = rw (as_diff x, as_diff y) (simp ring (diff_eq _ _ _ _ (omega arith)))

-- a size whose square is at most B < b^(2j) is at most b^j
pub size-bound : (b w j B : ℕ) → w * w ≤ B → B < b ^ (2 * j) → w ≤ b ^ j
size-bound b w j B h l = by_contra w (b ^ j) (λ k. clash k)
  where
    twice : b ^ (2 * j) ≡ b ^ j * b ^ j
    twice = rw (two-mul j) (pow-add b j j)

    clash : b ^ j < w → ⊥
    clash k = omega (arith, twice, mul-le-mul {n₁ = b ^ j} {m₁ = b ^ j} {n₂ = w} {m₂ = w} (omega arith) (omega arith))

-- the k digits of an entry recompose to it where its square is at most B < b^(2(k − 1)), and k steps leave nothing of it
module _ (b k B : ℕ) (z : ℤ) (base : 2 ≤ b) (steps : 2 ≤ k) (above : B < b ^ (2 * (k - 1))) (within : nat_abs z * nat_abs z ≤ B) where
  small : nat_abs z ≤ b ^ (k - 1)
  small = size-bound b (nat_abs z) (k - 1) B within above

  count : suc (k - 1) ≡ k
  count = omega arith

  pub recompose-within : sum k (λ p. digit_of b z p *ℤ pos (b ^ p)) ≡ z
  recompose-within = rw count at (recompose b z (k - 1) base small)

  pub rest-zero-within : rest_of b k (nat_abs z) ≡ 0
  rest-zero-within = rw count at (rest-zero b (nat_abs z) (k - 1) base small)
