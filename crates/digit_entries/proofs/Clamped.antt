-- Clamped numbers: what a sum from the top digit down may give up, and what it keeps.
use mathlib.Core.Path.{◌≡◌, refl, sym, ◌∙◌, ap, ap₂, subst}
use mathlib.Core.Bool.{Bool, true, false, not, true≢false}
use mathlib.Core.Logic.{⊎_elim}
use Prim.Native.Nat.{ℕ, zero, suc, ◌+◌, ◌*◌, ◌-◌, ◌<◌, ◌≤◌}
use native.Mathlib.Omega.{arith}
use native.Mathlib.Nat.{mul-suc, mul-le-mul_right}
use lib.Arith.{lt→nleb, le→nltb}
use lib.Dec.{T, leb, ltb, le→leb, leb→le, nleb→lt}
use lib.IntN.{ℤ, pos, negsuc, neg_ℤ, nat_abs, ◌+ℤ◌, ◌*ℤ◌}
use lib.Signed.{lt_z, le_z}
use mir.Syntax.{w64}
use mir.Val.{to_z, of_z}
use Rattle.integers.proofs.Words.{read_back}
use Rattle.integers.proofs.Ring.{diff_eq, diff-pos, diff_add, diff-of-pos, diff-of-negsuc, ring, as_diff}
use Rattle.integers.proofs.Sizes.{nat_abs_negate, nat_abs-*}
use Rattle.integers.proofs.Tests.{cond_ind, cond_yes, cond_no, false-is, le_or_lt}
use Rattle.digits.specs.Digits.{sign_of}
use Rattle.digits.proofs.Signs.{sign-size, one-times, minus-one-times}
use Rattle.digit_entries.specs.Entries.{limit, clamped}

-- a number of at most that size is kept
pub clamped-within : (most : ℕ) (z : ℤ) → nat_abs z ≤ most → clamped most z ≡ z
unfolding clamped
clamped-within most z h = cond_yes (leb (nat_abs z) most) z _ (le→leb (nat_abs z) most h)

-- one that reaches it is that much, by its sign
pub clamped-above : (most e : ℕ) → most ≤ e → clamped most (pos e) ≡ pos most
unfolding clamped sign_of
clamped-above most e h = ⊎_elim
    (λ (l : e ≤ most). cond_yes (leb e most) (pos e) _ (le→leb e most l) ∙ ap pos (omega arith))
    (λ (l : most < e). cond_no (leb e most) (pos e) _ (lt→nleb e most l) ∙ one-times (pos most))
    (le_or_lt e most)

pub clamped-below : (most e : ℕ) → most ≤ suc e → clamped most (negsuc e) ≡ neg_ℤ (pos most)
unfolding clamped sign_of
clamped-below most e h = ⊎_elim
    (λ (l : suc e ≤ most). cond_yes (leb (suc e) most) (negsuc e) _ (le→leb (suc e) most l) ∙ ap (λ (n : ℕ). neg_ℤ (pos n)) (same l))
    (λ (l : most < suc e). cond_no (leb (suc e) most) (negsuc e) _ (lt→nleb (suc e) most l) ∙ minus-one-times (pos most))
    (le_or_lt (suc e) most)
  where
    same : suc e ≤ most → suc e ≡ most
    same l = omega arith

pub clamped-minus : (most e : ℕ) → most ≤ e → clamped most (neg_ℤ (pos e)) ≡ neg_ℤ (pos most)
clamped-minus most zero h = let none : 0 ≡ most = omega arith in clamped-within most (pos 0) (omega arith) ∙ ap (λ (n : ℕ). neg_ℤ (pos n)) none
clamped-minus most (suc e) h = clamped-below most e h

pub clamped-reaches : (most : ℕ) (z : ℤ) → most ≤ nat_abs z → nat_abs (clamped most z) ≡ most
clamped-reaches most (pos e) h = ap nat_abs (clamped-above most e h)
clamped-reaches most (negsuc e) h = ap nat_abs (clamped-below most e h) ∙ nat_abs_negate (pos most)

-- no clamped number is larger, so that the machine reads it as it is
clamped-size : (most : ℕ) (z : ℤ) → nat_abs (clamped most z) ≤ most
unfolding clamped
clamped-size most z = cond_ind (leb (nat_abs z) most) z (sign_of z *ℤ pos most) (λ x. nat_abs x ≤ most)
    (λ t. leb→le (nat_abs z) most t)
    (λ t. rw (nat_abs-* (sign_of z) (pos most), sign-size z) (omega arith))

pub read-clamped : (z x : ℤ) → x ≡ clamped limit z → to_z w64 (of_z w64 x) ≡ clamped limit z
read-clamped z x e = ap (λ (y : ℤ). to_z w64 (of_z w64 y)) e ∙ read_back w64 (clamped limit z) (omega (arith, clamped-size limit z))

-- no number from 0 on is below 0
pub from_zero : (n : ℕ) → lt_z (pos n) (pos 0) ≡ false
from_zero n = false-is (ltb n 0) (le→nltb n 0 (omega arith))

-- the sign stays
pub clamped-sign : (most : ℕ) (z : ℤ) → 1 ≤ most → lt_z (clamped most z) (pos 0) ≡ lt_z z (pos 0)
clamped-sign most z low = ⊎_elim
    (λ (l : nat_abs z ≤ most). ap (λ (x : ℤ). lt_z x (pos 0)) (clamped-within most z l))
    (λ (l : most < nat_abs z). far most z low l)
    (le_or_lt (nat_abs z) most)
  where
    far : (most : ℕ) (z : ℤ) → 1 ≤ most → most < nat_abs z → lt_z (clamped most z) (pos 0) ≡ lt_z z (pos 0)
    far most (pos e) low l = ap (λ (x : ℤ). lt_z x (pos 0)) (clamped-above most e (omega arith)) ∙ from_zero most ∙ sym (from_zero e)
    far (suc most) (negsuc e) low l = ap (λ (x : ℤ). lt_z x (pos 0)) (clamped-below (suc most) e (omega arith))
    far zero (negsuc e) low l = absurd (omega arith)

-- n less l + 1, which is no more
taken : (n l : ℕ) → suc l ≤ n → negsuc l +ℤ pos n ≡ pos (n - suc l)
taken n l h = ap₂ ◌+ℤ◌ (diff-of-negsuc l) (diff-of-pos n) ∙ diff_add 0 (suc l) n 0 ∙ diff-pos (0 + n) (suc l + 0) (n - suc l) (omega arith)

-- a number below P in size, and P times one of at least c, make one of at least c
module _ (P c : ℕ) (some : 1 ≤ c) where
  reached : (low : ℤ) (n : ℕ) → nat_abs low < P → c ≤ n → (e : ℕ) × (low +ℤ pos P *ℤ pos n ≡ pos e) × (c ≤ e)
  reached (pos l) n less h =
      let least : 1 * n ≤ P * n = mul-le-mul_right n (omega arith) in
      (l + P * n, refl, omega arith)
  reached (negsuc l) (suc n) less h =
      let least : 1 * n ≤ P * n = mul-le-mul_right n (omega arith) in
      let room : P * suc n ≡ P * n + P = mul-suc P n in
      (P * suc n - suc l, taken (P * suc n) l (omega arith), omega arith)
  reached (negsuc l) zero less h = absurd (omega arith)

  -- clamped, such a sum is c, or −c below 0
  module _ (low : ℤ) (less : nat_abs low < P) (n : ℕ) (h : c ≤ n) where
    pub given-up-above : clamped c (low +ℤ pos P *ℤ pos n) ≡ pos c
    given-up-above = let r = reached low n less h in ap (clamped c) r.1 ∙ clamped-above c r.0 r.2

    pub given-up-below : clamped c (low +ℤ pos P *ℤ neg_ℤ (pos n)) ≡ neg_ℤ (pos c)
    given-up-below =
        let r = reached (neg_ℤ low) n (rw (nat_abs_negate low) less) h in
        ap (clamped c) (turned low ∙ ap neg_ℤ r.1) ∙ clamped-minus c r.0 r.2
      where
        turned : (z : ℤ) → z +ℤ pos P *ℤ neg_ℤ (pos n) ≡ neg_ℤ (neg_ℤ z +ℤ pos P *ℤ pos n)
        turned z = rw (as_diff z) (simp ring (diff_eq _ _ _ _ (omega arith)))

-- numbers by how the code compares them with c and −c
module _ (c : ℕ) where
  pub at_least : (z : ℤ) → le_z (pos c) z ≡ true → (n : ℕ) × (z ≡ pos n) × (c ≤ n)
  at_least (pos n) e = (n, refl, leb→le c n (subst T (sym e) tt))
  at_least (negsuc n) e = absurd (true≢false (sym e))

  pub at_most : (z : ℤ) → le_z z (negsuc c) ≡ true → (n : ℕ) × (z ≡ neg_ℤ (pos n)) × (suc c ≤ n)
  at_most (pos n) e = absurd (true≢false (sym e))
  at_most (negsuc n) e = (suc n, refl, omega (arith, leb→le c n (subst T (sym e) tt)))

  pub between : (z : ℤ) → le_z (pos (suc c)) z ≡ false → le_z z (negsuc c) ≡ false → nat_abs z < suc c
  between (pos n) e g = nleb→lt (suc c) n (subst (λ (x : Bool). T (not x)) (sym e) tt)
  between (negsuc n) e g = omega (arith, nleb→lt c n (subst (λ (x : Bool). T (not x)) (sym g) tt))
