-- A matrix whose blocks of rows are added up: its entries, and how large they are.
use Rattle.std.proofs.Common.{◌≡◌, ℕ, ◌+◌, ◌-◌, ◌*◌, ◌<◌, ◌≤◌, ltb, ◌+ℤ◌, nat_abs, sym, ap, ◌∙◌, ap₂, ⊎_elim, arith, lt→ltb}
use lib.Arith.{le→nltb}
use Rattle.integers.specs.Sums.{sum}
use Rattle.integers.proofs.Sums.{sum_cong, sum_one, sum_step, nat_abs-sum-le}
use Rattle.integers.proofs.Tests.{cond_yes, cond_no, le_or_lt}
use Rattle.matrices.specs.Matrices.{Matrix, contracted}

module _ (left block copies : ℕ) (C : Matrix) where
  pub contracted-left : (i j : ℕ) → i < left → contracted left block copies C i j ≡ C i j
  unfolding contracted
  contracted-left i j h = cond_yes (ltb i left) _ _ (lt→ltb i left h)

  pub contracted-right : (x j : ℕ) → contracted left block copies C (left + x) j ≡ sum copies (λ a. C (left + (a * block + x)) j)
  unfolding contracted
  contracted-right x j =
      cond_no (ltb (left + x) left) _ _ (le→nltb (left + x) left (omega arith))
      ∙ sum_cong copies _ _ (λ a h. ap (λ (y : ℕ). C (left + (a * block + y)) j) (omega arith))

  -- where C is within 1, the sums are within the number of copies
  pub contracted-size : (i j : ℕ) → 1 ≤ copies → ((i : ℕ) → nat_abs (C i j) ≤ 1) → nat_abs (contracted left block copies C i j) ≤ copies
  contracted-size i j low small = ⊎_elim
      (λ (l : left ≤ i).
      let e : i ≡ left + (i - left) = omega arith in
      rw e (rw (contracted-right (i - left) j) (omega (arith, nat_abs-sum-le copies 1 (λ a. C (left + (a * block + (i - left))) j) (λ a h. small _)))))
      (λ (l : i < left). rw (contracted-left i j l) (omega (arith, small i)))
      (le_or_lt left i)

-- one block more: its rows are added to those from `left` on
pub contracted-more : (left block copies : ℕ) (C : Matrix) (i j : ℕ) → left ≤ i
    → contracted left block (copies + 1) C i j ≡ contracted left block copies C i j +ℤ C (i + copies * block) j
contracted-more left block copies C i j l =
    let e : i ≡ left + (i - left) = omega arith in
    let f : left + (copies * block + (i - left)) ≡ i + copies * block = omega arith in
    ap (λ (i : ℕ). contracted left block (copies + 1) C i j) e
    ∙ contracted-right left block (copies + 1) C (i - left) j
    ∙ sum_step copies (λ a. C (left + (a * block + (i - left))) j)
    ∙ ap₂ ◌+ℤ◌ (sym (contracted-right left block copies C (i - left) j) ∙ ap (λ (i : ℕ). contracted left block copies C i j) (sym e))
    (ap (λ (i : ℕ). C i j) f)

-- one block alone is not added to anything
pub contracted-once : (left block : ℕ) (C : Matrix) (i j : ℕ) → contracted left block 1 C i j ≡ C i j
contracted-once left block C i j = ⊎_elim
    (λ (l : left ≤ i).
    let e : i ≡ left + (i - left) = omega arith in
    rw e (contracted-right left block 1 C (i - left) j ∙ sum_one 1 0 _ (omega arith) (λ a h n. absurd (n (omega arith)))
    ∙ ap (λ (x : ℕ). C (left + x) j) (omega arith)))
    (λ (l : i < left). contracted-left left block 1 C i j l)
    (le_or_lt left i)
