-- A form by the lower triangle of its matrix: entries off the diagonal count twice.
use mathlib.Core.Path.{◌≡◌, refl, sym, ap, ap₂, ◌∙◌}
use mathlib.Core.Logic.{⊎_elim}
use mathlib.Core.List.{List}
use Prim.Native.Nat.{ℕ, zero, suc, ◌+◌, ◌<◌}
use native.Mathlib.Omega.{arith}
use lib.IntN.{ℤ, pos, ◌+ℤ◌, ◌*ℤ◌}
use lib.ListN.{get_or}
use Rattle.integers.specs.Sums.{sum}
use Rattle.integers.proofs.Sums.{sum_cong, sum_mul_left, sum_mul_right}
use Rattle.integers.proofs.Ring.{ring, diff_eq, as_diff}
use Rattle.matrices.specs.Triangles.{triangular, mirrored}
use Rattle.matrices.proofs.Matrices.{both_sides_cong}
use Rattle.matrices.proofs.Triangles.{mirrored-low, mirrored-symmetric}
use Rattle.quadratic_forms.specs.Forms.{Vector, put, form}
use Rattle.quadratic_forms.proofs.Forms.{put_last, put-below, last_or_below, cross, form-last}

module _ (e : List ℤ) (c : Vector) where
  abbrev entry : ℕ → ℕ → ℤ
  entry i j = get_or e (triangular i + j) (pos 0)

  -- row i: its square, and twice the products with the coordinates before it
  abbrev row : ℕ → ℤ
  row i = entry i i *ℤ (c i *ℤ c i) +ℤ pos 2 *ℤ sum i (λ j. entry i j *ℤ (c i *ℤ c j))

  -- a vector has its own last entry
  put-own : (n i : ℕ) → i < suc n → put n (c n) c i ≡ c i
  put-own n i h = ⊎_elim (λ (k : i ≡ n). ap (put n (c n) c) k ∙ put_last n (c n) c ∙ ap c (sym k)) (λ (k : i < n). put-below n (c n) c i k) (last_or_below i n h)

  -- the linear part, by the last row alone
  cross-row : (n : ℕ) → cross n (mirrored e) c *ℤ c n ≡ pos 2 *ℤ sum n (λ j. entry n j *ℤ (c n *ℤ c j))
  cross-row n =
      sum_mul_right n (c n) _
      ∙ sum_cong n _ _ (λ j h. ap₂ (λ (a b : ℤ). (a +ℤ b) *ℤ c j *ℤ c n) (mirrored-low e n j (omega arith)) (mirrored-symmetric e j n ∙ mirrored-low e n j (omega arith))
      ∙ doubled (entry n j) (c j) (c n))
      ∙ sym (sum_mul_left n (pos 2) _)
    where
      doubled : (x a b : ℤ) → (x +ℤ x) *ℤ a *ℤ b ≡ pos 2 *ℤ (x *ℤ (b *ℤ a))
      doubled x a b = rw (as_diff x, as_diff a, as_diff b) (simp ring (diff_eq _ _ _ _ (omega arith)))

  pub twice : (N : ℕ) → form N (mirrored e) c ≡ sum N row
  unfolding sum
  twice zero = refl
  twice (suc n) =
      both_sides_cong (suc n) (λ i j. c i) (λ i j. put n (c n) c i) (mirrored e) (mirrored e) 0 0
      (λ k h. sym (put-own n k h)) (λ k h. sym (put-own n k h)) (λ k m h l. refl)
      ∙ form-last n (mirrored e) (c n) c
      ∙ ap₂ (λ (a b : ℤ). a +ℤ b) (twice n)
      (ap₂ (λ (a b : ℤ). a +ℤ b *ℤ (c n *ℤ c n)) (cross-row n) (mirrored-low e n n (omega arith)) ∙ swap (pos 2 *ℤ sum n (λ j. entry n j *ℤ (c n *ℤ c j))) (entry n n *ℤ (c n *ℤ c n)))
    where
      swap : (a b : ℤ) → a +ℤ b ≡ b +ℤ a
      swap a b = rw (as_diff a, as_diff b) (simp ring (diff_eq _ _ _ _ (omega arith)))
