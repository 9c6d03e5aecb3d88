-- A challenge on repeated columns is the contracted challenge on the columns once.
use mathlib.Core.Path.{◌≡◌, refl, sym, ◌∙◌, ap, ap₂}
use Prim.Native.Nat.{ℕ, ◌+◌, ◌*◌, ◌%◌, ◌<◌, ◌≤◌}
use native.Mathlib.Omega.{arith}
use lib.Arith.{digits_mod, le→nltb}
use lib.Dec.{ltb, lt→ltb}
use lib.IntN.{ℤ, ◌+ℤ◌, ◌*ℤ◌, *ℤ_comm}
use Rattle.integers.specs.Sums.{sum}
use Rattle.integers.proofs.Sums.{sum_cong, sum-split, sum-blocks, sum-swap, sum_mul_left}
use Rattle.integers.proofs.Tests.{cond_yes, cond_no}
use Rattle.matrices.specs.Matrices.{Matrix, product, transposed, both_sides, contracted}
use Rattle.matrices.proofs.Matrices.{product_cong}
use Rattle.matrices.proofs.Contracted.{contracted-left, contracted-right}
use Rattle.lova.specs.Repeats.{place_of}

module _ (t k : ℕ) where
  pub place-left : (c : ℕ) → c < t * k → place_of t k c ≡ c
  unfolding place_of
  place-left c h = cond_yes (ltb c (t * k)) c (t * k + c % k) (lt→ltb c (t * k) h)

  pub place-right : (c : ℕ) → t * k ≤ c → place_of t k c ≡ t * k + c % k
  unfolding place_of
  place-right c h = cond_no (ltb c (t * k)) c (t * k + c % k) (le→nltb c (t * k) h)

  -- digit q of column j of the second witness
  pub place_digit : (a q : ℕ) → q < k → place_of t k (t * k + (a * k + q)) ≡ t * k + q
  place_digit a q h =
      place-right (t * k + (a * k + q)) (omega arith)
      ∙ ap (λ (x : ℕ). t * k + x % k) (joined t a k q)
      ∙ ap (λ (x : ℕ). t * k + x) (digits_mod (t + a) h)
    where
      joined : (t a k q : ℕ) → t * k + (a * k + q) ≡ (t + a) * k + q
      joined t a k q = omega arith

  -- the challenge for the columns once: the rows that meet the same column of v's digits, summed
  abbrev K : Matrix → Matrix
  K C = contracted (t * k) k t C

  -- a sum over the repeated columns
  pub contracts : (g : ℕ → ℤ) (C : Matrix) (j : ℕ)
      → sum (t * k + t * k) (λ c. g (place_of t k c) *ℤ C c j) ≡ sum (t * k + k) (λ c. g c *ℤ K C c j)
  contracts g C j =
      sum-split (t * k) (t * k) _
      ∙ ap₂ ◌+ℤ◌
      (sum_cong (t * k) _ (λ c. g c *ℤ K C c j) (λ c h. ap₂ (λ (x : ℕ) (y : ℤ). g x *ℤ y) (place-left c h) (sym (contracted-left (t * k) k t C c j h))))
      (sum-blocks t k _
      ∙ sum-swap t k _
      ∙ sum_cong k _ (λ q. g (t * k + q) *ℤ K C (t * k + q) j) (λ q h.
      sum_cong t _ (λ a. g (t * k + q) *ℤ C (t * k + (a * k + q)) j) (λ a l. ap (λ (x : ℕ). g x *ℤ C (t * k + (a * k + q)) j) (place_digit a q h))
      ∙ sym (sum_mul_left t (g (t * k + q)) (λ a. C (t * k + (a * k + q)) j))
      ∙ ap (λ (y : ℤ). g (t * k + q) *ℤ y) (sym (contracted-right (t * k) k t C q j))))
      ∙ sym (sum-split (t * k) k _)

  -- X C, where X has repeated columns
  pub product-contracts : (X C : Matrix) (i j : ℕ)
      → product (t * k + t * k) (λ i c. X i (place_of t k c)) C i j ≡ product (t * k + k) X (K C) i j
  product-contracts X C i j = contracts (X i) C j

  -- C-transposed D C, where D has repeated rows and columns
  pub sides_contract : (D C : Matrix) (i j : ℕ)
      → both_sides (t * k + t * k) C (λ a c. D (place_of t k a) (place_of t k c)) i j ≡ both_sides (t * k + k) (K C) D i j
  sides_contract D C i j =
      product_cong (t * k + t * k) (product (t * k + t * k) (transposed C) (λ a c. D (place_of t k a) (place_of t k c))) (λ i c. product (t * k + k) (transposed (K C)) D i (place_of t k c)) C C i j
      (λ c h. sum_cong (t * k + t * k) _ (λ a. D (place_of t k a) (place_of t k c) *ℤ C a i) (λ a l. *ℤ_comm (C a i) (D (place_of t k a) (place_of t k c)))
      ∙ contracts (λ a. D a (place_of t k c)) C i
      ∙ sum_cong (t * k + k) _ _ (λ a l. *ℤ_comm (D a (place_of t k c)) (K C a i)))
      (λ c h. refl)
      ∙ product-contracts (product (t * k + k) (transposed (K C)) D) C i j
