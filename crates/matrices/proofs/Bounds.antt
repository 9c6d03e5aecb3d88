-- Bounds of products: from bounds of the entries, and from the columns' squared lengths.
use Rattle.std.proofs.Common.{◌≡◌, ℕ, ◌+◌, ◌*◌, ◌<◌, ◌≤◌, pos, ◌*ℤ◌, nat_abs, ◌∙◌, le_trans, mul-le-mul, arith}
use Rattle.integers.proofs.Sizes.{nat_abs-*, square-nat_abs}
use Rattle.integers.proofs.Sums.{sum_cong, sum_ℕ_cong, sum_ℕ-le, sum_ℕ-term, nat_abs-sum, products-squares, sum-pos}
use Rattle.matrices.specs.Matrices.{Matrix, product, transposed, gram, both_sides, squared_length, sizes}

-- an entry of a product is no larger in size than that sum
pub product-size : (p : ℕ) (X Y : Matrix) (i j : ℕ) → nat_abs (product p X Y i j) ≤ sizes p X Y i j
product-size p X Y i j = nat_abs-sum p (λ k. X i k *ℤ Y k j)

-- entries within x and y: their products' sizes sum to at most p x y
pub sizes-bound : (p x y : ℕ) (X Y : Matrix) (i j : ℕ) → ((k : ℕ) → k < p → nat_abs (X i k) ≤ x) → ((k : ℕ) → k < p → nat_abs (Y k j) ≤ y)
    → sizes p X Y i j ≤ p * (x * y)
sizes-bound p x y X Y i j f g = sum_ℕ-le p (x * y) _ (λ k h. rw (nat_abs-* (X i k) (Y k j)) (mul-le-mul (f k h) (g k h)))

-- and so the entry itself is within p x y
pub product-bound : (p x y : ℕ) (X Y : Matrix) (i j : ℕ) → ((k : ℕ) → k < p → nat_abs (X i k) ≤ x) → ((k : ℕ) → k < p → nat_abs (Y k j) ≤ y)
    → nat_abs (product p X Y i j) ≤ p * (x * y)
product-bound p x y X Y i j f g = le_trans (product-size p X Y i j) (sizes-bound p x y X Y i j f g)

-- two columns: twice the sizes of their products sum to at most the two squared lengths, since 2 x y ≤ x² + y²
pub cross-bound : (m : ℕ) (X Y : Matrix) (i j : ℕ) → 2 * sizes m (transposed X) Y i j ≤ squared_length m X i + squared_length m Y j
cross-bound m X Y i j = rw (sum_ℕ_cong m _ (λ k. nat_abs (X k i) * nat_abs (Y k j)) (λ k h. nat_abs-* (X k i) (Y k j)))
    (products-squares m (λ k. nat_abs (X k i)) (λ k. nat_abs (Y k j)))

-- so two columns of squared length at most B have products whose sizes sum to at most B
pub cross-within : (m B : ℕ) (X Y : Matrix) (i j : ℕ) → squared_length m X i ≤ B → squared_length m Y j ≤ B → sizes m (transposed X) Y i j ≤ B
cross-within m B X Y i j f g = omega (arith, cross-bound m X Y i j)

-- and the product of the two columns is within B
pub cross-size : (m B : ℕ) (X Y : Matrix) (i j : ℕ) → squared_length m X i ≤ B → squared_length m Y j ≤ B → nat_abs (product m (transposed X) Y i j) ≤ B
cross-size m B X Y i j f g = le_trans (product-size m (transposed X) Y i j) (cross-within m B X Y i j f g)

-- an entry's square is at most its column's squared length
pub entry-squared : (m : ℕ) (X : Matrix) (i j : ℕ) → i < m → nat_abs (X i j) * nat_abs (X i j) ≤ squared_length m X j
entry-squared m X i j h = sum_ℕ-term m i (λ i. nat_abs (X i j) * nat_abs (X i j)) h

-- a column of m entries within s has a squared length of at most m s²
pub squared-bound : (m s : ℕ) (X : Matrix) (j : ℕ) → ((i : ℕ) → i < m → nat_abs (X i j) ≤ s) → squared_length m X j ≤ m * (s * s)
squared-bound m s X j f = sum_ℕ-le m (s * s) _ (λ i h. mul-le-mul (f i h) (f i h))

-- the Gram matrix has the squared lengths on its diagonal
pub gram-diagonal : (m : ℕ) (X : Matrix) (j : ℕ) → gram m X j j ≡ pos (squared_length m X j)
gram-diagonal m X j = sum_cong m _ _ (λ i h. square-nat_abs (X i j)) ∙ sum-pos m (λ i. nat_abs (X i j) * nat_abs (X i j))

-- C transposed times D times C, for any D with entries within M and a C with entries within c
module _ (p c M : ℕ) (C D : Matrix) (i j : ℕ) (left : (k : ℕ) → k < p → nat_abs (C k i) ≤ c) (right : (k : ℕ) → k < p → nat_abs (C k j) ≤ c)
    (within : (x y : ℕ) → x < p → y < p → nat_abs (D x y) ≤ M) where
  -- both of the sums that make it: C transposed times D first, and that times C
  pub both_sides-first : (k : ℕ) → k < p → sizes p (transposed C) D i k ≤ p * (c * M)
  both_sides-first k h = sizes-bound p c M (transposed C) D i k left (λ q l. within q k l h)

  pub both_sides-sizes : sizes p (product p (transposed C) D) C i j ≤ p * (p * (c * c * M))
  both_sides-sizes = le_trans
      (sizes-bound p (p * (c * M)) c (product p (transposed C) D) C i j (λ k h. le_trans (product-size p (transposed C) D i k) (both_sides-first k h)) right)
      (omega arith)

  pub both_sides-bound : nat_abs (both_sides p C D i j) ≤ p * (p * (c * c * M))
  both_sides-bound = le_trans (product-size p (product p (transposed C) D) C i j) both_sides-sizes
