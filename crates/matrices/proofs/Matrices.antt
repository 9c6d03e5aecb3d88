-- The algebra of products, over whole numbers and modulo 2^64.
use Rattle.std.proofs.Common.{◌≡◌, ℕ, ◌*◌, ◌^◌, ◌<◌, ℤ, pos, ◌*ℤ◌, nat_abs, sym, refl, ap, ◌∙◌, ap₂, arith}
use lib.IntN.{*ℤ_comm}
use Rattle.integers.specs.Sums.{sum}
use Rattle.integers.specs.Residues.{residue, word}
use Rattle.integers.proofs.Ring.{*ℤ-assoc}
use Rattle.integers.proofs.Sums.{sum_cong, sum_mul_left, sum_mul_right, sum-swap, sum_ℕ_cong}
use Rattle.integers.proofs.Residues.{residue-residue, residue-*-cong, residue-sum_cong}
use Rattle.matrices.specs.Matrices.{Matrix, product, transposed, gram, both_sides, squared_length, Agree}

-- (X Y) Z = X (Y Z)
pub product_assoc : (p q : ℕ) (X Y Z : Matrix) (i j : ℕ) → product q (product p X Y) Z i j ≡ product p X (product q Y Z) i j
product_assoc p q X Y Z i j =
    sum_cong q _ (λ l. sum p (λ k. X i k *ℤ (Y k l *ℤ Z l j)))
    (λ l h. sum_mul_right p (Z l j) (λ k. X i k *ℤ Y k l) ∙ sum_cong p _ _ (λ k h. *ℤ-assoc (X i k) (Y k l) (Z l j)))
    ∙ sum-swap q p (λ l k. X i k *ℤ (Y k l *ℤ Z l j))
    ∙ sum_cong p _ _ (λ k h. sym (sum_mul_left q (X i k) (λ l. Y k l *ℤ Z l j)))

-- (X Y) transposed is Y transposed times X transposed
pub transposed-product : (p : ℕ) (X Y : Matrix) (i j : ℕ) → transposed (product p X Y) i j ≡ product p (transposed Y) (transposed X) i j
transposed-product p X Y i j = sum_cong p _ _ (λ k h. *ℤ_comm (X j k) (Y k i))

-- a product's entry depends on a row of the first factor and a column of the second alone
pub product_cong : (p : ℕ) (X X' Y Y' : Matrix) (i j : ℕ) → ((k : ℕ) → k < p → X i k ≡ X' i k) → ((k : ℕ) → k < p → Y k j ≡ Y' k j)
    → product p X Y i j ≡ product p X' Y' i j
product_cong p X X' Y Y' i j f g = sum_cong p _ _ (λ k h. ap₂ ◌*ℤ◌ (f k h) (g k h))

-- an entry of C transposed times D times C depends on two columns of C and the first p rows and columns of D alone
pub both_sides_cong : (p : ℕ) (C C' D D' : Matrix) (i j : ℕ) → ((k : ℕ) → k < p → C k i ≡ C' k i) → ((k : ℕ) → k < p → C k j ≡ C' k j)
    → Agree p p D D' → both_sides p C D i j ≡ both_sides p C' D' i j
both_sides_cong p C C' D D' i j f g h =
    product_cong p (product p (transposed C) D) (product p (transposed C') D') C C' i j
    (λ k l. product_cong p (transposed C) (transposed C') D D' i k f (λ q r. h q k r l)) g

-- a column's squared length depends on that column alone
pub squared_length_cong : (m : ℕ) (X X' : Matrix) (j : ℕ) → ((i : ℕ) → i < m → X i j ≡ X' i j) → squared_length m X j ≡ squared_length m X' j
squared_length_cong m X X' j f = sum_ℕ_cong m _ _ (λ i h. ap (λ (z : ℤ). nat_abs z * nat_abs z) (f i h))

-- C transposed times the Gram matrix of X times C is the Gram matrix of X C
pub both_sides-gram : (m p : ℕ) (X C : Matrix) (i j : ℕ) → both_sides p C (gram m X) i j ≡ gram m (product p X C) i j
both_sides-gram m p X C i j =
    product_assoc p p (transposed C) (gram m X) C i j
    ∙ product_cong p (transposed C) (transposed C) (product p (gram m X) C) (product m (transposed X) (product p X C)) i j
    (λ k h. refl) (λ k h. product_assoc m p (transposed X) X C k j)
    ∙ sym (product_assoc p m (transposed C) (transposed X) (product p X C) i j)
    ∙ product_cong m (product p (transposed C) (transposed X)) (transposed (product p X C)) (product p X C) (product p X C) i j
    (λ k h. sym (transposed-product p X C i k)) (λ k h. refl)

-- factors of the same residues have products of the same residue
pub residue-product_cong : (M : ℕ) → 0 < M → (p : ℕ) (X X' Y Y' : Matrix) (i j : ℕ)
    → ((k : ℕ) → k < p → residue M (X i k) ≡ residue M (X' i k)) → ((k : ℕ) → k < p → residue M (Y k j) ≡ residue M (Y' k j))
    → residue M (product p X Y i j) ≡ residue M (product p X' Y' i j)
residue-product_cong M h p X X' Y Y' i j f g = residue-sum_cong M h p _ _ (λ k l. residue-*-cong M h _ _ _ _ (f k l) (g k l))

-- (A X modulo 2^64) C = A (X C), modulo 2^64
pub word-product : (m p : ℕ) (A X C : Matrix) (i j : ℕ)
    → word (product p (λ i k. pos (word (product m A X i k))) C i j) ≡ word (product m A (product p X C) i j)
word-product m p A X C i j =
    residue-product_cong (2 ^ 64) (omega arith) p (λ i k. pos (word (product m A X i k))) (product m A X) C C i j
    (λ k h. residue-residue (2 ^ 64) (omega arith) (product m A X i k)) (λ k h. refl)
    ∙ ap word (product_assoc m p A X C i j)
