-- Products by a decoded challenge are those by the matrix that it stands for.
use mathlib.Core.Path.{◌≡◌, refl, ◌∙◌, ap}
use mathlib.Core.List.{List}
use Prim.Native.Nat.{ℕ}
use lib.IntN.{ℤ, pos}
use Rattle.integers.specs.Residues.{word}
use Rattle.matrices.specs.Matrices.{Matrix, product, both_sides, Agree}
use Rattle.matrices.specs.Tables.{table, residues}
use Rattle.matrices.proofs.Matrices.{product_cong, both_sides_cong}
use Rattle.matrices.proofs.Tables.{table_cong}
use Rattle.small_rows.specs.Columns.{by_columns}

module _ (rows t : ℕ) (q : List ℤ) (C : Matrix) (same : Agree rows t (by_columns q) C) where
  entry-same : (n : ℕ) (X : Matrix) → Agree n t (product rows X (by_columns q)) (product rows X C)
  entry-same n X i j hi hj = product_cong rows X X (by_columns q) C i j (λ k h. refl) (λ k h. same k j h hj)

  -- what is written as X times q is X C, as S' is S~ C, and modulo 2^64, as T' is T~ C
  pub product-same : (n : ℕ) (X : Matrix) (out : List ℤ) → out ≡ table n t (product rows X (by_columns q)) → out ≡ table n t (product rows X C)
  product-same n X out is = is ∙ table_cong (pos 0) n t _ _ (entry-same n X)

  pub words_same : (n : ℕ) (X : Matrix) (out : List ℕ) → out ≡ residues n t (product rows X (by_columns q)) → out ≡ residues n t (product rows X C)
  words_same n X out is = is ∙ table_cong 0 n t _ _ (λ i j hi hj. ap word (entry-same n X i j hi hj))

  -- C transposed times D times C
  pub gram-same : (D : Matrix) (out : List ℤ) → out ≡ table t t (both_sides rows (by_columns q) D) → out ≡ table t t (both_sides rows C D)
  gram-same D out is = is ∙ table_cong (pos 0) t t _ _ (λ i j hi hj.
      both_sides_cong rows (by_columns q) C D D i j (λ k h. same k i h hi) (λ k h. same k j h hj) (λ x y hx hy. refl))
