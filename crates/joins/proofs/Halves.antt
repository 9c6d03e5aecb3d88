-- Rows that are written in two halves, and matrices one above the other.
use mathlib.Core.Path.{◌≡◌, refl, sym, ◌∙◌, ap}
use mathlib.Core.Logic.{⊎_elim}
use mathlib.Core.List.{List, ◌++◌}
use Prim.Native.Nat.{ℕ, ◌+◌, ◌-◌, ◌*◌, ◌/◌, ◌%◌, ◌<◌, ◌≤◌}
use native.Mathlib.Omega.{arith}
use native.Mathlib.Nat.{add-mul}
use lib.Arith.{le→nltb, digits_lt, digits_div, digits_mod}
use lib.Dec.{ltb, lt→ltb}
use lib.ListN.{length, get_or, take, drop, length-append, get_or-append}
use lib.Seq.{get_or-append-add}
use Rattle.integers.proofs.Lists.{filled-part}
use Rattle.integers.proofs.Tests.{cond_yes, cond_no, le_or_lt}
use Rattle.matrices.specs.Matrices.{Matrix}
use Rattle.matrices.specs.Tables.{table, entry}
use Rattle.matrices.proofs.Tables.{TableTo, row_within, length-table, entry-table, table_of}
use Rattle.lova.specs.declared.Profile.{Profile}
use Rattle.lova.specs.Fold.{beside}
use Rattle.lova.proofs.Blocks.{beside-left, beside-right}
use Rattle.joins.specs.Columns.{column_of, halves}

-- the two halves of a row of [X Y], where the columns of Y are spread
module _ {A : Type 0} (f : Profile) (t : ℕ) (X Y : ℕ → ℕ → A) (i j : ℕ) where
  pub halves_first : j < t → X i j ≡ halves f t X Y i (0 + j)
  halves_first h = let e : 0 + j ≡ j = omega arith in rw e (sym (cond_yes (ltb j t) (X i j) (Y i (column_of f (j - t))) (lt→ltb j t h)))

  pub halves-second : Y i (column_of f j) ≡ halves f t X Y i (t + j)
  halves-second =
      let e : t + j - t ≡ j = omega arith in
      sym (cond_no (ltb (t + j) t) (X i (t + j)) (Y i (column_of f (t + j - t))) (le→nltb (t + j) t (omega arith)) ∙ ap (λ (x : ℕ). Y i (column_of f x)) e)

-- the two halves of a row of [X Y]
module _ (t : ℕ) (X Y : Matrix) (i j : ℕ) where
  pub beside_first : j < t → X i j ≡ beside t X Y i (0 + j)
  beside_first h = let e : 0 + j ≡ j = omega arith in rw e (sym (beside-left t X Y i j h))

  pub beside-second : Y i j ≡ beside t X Y i (t + j)
  beside-second = let e : t + j - t ≡ j = omega arith in sym (beside-right t X Y i (t + j) (omega arith) ∙ ap (Y i) e)

module _ {A : Type 0} (d : A) where
  module _ (rows cols : ℕ) (F : ℕ → ℕ → A) (out : List A) where
    -- half of row i, from column s on, was lent as a part of out and has come back
    pub table-half : (i s p : ℕ) (half : List A) → p ≡ i * (2 * cols) + s → i < rows → s + cols ≤ 2 * cols → length half ≡ cols
        → ((j : ℕ) → j < cols → get_or half j d ≡ F i (s + j)) → TableTo d rows (2 * cols) F out p
        → TableTo d rows (2 * cols) F (take p out ++ (half ++ drop (p + cols - p) (drop p out))) (p + cols)
    table-half i s p half e hi hs l g w =
        let size : p + cols - p ≡ cols = omega arith in
        rw size (filled-part (rows * (2 * cols)) (λ x. F (x / (2 * cols)) (x % (2 * cols))) d p cols out half
        (omega (arith, row_within rows (2 * cols) i hi)) l
        (λ j h. g j h ∙ place j h) w)
      where
        place : (j : ℕ) → j < cols → F i (s + j) ≡ F ((p + j) / (2 * cols)) ((p + j) % (2 * cols))
        place j h =
            let q : p + j ≡ i * (2 * cols) + (s + j) = omega arith in
            let small : s + j < 2 * cols = omega arith in
            rw (q, digits_div i small, digits_mod i small) refl

  -- two matrices written one after the other
  pub tables_above : (r s cols : ℕ) (X Y : ℕ → ℕ → A) (Z : ℕ → ℕ → A) → ((i j : ℕ) → i < r → Z i j ≡ X i j) → ((i j : ℕ) → r ≤ i → Z i j ≡ Y (i - r) j)
      → table r cols X ++ table s cols Y ≡ table (r + s) cols Z
  tables_above r s cols X Y Z upper lower = table_of d (r + s) cols Z (table r cols X ++ table s cols Y)
      (length-append (table r cols X) (table s cols Y) ∙ size)
      (λ i j hi hj. ⊎_elim (λ (h : r ≤ i). below i j h hi hj) (λ (h : i < r). over i j h hj) (le_or_lt r i))
    where
      size : length (table r cols X) + length (table s cols Y) ≡ (r + s) * cols
      size = omega (arith, length-table r cols X, length-table s cols Y, add-mul r s cols)

      over : (i j : ℕ) → i < r → j < cols → entry d cols (table r cols X ++ table s cols Y) i j ≡ Z i j
      over i j h hj = get_or-append (table r cols X) (table s cols Y) d (i * cols + j) (omega (arith, digits_lt h hj, length-table r cols X))
          ∙ entry-table d r cols X i j h hj ∙ sym (upper i j h)

      below : (i j : ℕ) → r ≤ i → i < r + s → j < cols → entry d cols (table r cols X ++ table s cols Y) i j ≡ Z i j
      below i j h hi hj =
          let at : i * cols + j ≡ length (table r cols X) + ((i - r) * cols + j) = omega (arith, length-table r cols X, sub_mul i r h) in
          ap (λ (n : ℕ). get_or (table r cols X ++ table s cols Y) n d) at ∙ get_or-append-add (table r cols X) (table s cols Y) ((i - r) * cols + j) d
          ∙ entry-table d s cols Y (i - r) j (omega arith) hj ∙ sym (lower i j h)
        where
          sub_mul : (i r : ℕ) → r ≤ i → (i - r) * cols + r * cols ≡ i * cols
          sub_mul i r h = let e : (i - r) + r ≡ i = omega arith in sym (add-mul (i - r) r cols) ∙ ap (λ (n : ℕ). n * cols) e
