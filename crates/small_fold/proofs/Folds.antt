-- A row of small numbers, padded with zeros, times the columns of a matrix.
use mathlib.Core.Path.{◌≡◌, ◌∙◌, ap}
use mathlib.Core.Logic.{⊎_elim}
use mathlib.Core.List.{List, ◌++◌}
use Prim.Native.Nat.{ℕ, ◌+◌, ◌*◌, ◌-◌, ◌<◌, ◌≤◌}
use native.Mathlib.Omega.{arith}
use native.Mathlib.Nat.{zero-add}
use lib.ListN.{length, get_or, take, drop, get_or-append}
use lib.Seq.{get_or-append-add, get_or-drop, length_front}
use lib.IntN.{ℤ, pos, ◌*ℤ◌}
use Rattle.integers.specs.Lists.{build}
use Rattle.integers.proofs.Lists.{length-build, get_or-build}
use Rattle.integers.proofs.Sums.{sum_cong}
use Rattle.integers.proofs.Tests.{le_or_lt}
use Rattle.matrices.specs.Matrices.{product}
use Rattle.matrices.specs.Tables.{signed}
use Rattle.small_rows.specs.Small.{Within}
use Rattle.dots.specs.Dots.{dots}
use Rattle.small_fold.specs.Padded.{Padded}
use Rattle.small_rows.specs.Columns.{by_columns}

-- row r of s in the place of the first n numbers
module _ (s : List ℤ) (n r : ℕ) (p row : List ℤ) (h : ℕ) (w : Padded h n p) (small : Within h s) (e : row ≡ build n (signed n s r)) where
  size : length row ≡ n
  size = ap length e ∙ length-build n (signed n s r)

  front : (k : ℕ) → k < n → get_or (row ++ drop n p) k (pos 0) ≡ signed n s r k
  front k h =
      get_or-append row (drop n p) (pos 0) k (omega (arith, size))
      ∙ ap (λ (xs : List ℤ). get_or xs k (pos 0)) e
      ∙ get_or-build n (signed n s r) k (pos 0) h

  back : (k : ℕ) → n ≤ k → get_or (row ++ drop n p) k (pos 0) ≡ pos 0
  back k h =
      let i : k ≡ length row + (k - n) = omega (arith, size) in
      ap (λ (x : ℕ). get_or (row ++ drop n p) x (pos 0)) i
      ∙ get_or-append-add row (drop n p) (k - n) (pos 0)
      ∙ get_or-drop n p (k - n) (pos 0)
      ∙ w.zero (n + (k - n)) (omega arith)

  pub padded_row : length row ≡ length (take n p) → Padded h n (row ++ drop n p)
  padded_row l = record {
    long = length_front p row n l ∙ w.long;
    few = w.few;
    small = λ k. ⊎_elim
        (λ (l : n ≤ k). rw (back k l) (omega arith))
        (λ (l : k < n). rw (front k l) (small (r * n + k)))
        (le_or_lt n k);
    zero = back;
  }

  -- its product with column j of a matrix that stands in q by columns
  pub row-times : (j : ℕ) (q : List ℤ) → dots (row ++ drop n p) q 0 (j * 512) n ≡ product n (signed n s) (by_columns q) r j
  row-times j q = sum_cong n _ _ (λ k h. ap (λ (z : ℤ). z *ℤ by_columns q k j)
      (ap (λ (x : ℕ). get_or (row ++ drop n p) x (pos 0)) (zero-add k) ∙ front k h))
