-- One column more of a matrix that is put into a list by columns.
use mathlib.Core.Path.{◌≡◌, ◌∙◌, ap}
use mathlib.Core.Logic.{⊎_elim}
use mathlib.Core.List.{List, ◌++◌}
use Prim.Native.Nat.{ℕ, ◌+◌, ◌-◌, ◌*◌, ◌<◌, ◌≤◌}
use native.Mathlib.Omega.{arith}
use borrow.Author.Count.{below_more}
use lib.ListN.{length, get_or, take, drop}
use lib.IntN.{ℤ, pos, nat_abs}
use Rattle.integers.specs.Lists.{build}
use Rattle.integers.proofs.Lists.{length-build, get_or-build, part_in, part-before, part-after}
use Rattle.integers.proofs.Tests.{le_or_lt}
use Rattle.matrices.specs.Matrices.{Matrix, Agree}
use Rattle.small_rows.specs.Small.{Within}
use Rattle.small_rows.specs.Columns.{by_columns}

-- column j was lent as a part of q, and has come back as ys
module _ (rows j : ℕ) (C : Matrix) (q ys : List ℤ) (few : rows ≤ 512) (room : j * 512 + 512 ≤ length q) (is : ys ≡ build rows (λ k. C k j)) where
  abbrev put : List ℤ
  put = take (j * 512) q ++ (ys ++ drop rows (drop (j * 512) q))

  fits : j * 512 + rows ≤ length q
  fits = omega arith

  size : length ys ≡ rows
  size = ap length is ∙ length-build rows (λ k. C k j)

  new : (i : ℕ) → i < rows → get_or put (j * 512 + i) (pos 0) ≡ C i j
  new i h =
      part_in (j * 512) rows q ys (pos 0) fits size i h
      ∙ ap (λ (xs : List ℤ). get_or xs i (pos 0)) is
      ∙ get_or-build rows (λ k. C k j) i (pos 0) h

  more : Agree rows j (by_columns q) C → Agree rows (j + 1) (by_columns put) C
  more w i b hi hb = below_more (λ b. by_columns put i b ≡ C i b) j
      (λ b l. part-before (j * 512) rows q ys (pos 0) fits size (b * 512 + i) (omega arith) ∙ w i b hi l) (new i hi) b hb

  -- the numbers are still small
  still_small : ((k : ℕ) → nat_abs (C k j) ≤ 16) → Within 16 q → Within 16 put
  still_small sums small x = ⊎_elim
      (λ (l : j * 512 ≤ x). ⊎_elim
      (λ (m : j * 512 + rows ≤ x). rw (part-after (j * 512) rows q ys (pos 0) fits size x m) (small x))
      (λ (m : x < j * 512 + rows).
      let e : x ≡ j * 512 + (x - j * 512) = omega arith in
      rw (e, new (x - j * 512) (omega arith)) (sums (x - j * 512)))
      (le_or_lt (j * 512 + rows) x))
      (λ (l : x < j * 512). rw (part-before (j * 512) rows q ys (pos 0) fits size x l) (small x))
      (le_or_lt (j * 512) x)

  -- both, of the list as it comes back
  pub column-more : ((k : ℕ) → nat_abs (C k j) ≤ 16) → Agree rows j (by_columns q) C → Within 16 q →
      let back = take (j * 512) q ++ (ys ++ drop (j * 512 + rows - j * 512) (drop (j * 512) q)) in
      Agree rows (j + 1) (by_columns back) C × Within 16 back
  column-more sums agree small =
      let width : j * 512 + rows - j * 512 ≡ rows = omega arith in
      rw width (more agree, still_small sums small)
