-- The tests of one entry, and of the lower half of a symmetric matrix.
use mathlib.Core.Path.{◌≡◌}
use mathlib.Core.Logic.{◌↔◌}
use Prim.Native.Nat.{ℕ, ◌+◌}
use native.Mathlib.Omega.{arith}
use lib.Dec.{T}
use Rattle.integers.specs.Tests.{all}
use Rattle.integers.proofs.Tests.{and_fst, and_snd, and_both, same_test, all_true, all_elim}
use Rattle.matrices.specs.Matrices.{Matrix, Symmetric}
use Rattle.matrices.proofs.Triangles.{agree_below}
use Rattle.lova.specs.Tests.{eq_Z, equal}
use Rattle.lova.proofs.Tests.{eq_Z_iff, equal_iff}
use Rattle.equations.specs.Blocks.{equal_both}

-- ---- a symmetric X, of which the lower half is compared with Y and its mirror image

-- at (i, j) they are equal
abbrev pub Both : Matrix → Matrix → ℕ → ℕ → Type 0
Both X Y i j = (X i j ≡ Y i j) × (X i j ≡ Y j i)

module _ (X Y : Matrix) where
  both_iff : (i j : ℕ) → T (equal_both X Y i j) ↔ Both X Y i j
  both_iff i j =
      let here = eq_Z (X i j) (Y i j) in
      let there = eq_Z (X i j) (Y j i) in
      let x = eq_Z_iff (X i j) (Y i j) in
      let y = eq_Z_iff (X i j) (Y j i) in (
        (λ h. (x.0 (and_fst here there h), y.0 (and_snd here there h))),
        (λ h. and_both here there (x.1 h.0) (y.1 h.1)),
      )

  -- the test of the lower half, row by row, is one of the whole
  pub halves-equal : (n : ℕ) → Symmetric n X → all n (λ i. all (i + 1) (λ j. equal_both X Y i j)) ≡ equal n n X Y
  halves-equal n sides =
      let e = equal_iff n n X Y in
      let h = agree_below n X Y sides in
      same_test (all n (λ i. all (i + 1) (λ j. equal_both X Y i j))) (equal n n X Y)
      (λ t. e.1 (h.0 (λ i j hi hj. (both_iff i j).0 (all_elim (i + 1) (λ j. equal_both X Y i j) (all_elim n (λ i. all (i + 1) (λ j. equal_both X Y i j)) t i hi) j (omega arith)))))
      (λ t. all_true n (λ i. all (i + 1) (λ j. equal_both X Y i j)) (λ i hi. all_true (i + 1) (λ j. equal_both X Y i j) (λ j hj. (both_iff i j).1 (h.1 (e.0 t) i j hi (omega arith)))))
