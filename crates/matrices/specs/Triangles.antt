-- Symmetric matrices, stored as their lower triangle by rows.
use Rattle.std.specs.Prelude.{ℕ, zero, suc, ◌+◌, ◌*◌, ◌/◌, cond, List, [], ◌++◌, ℤ, pos, ◌+ℤ◌, nat_le, slice_index_or}
use Rattle.integers.specs.Lists.{build}
use Rattle.matrices.specs.Matrices.{Matrix}

-- how many entries the first n rows of a lower triangle have: row i begins there
abbrev pub triangular : ℕ → ℕ
triangular n = n * (n + 1) / 2

-- the lower triangle of a matrix with n rows: (0, 0), (1, 0), (1, 1), …
unfoldable pub lower : ℕ → Matrix → List ℤ
lower zero X = []
lower (suc n) X = lower n X ++ build (suc n) (X n)

-- the mirrored square that a lower triangle stands for: entry (i, j) stands at i(i + 1)/2 + j where j ≤ i, else it is entry (j, i)
unfoldable pub mirrored : List ℤ → Matrix
mirrored xs i j = cond (nat_le j i) (slice_index_or xs (triangular i + j) (pos 0)) (slice_index_or xs (triangular j + i) (pos 0))

-- that square with F added
abbrev pub mirrored_plus : List ℤ → Matrix → Matrix
mirrored_plus xs F i j = mirrored xs i j +ℤ F i j

-- the lower triangle as a matrix with zeros above the diagonal
unfoldable pub lower_part : List ℤ → Matrix
lower_part xs a b = cond (nat_le b a) (slice_index_or xs (triangular a + b) (pos 0)) (pos 0)
