-- A row times a matrix.
use Rattle.std.specs.Prelude.{List, ℕ, length, get_or, ℤ, pos, ◌*ℤ◌}
use Rattle.integers.specs.Sums.{sum}
use Rattle.matrices.specs.Matrices.{Matrix}

-- e, as a row, times C: entry j
abbrev pub row_times : List ℤ → Matrix → ℕ → ℤ
row_times e C j = sum (length e) (λ k. get_or e k (pos 0) *ℤ C k j)
