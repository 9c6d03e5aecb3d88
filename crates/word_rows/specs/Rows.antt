-- Rows of words.
use Rattle.std.specs.Prelude.{List, ℕ, get_or, ℤ, pos, ◌*ℤ◌}
use Rattle.integers.specs.Sums.{sum}
use Rattle.matrices.specs.Matrices.{Matrix}

-- the row x of p words times Y
abbrev pub row_times : ℕ → List ℕ → Matrix → ℕ → ℤ
row_times p x Y j = sum p (λ k. pos (get_or x k 0) *ℤ Y k j)
