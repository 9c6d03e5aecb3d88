-- Matrices stored by columns, for the sums of products.
use Rattle.std.specs.Prelude.{◌≡◌, List, ℕ, ◌+◌, ◌*◌, ◌<◌, get_or, ℤ, pos}
use Rattle.matrices.specs.Matrices.{Matrix}
use Rattle.small_rows.specs.Small.{Within}

-- the matrix that stands in a list by columns of 512 places
abbrev pub by_columns : List ℤ → Matrix
by_columns q i j = get_or q (j * 512 + i) (pos 0)

-- the first x entries of X, counted by rows of `cols`, stand in p by columns: column j begins at j × stride; all numbers of p
-- are at most h in size
pub record Columns (h stride cols : ℕ) (X : Matrix) (x : ℕ) (p : List ℤ) : Type 0 where
  pub small : Within h p
  pub cells : (i j : ℕ) → i < stride → j < cols → i * cols + j < x → get_or p (j * stride + i) (pos 0) ≡ X i j
