-- What one row of each factor adds to a product of columns, and the room for what is added.
use Rattle.std.specs.Prelude.{List, ℕ, ◌+◌, ◌^◌, ◌<◌, ◌≤◌, get_or, ℤ, pos, nat_abs, ◌*ℤ◌}
use Rattle.matrices.specs.Matrices.{Matrix}

-- each number of the row x times each of the row y
abbrev pub outer : List ℤ → List ℤ → Matrix
outer x y i j = get_or x i (pos 0) *ℤ get_or y j (pos 0)

-- the first n numbers are at most 2^62 in size
abbrev pub Small : ℕ → (ℕ → ℤ) → Type 0
Small n f = (j : ℕ) → j < n → nat_abs (f j) ≤ 2 ^ 62

-- the sizes of a number and of what is added to it are together at most 2^62: for the first n numbers of a row, and
-- for the first rows and columns of a matrix
abbrev pub RowRoom : ℕ → List ℤ → (ℕ → ℕ) → Type 0
RowRoom n row more = (j : ℕ) → j < n → nat_abs (get_or row j (pos 0)) + more j ≤ 2 ^ 62

abbrev pub Room : ℕ → ℕ → Matrix → (ℕ → ℕ → ℕ) → Type 0
Room rows cols X more = (i j : ℕ) → i < rows → j < cols → nat_abs (X i j) + more i j ≤ 2 ^ 62
