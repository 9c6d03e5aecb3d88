-- `matrices::column_within` meets its contract: the squares of the first k entries and what is left sum to the bound.
use Rattle.std.proofs.Common.{ℕ, ◌*◌, ◌≤◌, List, ℤ, nat_abs}
use Rattle.matrices.specs.Tables.{signed}
use Rattle.matrices.proofs.Lengths.{LeftAfter}
use Rattle.matrices.proofs.column_within.Given as goal

-- the squares of column j
abbrev pub squares : ℕ → List ℤ → ℕ → ℕ → ℕ
squares cols s j k = nat_abs (signed cols s k j) * nat_abs (signed cols s k j)

abbrev pub invariant-loop-k : goal.invariant-loop-k
invariant-loop-k l = (l.k ≤ l.rows) × LeftAfter l.rows (squares l.cols l.s l.j) l.bound l.k l.left
