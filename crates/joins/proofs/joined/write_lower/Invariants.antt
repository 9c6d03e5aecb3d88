-- `joins::joined::write_lower` meets its contract: the first i rows are written.
use mathlib.Core.List.{List}
use Prim.Native.Nat.{ℕ, ◌*◌}
use lib.IntN.{ℤ, pos}
use Rattle.matrices.specs.Matrices.{Matrix, transposed}
use Rattle.matrices.specs.Tables.{signed}
use Rattle.matrices.proofs.Tables.{TableTo}
use Rattle.lova.specs.declared.Profile.{Profile}
use Rattle.lova.specs.Fold.{beside}
use Rattle.joins.specs.Columns.{spread, spread_both}
use Rattle.joins.proofs.joined.write_lower.Given as goal

-- the parts, and the matrix that is written
abbrev pub turned : Profile → ℕ → List ℤ → Matrix
turned f right v = transposed (spread f (signed right v))

abbrev pub second : Profile → ℕ → List ℤ → Matrix
second f right d2 = spread_both f (signed right d2)

abbrev pub joined : Profile → ℕ → ℕ → List ℤ → List ℤ → Matrix
joined f cols right v d2 = beside cols (turned f right v) (second f right d2)

abbrev pub invariant-loop-i : goal.invariant-loop-i
invariant-loop-i l = TableTo (pos 0) l.cols (2 * l.cols) (joined l.profile l.cols l.right l.v l.d2) l.out (l.i * (2 * l.cols))
