-- `joins::joined::copy_column` meets its contract: the first numbers of the column are copied.
use lib.IntN.{pos}
use Rattle.integers.proofs.Lists.{Filled}
use Rattle.matrices.specs.Tables.{signed}
use Rattle.joins.proofs.joined.copy_column.Given as goal

abbrev pub invariant-loop-j : goal.invariant-loop-j
invariant-loop-j l = Filled l.rows (λ j. signed l.cols l.x j l.i) (pos 0) l.j l.out
