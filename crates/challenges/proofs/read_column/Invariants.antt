-- `challenges::read_column` meets its contract: the first k numbers are those of the column.
use lib.IntN.{pos}
use Rattle.integers.proofs.Lists.{Filled}
use Rattle.matrices.specs.Tables.{challenge}
use Rattle.challenges.proofs.read_column.Given as goal

abbrev pub invariant-loop-k : goal.invariant-loop-k
invariant-loop-k l = Filled l.rows (λ k. challenge l.t l.c k l.j) (pos 0) l.k l.column
