-- `challenges::fold_row` meets its contract: the first j numbers are those of the row.
use lib.IntN.{pos}
use Rattle.integers.proofs.Lists.{Filled}
use Rattle.small_rows.specs.Columns.{by_columns}
use Rattle.challenges.specs.Rows.{row_times}
use Rattle.challenges.proofs.fold_row.Given as goal

abbrev pub invariant-loop-j : goal.invariant-loop-j
invariant-loop-j l = Filled l.t (row_times l.e (by_columns l.q)) (pos 0) l.j l.out
