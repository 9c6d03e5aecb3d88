-- `joins::joined::write_beside` meets its contract: the first i rows are written.
use Prim.Native.Nat.{◌*◌}
use Rattle.matrices.specs.Tables.{entry}
use Rattle.matrices.proofs.Tables.{TableTo}
use Rattle.joins.specs.Columns.{halves}
use Rattle.joins.proofs.joined.write_beside.Given as goal

abbrev pub invariant-loop-i : goal.invariant-loop-i
invariant-loop-i g l = (d : _) → TableTo d l.rows (2 * l.cols) (halves l.profile l.cols (entry d l.cols l.x) (entry d l.right l.y)) l.out (l.i * (2 * l.cols))
