-- `joins::joined::copy_column` meets its contract: the first numbers of the column are copied.
use native.Mathlib.Omega.{arith}
use lib.IntN.{pos}
use Rattle.integers.proofs.Lists.{filled-all}
use Rattle.matrices.specs.Tables.{signed}
use Rattle.joins.proofs.joined.copy_column.Goals as goal

pub returns : goal.returns
returns c =
    let a = c.args in
    filled-all a.rows (λ j. signed a.cols a.x.now j a.i) (pos 0) c.loop-j.j c.loop-j.out (omega arith) c.loop-j.invariant
