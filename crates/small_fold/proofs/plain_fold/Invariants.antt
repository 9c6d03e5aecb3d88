-- `small_fold::plain_fold` meets its contract: the first i rows of `out` are those of s times q.
use Prim.Native.Nat.{◌*◌}
use lib.IntN.{pos}
use Rattle.matrices.specs.Matrices.{product}
use Rattle.matrices.specs.Tables.{signed}
use Rattle.matrices.proofs.Tables.{TableTo}
use Rattle.small_rows.specs.Columns.{by_columns}
use Rattle.small_fold.proofs.plain_fold.Given as goal

abbrev pub invariant-loop-i : goal.invariant-loop-i
invariant-loop-i l = TableTo (pos 0) l.m l.t (product l.n (signed l.n l.s) (by_columns l.q)) l.out (l.i * l.t)
