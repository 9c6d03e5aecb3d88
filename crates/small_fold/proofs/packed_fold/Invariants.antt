-- `small_fold::packed_fold` meets its contract: the first r rows are written.
use Prim.Native.Nat.{◌*◌, ◌≤◌}
use lib.IntN.{pos}
use Rattle.matrices.specs.Matrices.{product}
use Rattle.matrices.specs.Tables.{signed}
use Rattle.matrices.proofs.Tables.{TableTo}
use Rattle.small_fold.specs.Padded.{Padded}
use Rattle.small_rows.specs.Columns.{by_columns}
use Rattle.small_fold.proofs.packed_fold.Given as goal

abbrev pub invariant-loop-r : goal.invariant-loop-r
invariant-loop-r l = (l.r ≤ l.m) × Padded 32767 l.n l.p × TableTo (pos 0) l.m l.t (product l.n (signed l.n l.s) (by_columns l.q)) l.out (l.r * l.t)
