-- `digits::write_row` meets its contract: after j turns the blocks of the first j entries are written.
use Prim.Native.Nat.{◌*◌, ◌≤◌}
use lib.IntN.{pos}
use lib.ListN.{length}
use Rattle.integers.proofs.Lists.{Filled}
use Rattle.digits.proofs.Rows.{digit_at}
use Rattle.digits.proofs.write_row.Given as goal

abbrev pub invariant-loop-j : goal.invariant-loop-j
invariant-loop-j l = (l.j ≤ length l.s) × Filled (length l.s * l.k) (digit_at l.base.b l.k l.s) (pos 0) (l.j * l.k) l.row
