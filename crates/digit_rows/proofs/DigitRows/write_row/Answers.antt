-- `digit_rows::DigitRows::write_row` meets its contract: the first j entries are written.
use native.Mathlib.Omega.{arith}
use Rattle.integers.proofs.Lists.{filled-all}
use Rattle.digit_rows.proofs.DigitRows.write_row.Goals as goal

pub returns : goal.returns
returns c = filled-all _ _ _ c.loop-j.j c.loop-j.row (omega arith) c.loop-j.invariant
