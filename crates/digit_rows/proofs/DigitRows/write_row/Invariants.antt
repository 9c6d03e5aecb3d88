-- `digit_rows::DigitRows::write_row` meets its contract: the first j entries are written.
use Prim.Native.Nat.{◌+◌, ◌*◌}
use lib.IntN.{pos}
use lib.ListN.{length}
use Rattle.integers.proofs.Lists.{Filled}
use Rattle.digit_rows.specs.Rows.{read_at}
use Rattle.digit_rows.proofs.DigitRows.write_row.Given as goal

abbrev pub invariant-loop-j : goal.invariant-loop-j
invariant-loop-j l =
    let s = l.self in
    Filled (length l.initial.row) (λ j. read_at s.b s.k s.digits.now (l.start + j * s.k)) (pos 0) l.j l.row
