-- `digit_rows::DigitRows::write_columns` meets its contract: the first i rows are written.
use Prim.Native.Nat.{◌+◌, ◌*◌}
use lib.IntN.{pos}
use Rattle.matrices.proofs.Tables.{TableTo}
use Rattle.digit_rows.specs.Rows.{read_at, place}
use Rattle.digit_rows.proofs.DigitRows.write_columns.Given as goal

abbrev pub invariant-loop-i : goal.invariant-loop-i
invariant-loop-i l =
    let s = l.self in
    TableTo (pos 0) s.m l.cols (λ i j. read_at s.b s.k s.digits.now (place s.k s.wide i (l.from + j))) l.out (l.i * l.cols)
