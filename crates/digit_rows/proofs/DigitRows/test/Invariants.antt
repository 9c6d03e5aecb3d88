-- `digit_rows::DigitRows::test` meets its contract: after i rows, what is left for each column and whether their digits are the rule's.
use mathlib.Core.Path.{◌≡◌}
use Rattle.digit_rows.specs.Rows.{ruled_entries}
use Rattle.digit_rows.proofs.Rows.{LeftFor}
use Rattle.digit_rows.proofs.DigitRows.test.Given as goal

abbrev pub invariant-loop-i : goal.invariant-loop-i
invariant-loop-i l =
    let s = l.self in
    LeftFor s.b s.k s.wide s.digits.now s.m l.bound l.i l.left × (l.ruled ≡ ruled_entries s.b s.k s.wide s.digits.now l.i)
