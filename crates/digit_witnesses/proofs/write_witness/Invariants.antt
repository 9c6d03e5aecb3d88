-- `digit_witnesses::write_witness` meets its contract: the first i rows of the digit witness are written.
use Prim.Native.Nat.{◌*◌}
use lib.IntN.{pos}
use Rattle.matrices.proofs.Tables.{TableTo}
use Rattle.settings.specs.Accepted.{parameters_in}
use Rattle.digit_witnesses.proofs.DigitRows.{digits_of_both}
use Rattle.digit_witnesses.proofs.write_witness.Given as goal

abbrev pub invariant-loop-i : goal.invariant-loop-i
invariant-loop-i l =
    TableTo (pos 0) l.m l.wide (digits_of_both (parameters_in l.accepted) l.right l.s1 l.s2) l.out (l.i * l.wide)
