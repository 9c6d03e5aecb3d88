-- `field_readers::read_fields` meets its contract: as many fields are read as the loop has run, and the next starts at `at`.
use lib.ListN.{length}
use Rattle.text.proofs.Fields.{Reading}
use Rattle.field_readers.proofs.read_fields.Given as goal

abbrev pub invariant-loop-place : goal.invariant-loop-place
invariant-loop-place g l = Reading g.F.Field.read l.word (length l.initial.out) l.line l.place-index l.at l.out
