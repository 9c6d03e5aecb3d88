-- `field_writers::put_fields` meets its contract: as many values are written as the loop has run.
use Rattle.text.proofs.Lines.{Putting}
use Rattle.field_writers.proofs.put_fields.Given as goal

abbrev pub invariant-loop-value : goal.invariant-loop-value
invariant-loop-value g l = Putting g.F.Field.numeral l.values l.initial.buf l.at l.value-index l.to l.buf
