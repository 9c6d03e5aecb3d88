-- `field_writers::SignedField::put` meets its contract.
use Rattle.std.proofs.Common.{arith, w64}
use mir.ValLaws.{to_z-of_z}
use Rattle.numerals.proofs.Writing.{length_i64}
use Rattle.field_writers.proofs.SignedField.put.Goals as goal

pub put_i64-requires : goal.put_i64-requires
put_i64-requires c = rw (to_z-of_z w64 c.args.value c.ranges.value) (omega (arith, length_i64 c.args.value c.ranges.value))

pub returns-clause-short : goal.returns-clause-short
returns-clause-short c = length_i64 c.args.value c.ranges.value
