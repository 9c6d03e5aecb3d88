-- `field_writers::UnsignedField::put` meets its contract.
use Rattle.std.proofs.Common.{arith}
use Rattle.numerals.proofs.Writing.{length_u64}
use Rattle.field_writers.proofs.UnsignedField.put.Goals as goal

pub put_u64-requires : goal.put_u64-requires
put_u64-requires c = omega (arith, length_u64 c.args.value c.ranges.value.fits)

pub returns-clause-short : goal.returns-clause-short
returns-clause-short c = length_u64 c.args.value c.ranges.value.fits
