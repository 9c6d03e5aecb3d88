-- `field_writers::put_bytes` meets its contract.
use Rattle.std.proofs.Common.{refl, arith, ◌≡◌, ◌+◌, ◌-◌, length}
use lib.Seq.{drop-drop}
use Rattle.numerals.specs.Bytes.{written}
use Rattle.field_writers.proofs.put_bytes.Goals as goal

pub returns : goal.returns
unfolding written
returns c =
    let s = c.args.s.now in
    let n : c.args.at + length s - c.args.at ≡ length s = omega arith in
    (refl, rw (c.copy_from_slice.ensures.after, n, drop-drop (length s) c.args.at c.args.buf.now))
