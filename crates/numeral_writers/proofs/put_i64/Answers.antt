-- `numeral_writers::put_i64` meets its contract.
use Rattle.std.proofs.Common.{ap, arith, length, length-set}
use Rattle.numerals.proofs.Signs.{decimal-natural, decimal-negative}
use Rattle.numerals.proofs.Writing.{put-minus}
use Rattle.numeral_writers.proofs.put_i64.Goals as goal

pub bounds-buf-at : goal.bounds-buf-at
bounds-buf-at c =
    let minus = decimal-negative c.args.n c.unsigned_abs-w.result c.ranges.n c.if-n-lt0.true c.unsigned_abs-w.ensures.value in
    omega (arith, ap length minus)

pub put_u64-requires : goal.put_u64-requires
put_u64-requires c =
    let minus = decimal-negative c.args.n c.unsigned_abs-w.result c.ranges.n c.if-n-lt0.true c.unsigned_abs-w.ensures.value in
    rw length-set (omega (arith, ap length minus))

pub returns-then-n-lt0 : goal.returns-then-n-lt0
returns-then-n-lt0 c =
    let p = c.put_u64 in
    let minus = decimal-negative c.args.n c.unsigned_abs-w.result c.ranges.n c.if-n-lt0.true c.unsigned_abs-w.ensures.value in
    let w = put-minus c.args.buf.now p.new.buf c.args.at c.unsigned_abs-w.result p.result
    (omega (arith, ap length minus)) p.ensures.0 p.ensures.1 in
    rw minus (w.1, w.2)

pub put_u64-requires-2 : goal.put_u64-requires-2
put_u64-requires-2 c =
    let plain = decimal-natural c.args.n c.unsigned_abs-w.result c.ranges.n c.if-n-lt0.false c.unsigned_abs-w.ensures.value in
    omega (arith, ap length plain)

pub returns : goal.returns
returns c =
    let plain = decimal-natural c.args.n c.unsigned_abs-w.result c.ranges.n c.if-n-lt0.false c.unsigned_abs-w.ensures.value in
    rw plain c.put_u64-2.ensures
