-- `numeral_writers::put_u64` meets its contract: its inner call is of n / 10, which is below n.
use Rattle.std.proofs.Common.{arith}
use Rattle.numerals.proofs.Writing.{length-small, length-step, put_small, put_step}
use Rattle.numeral_writers.proofs.+put_u64.Goals as goal

pub bounds-buf-at : goal.bounds-buf-at
bounds-buf-at t c = omega (arith, length-small c.args.n (omega arith))

pub returns-then-n-lt10 : goal.returns-then-n-lt10
returns-then-n-lt10 t c = put_small _ c.args.at c.args.n c.if-n-lt10.true c.requires

pub put_u64-to-requires : goal.put_u64-to-requires
put_u64-to-requires t c = let l = length-step c.args.n c.if-n-lt10.false in (omega arith, omega arith)

pub bounds-buf-to : goal.bounds-buf-to
bounds-buf-to t c =
    let p = c.put_u64-to in
    (put_step _ _ c.args.at p.result c.args.n (omega arith) c.requires p.ensures.0 p.ensures.1).0

pub overflow_add-result-2 : goal.overflow_add-result-2
overflow_add-result-2 t c = let l = length-step c.args.n (omega arith) in omega arith

pub returns : goal.returns
returns t c =
    let p = c.put_u64-to in
    let w = put_step _ _ c.args.at p.result c.args.n (omega arith) c.requires p.ensures.0 p.ensures.1 in
    (w.1, w.2)
