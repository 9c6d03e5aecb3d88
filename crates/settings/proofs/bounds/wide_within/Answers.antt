-- `settings::bounds::wide_within` meets its contract: no product wraps, and the two divisions decide what the product would.
use mathlib.Core.Path.{sym}
use Prim.Native.Nat.{◌≤◌, ◌<◌, ◌*◌}
use native.Mathlib.Omega.{arith}
use native.Mathlib.Nat.{mul-le-mul, mul-le-mul_right, le-div_iff_mul-le, div-lt_iff_lt-mul}
use borrow.Author.Tests.{lt-leb}
use Rattle.integers.proofs.Tests.{leb-same}
use Rattle.settings.proofs.bounds.wide_within.Goals as goal

pub nonzero_div-limit : goal.nonzero_div-limit
nonzero_div-limit c = omega arith

pub returns-then-limit-r : goal.returns-then-limit-r
returns-then-limit-r c =
    let a = c.args in
    let q = c.requires in
    let h : a.limit < a.r * a.r = (div-lt_iff_lt-mul {k = a.r} {x = a.limit} {y = a.r} q.4).0 (omega arith) in
    let one : 1 ≤ a.h * a.h * a.m = mul-le-mul (mul-le-mul q.0 q.0) q.2 in
    sym (lt-leb (a.h * a.h * a.m * (a.r * a.r)) a.limit (omega (arith, mul-le-mul_right (a.r * a.r) one)))

pub overflow_mul-result : goal.overflow_mul-result
overflow_mul-result c = omega (arith, mul-le-mul c.requires.1 c.requires.1)

pub overflow_mul-result-2 : goal.overflow_mul-result-2
overflow_mul-result-2 c = omega (arith, mul-le-mul (mul-le-mul c.requires.1 c.requires.1) c.requires.3)

pub overflow_mul-result-3 : goal.overflow_mul-result-3
overflow_mul-result-3 c = omega (arith, (le-div_iff_mul-le {k = c.args.r} c.requires.4).0 c.if-limit-r.false)

pub nonzero_div-result : goal.nonzero_div-result
nonzero_div-result c = omega (arith, mul-le-mul c.requires.4 c.requires.4)

pub returns : goal.returns
returns c =
    let r = c.args.r in
    leb-same _ _ _ _ (le-div_iff_mul-le {k = r * r} (omega (arith, mul-le-mul c.requires.4 c.requires.4)))
