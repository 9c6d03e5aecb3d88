-- `relations::lengths_fit` meets its contract: each length is tested, and in an accepted setting the products fit.
use native.Mathlib.Omega.{arith}
use native.Mathlib.Nat.{mul-le-mul}
use Rattle.lova.proofs.Rebuilding.{rebuilt-accepted, rebuilt-is}
use Rattle.relations.proofs.lengths_fit.Goals as goal

pub overflow_mul-setting : goal.overflow_mul-setting
overflow_mul-setting c =
    let a = c.args.accepted.now in
    let acc = rebuilt-accepted a.setting (rebuilt-is a) in
    omega (arith, mul-le-mul acc.n-high acc.m-high)

pub overflow_mul-result : goal.overflow_mul-result
overflow_mul-result c =
    let a = c.args.accepted.now in
    let acc = rebuilt-accepted a.setting (rebuilt-is a) in
    omega (arith, mul-le-mul acc.m-high acc.t-high)
