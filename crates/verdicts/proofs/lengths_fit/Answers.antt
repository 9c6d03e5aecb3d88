-- `verdicts::lengths_fit` meets its contract: each length is tested, and in an accepted setting the product fits.
use native.Mathlib.Omega.{arith}
use native.Mathlib.Nat.{mul-le-mul}
use Rattle.lova.proofs.Rebuilding.{rebuilt-accepted, rebuilt-is, N-is}
use Rattle.verdicts.proofs.lengths_fit.Goals as goal

pub overflow_mul-accepted : goal.overflow_mul-accepted
overflow_mul-accepted c =
    let a = c.args.accepted.now in
    let acc = rebuilt-accepted a.setting (rebuilt-is a) in
    rw (N-is a.setting (rebuilt-is a)) (omega (arith, mul-le-mul acc.columns acc.t-high))
