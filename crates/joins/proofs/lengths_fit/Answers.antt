-- `joins::lengths_fit` meets its contract: each length is tested, and in an accepted setting the product fits.
use native.Mathlib.Omega.{arith}
use native.Mathlib.Nat.{mul-le-mul}
use Rattle.lova.proofs.Rebuilding.{rebuilt-accepted, rebuilt-is}
use Rattle.lova.proofs.Widths.{right-few}
use Rattle.joins.proofs.lengths_fit.Goals as goal

pub overflow_mul-accepted : goal.overflow_mul-accepted
overflow_mul-accepted c =
    let a = c.args.accepted.now in
    omega (arith, mul-le-mul (rebuilt-accepted a.setting (rebuilt-is a)).t-high (right-few a.setting (rebuilt-is a) c.args.profile c.right-right.result c.right-right.ensures))
