-- `commitments::lengths_fit` meets its contract: each length is tested, and in an accepted setting the products fit.
use native.Mathlib.Omega.{arith}
use native.Mathlib.Nat.{mul-le-mul}
use Rattle.lova.proofs.Rebuilding.{rebuilt-accepted, rebuilt-is}
use Rattle.lova.proofs.Widths.{right-few}
use Rattle.commitments.proofs.lengths_fit.Goals as goal
use Rattle.commitments.proofs.lengths_fit.Goals.{then-a-setting, else-a-setting, After-right-right, Joined-a-setting, Start}

abbrev start : After-right-right → Start
start c = (goal.at.After-right-right c).Start

pub overflow_mul-setting : goal.overflow_mul-setting
overflow_mul-setting c =
    let s = start (goal.at.overflow_mul-setting c).After-right-right in
    let acc = rebuilt-accepted s.args.accepted.now.setting (rebuilt-is s.args.accepted.now) in
    omega (arith, mul-le-mul acc.n-high acc.m-high)

pub overflow_mul-setting-then-a-setting : goal.overflow_mul-setting-then-a-setting
overflow_mul-setting-then-a-setting c =
    let r = (goal.at.overflow_mul-setting-then-a-setting c).After-right-right in
    let s = start r in
    omega (arith, mul-le-mul (rebuilt-accepted s.args.accepted.now.setting (rebuilt-is s.args.accepted.now)).m-high (right-few s.args.accepted.now.setting (rebuilt-is s.args.accepted.now) s.args.profile r.right-right.result r.right-right.ensures))
