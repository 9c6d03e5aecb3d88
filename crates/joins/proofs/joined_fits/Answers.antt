-- `joins::joined_fits` meets its contract: both lengths are tested, and in an accepted setting both products fit.
use Prim.Native.Nat.{◌*◌, ◌≤◌}
use native.Mathlib.Omega.{arith}
use native.Mathlib.Nat.{mul-le-mul}
use Rattle.settings.proofs.Accepted.{Accepted}
use Rattle.settings.specs.Settings.{parameters_of}
use Rattle.lova.proofs.Rebuilding.{rebuilt-accepted, rebuilt-is}
use Rattle.joins.proofs.joined_fits.Goals as goal
use Rattle.joins.proofs.joined_fits.Goals.{Start}

facts : (c : Start) → Accepted (parameters_of c.args.accepted.now.setting)
facts c = rebuilt-accepted c.args.accepted.now.setting (rebuilt-is c.args.accepted.now)

wide : (c : Start) → 2 * c.args.accepted.now.setting.t ≤ 32
wide c = omega (arith, (facts c).t-high)

pub overflow_mul-wide : goal.overflow_mul-wide
overflow_mul-wide c = omega (arith, wide (goal.at.overflow_mul-wide c).Start)

pub overflow_mul-setting : goal.overflow_mul-setting
overflow_mul-setting c = omega (arith, mul-le-mul (facts (goal.at.overflow_mul-setting c).Start).n-high (wide (goal.at.overflow_mul-setting c).Start))

pub overflow_mul-result : goal.overflow_mul-result
overflow_mul-result c = omega (arith, mul-le-mul (wide (goal.at.overflow_mul-result c).Start) (wide (goal.at.overflow_mul-result c).Start))
