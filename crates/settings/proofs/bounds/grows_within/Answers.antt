-- `settings::bounds::grows_within` meets its contract: within the limits no product wraps.
use Prim.Native.Nat.{◌*◌, ◌≤◌}
use native.Mathlib.Nat.{mul-le-mul}
use native.Mathlib.Omega.{arith}
use Rattle.settings.proofs.bounds.grows_within.Goals as goal
use Rattle.settings.proofs.bounds.grows_within.Goals.{Start}

factor : (c : Start) → c.args.columns * c.args.h ≤ 512 * 32767
factor c = mul-le-mul c.requires.0 c.requires.1

square : (c : Start) → c.args.columns * c.args.h * (c.args.columns * c.args.h) ≤ 512 * 32767 * (512 * 32767)
square c = mul-le-mul (factor c) (factor c)

pub overflow_mul-x : goal.overflow_mul-x
overflow_mul-x c = omega (arith, factor c)

pub overflow_mul-result : goal.overflow_mul-result
overflow_mul-result c = omega (arith, square c)

pub overflow_mul-result-2 : goal.overflow_mul-result-2
overflow_mul-result-2 c = omega (arith, square c, mul-le-mul (square c) c.requires.2)
