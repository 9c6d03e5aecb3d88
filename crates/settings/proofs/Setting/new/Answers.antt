-- `settings::Setting::new` meets its contract: what `test_limits` passes is accepted, so that k, N and the powers fit.
use mathlib.Core.Path.{◌≡◌, sym, ap}
use Prim.Native.Nat.{ℕ, ◌+◌, ◌*◌, ◌^◌}
use native.Mathlib.Omega.{arith}
use Rattle.std.proofs.lemmas.Result.{err_from_is_err_and}
use Rattle.settings.specs.Settings.{LOf}
use Rattle.settings.specs.HouseList.{parameters}
use Rattle.settings.proofs.Accepted.{Accepted, accepted, checked_accepted, refusal-checked}
use Rattle.settings.proofs.Levels.{L_is}
use Rattle.settings.proofs.Setting.new.Goals as goal
use Rattle.settings.proofs.Setting.new.Goals.{After-level-k, In_ok-test_limits}

passed : (c : In_ok-test_limits) → Accepted (parameters c.args.n c.args.m c.args.t c.args.b c.args.bound)
passed c = accepted (parameters c.args.n c.args.m c.args.t c.args.b c.args.bound) (sym (c.in_ok-test_limits.ensures))

level-is : (c : After-level-k) → c.level-k.result ≡ LOf (parameters c.args.n c.args.m c.args.t c.args.b c.args.bound)
level-is c =
    let p = parameters c.args.n c.args.m c.args.t c.args.b c.args.bound in
    let a = accepted p (sym (c.in_ok-test_limits.ensures)) in
    L_is p a.b-low a.bound-low a.bound-high c.level-k.result c.level-k.ensures.0 c.level-k.ensures.1

pub returns-in_err-test_limits : goal.returns-in_err-test_limits
returns-in_err-test_limits c =
    let p = err_from_is_err_and c.from_residual.result c.from_residual.ensures.1 in
    rw (p.1, p.2) (refusal-checked (parameters c.args.n c.args.m c.args.t c.args.b c.args.bound) c.in_err-test_limits.field-0.0 c.in_err-test_limits.ensures)

pub level-k-requires : goal.level-k-requires
level-k-requires c = let a = passed c in (a.b-low, a.b-high, a.bound-low, a.bound-high)

pub overflow_add-k : goal.overflow_add-k
overflow_add-k c = omega (arith, level-is c, (passed c.before).k-high)

pub powers_of-powers-requires : goal.powers_of-powers-requires
powers_of-powers-requires c =
    let a = passed c.before in
    (omega (arith, a.b-low), omega (arith, level-is c, a.k-high), omega (arith, ap (λ (l : ℕ). c.args.b ^ (l + 2)) (level-is c), a.powers_fit))

pub overflow_mul-result : goal.overflow_mul-result
overflow_mul-result c = omega (arith, level-is c.before, (passed c.before.before).k-high)

pub overflow_mul-result-2 : goal.overflow_mul-result-2
overflow_mul-result-2 c =
    omega (arith, ap (λ (l : ℕ). 2 * (l + 2) * c.args.t) (level-is c.before), (passed c.before.before).columns)

pub returns : goal.returns
returns c =
    rw (c.powers_of-powers.ensures, level-is c.before) (sym (checked_accepted (parameters c.args.n c.args.m c.args.t c.args.b c.args.bound) (sym (c.in_ok-test_limits.ensures))))
