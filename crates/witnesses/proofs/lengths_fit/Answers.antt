-- `witnesses::lengths_fit` meets its contract: the three lengths, with the columns of the profile for S~ and N for C.
use mathlib.Core.Path.{◌∙◌, ap, ap₂}
use mathlib.Core.Bool.{Bool, ◌&&◌}
use Prim.Native.Nat.{ℕ, ◌+◌, ◌*◌, ◌≤◌}
use native.Mathlib.Omega.{arith}
use native.Mathlib.Nat.{mul-le-mul}
use lib.Dec.{eqb}
use lib.ListN.{length}
use Rattle.lova.proofs.Rebuilding.{rebuilt-accepted, rebuilt-is, N-is, N-high}
use Rattle.lova.proofs.Widths.{right-few, wide_of, wide-few}
use Rattle.witnesses.proofs.lengths_fit.Goals as goal
use Rattle.witnesses.proofs.lengths_fit.Goals.{After-right-right}

-- the columns of S~
narrow : (c : After-right-right) → let a = c.args in (a.accepted.now.setting.t + c.right-right.result) * a.accepted.now.setting.k ≤ 512
narrow c = wide-few c.args.accepted.now.setting (rebuilt-is c.args.accepted.now) c.args.profile c.right-right.result c.right-right.ensures

pub overflow_add-wide : goal.overflow_add-wide
overflow_add-wide c = omega (arith, (rebuilt-accepted c.args.accepted.now.setting (rebuilt-is c.args.accepted.now)).t-high, right-few c.args.accepted.now.setting (rebuilt-is c.args.accepted.now) c.args.profile c.right-right.result c.right-right.ensures)

pub overflow_mul-wide : goal.overflow_mul-wide
overflow_mul-wide c = omega (arith, narrow (goal.at.overflow_mul-wide c).After-right-right)

pub overflow_mul-setting : goal.overflow_mul-setting
overflow_mul-setting c =
    omega (arith, mul-le-mul (rebuilt-accepted c.args.accepted.now.setting (rebuilt-is c.args.accepted.now)).m-high (narrow (goal.at.overflow_mul-setting c).After-right-right))

pub overflow_mul-setting-2 : goal.overflow_mul-setting-2
overflow_mul-setting-2 c = omega (arith, mul-le-mul (N-high c.args.accepted.now.setting (rebuilt-is c.args.accepted.now)) (rebuilt-accepted c.args.accepted.now.setting (rebuilt-is c.args.accepted.now)).t-high)

pub overflow_mul-setting-3 : goal.overflow_mul-setting-3
overflow_mul-setting-3 c =
    let acc = rebuilt-accepted c.args.accepted.now.setting (rebuilt-is c.args.accepted.now) in
    omega (arith, mul-le-mul acc.m-high acc.t-high)

pub returns : goal.returns
returns c =
    let r = c in
    let s = c in
    let a = s.args in
    c.both.ensures
    ∙ ap (λ (x : Bool). x && eqb (length a.s.now) (a.accepted.now.setting.m * a.accepted.now.setting.t)) c.both-inputs.ensures
    ∙ ap₂ (λ (wide N : ℕ). eqb (length a.ss.now) (a.accepted.now.setting.m * wide) && eqb (length a.c.now) (N * a.accepted.now.setting.t) && eqb (length a.s.now) (a.accepted.now.setting.m * a.accepted.now.setting.t))
    (wide_of a.accepted.now.setting (rebuilt-is a.accepted.now) a.profile r.right-right.result r.right-right.ensures) (N-is a.accepted.now.setting (rebuilt-is a.accepted.now))
