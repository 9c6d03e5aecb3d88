-- `recompositions::lengths_fit` meets its contract: the three lengths, with the columns of the profile.
use mathlib.Core.Path.{◌∙◌, ap, ap₂}
use mathlib.Core.Bool.{Bool, ◌&&◌}
use Prim.Native.Nat.{ℕ, ◌+◌, ◌*◌, ◌≤◌}
use native.Mathlib.Omega.{arith}
use native.Mathlib.Nat.{mul-le-mul}
use lib.Dec.{eqb}
use lib.ListN.{length}
use Rattle.settings.specs.Settings.{parameters_of}
use Rattle.settings.proofs.Accepted.{Accepted}
use Rattle.lova.proofs.Rebuilding.{rebuilt-accepted, rebuilt-is}
use Rattle.lova.proofs.Widths.{right-few, wide_of, wide-few}
use Rattle.recompositions.proofs.lengths_fit.Goals as goal
use Rattle.recompositions.proofs.lengths_fit.Goals.{After-right-right, Start}

abbrev start : After-right-right → Start
start c = (goal.at.After-right-right c).Start

accepted : (c : After-right-right) → Accepted (parameters_of (start c).args.accepted.now.setting)
accepted c = rebuilt-accepted (start c).args.accepted.now.setting (rebuilt-is (start c).args.accepted.now)

few : (c : After-right-right) → c.right-right.result ≤ 16
few c =
    let s = start c in
    right-few s.args.accepted.now.setting (rebuilt-is s.args.accepted.now) s.args.profile c.right-right.result c.right-right.ensures

narrow : (c : After-right-right) → ((start c).args.accepted.now.setting.t + c.right-right.result) * (start c).args.accepted.now.setting.k ≤ 512
narrow c =
    let s = start c in
    wide-few s.args.accepted.now.setting (rebuilt-is s.args.accepted.now) s.args.profile c.right-right.result c.right-right.ensures

pub overflow_add-wide : goal.overflow_add-wide
overflow_add-wide c = omega (arith, (accepted (goal.at.overflow_add-wide c).After-right-right).t-high, few (goal.at.overflow_add-wide c).After-right-right)

pub overflow_mul-wide : goal.overflow_mul-wide
overflow_mul-wide c = omega (arith, narrow (goal.at.overflow_mul-wide c).After-right-right)

pub overflow_mul-setting : goal.overflow_mul-setting
overflow_mul-setting c = let r = (goal.at.overflow_mul-setting c).After-right-right in omega (arith, mul-le-mul (accepted r).m-high (narrow r))

pub overflow_mul-setting-2 : goal.overflow_mul-setting-2
overflow_mul-setting-2 c = let acc = accepted (goal.at.overflow_mul-setting-2 c).After-right-right in omega (arith, mul-le-mul acc.m-high acc.t-high)

pub overflow_mul-setting-3 : goal.overflow_mul-setting-3
overflow_mul-setting-3 c = let r = (goal.at.overflow_mul-setting-3 c).After-right-right in omega (arith, mul-le-mul (accepted r).m-high (few r))

pub returns : goal.returns
returns c =
    let r = (goal.at.returns c).After-right-right in
    let s = start r in
    let a = s.args in
    let first = c.both-first.ensures
    ∙ ap (λ (wide : ℕ). eqb (length a.ss.now) (a.accepted.now.setting.m * wide) && eqb (length a.s1.now) (a.accepted.now.setting.m * a.accepted.now.setting.t))
    (wide_of a.accepted.now.setting (rebuilt-is a.accepted.now) a.profile r.right-right.result r.right-right.ensures) in
    c.both.ensures ∙ ap₂ (λ (x : Bool) (right : ℕ). x && eqb (length a.s2.now) (a.accepted.now.setting.m * right)) first r.right-right.ensures
