-- `scans::instance_fits` meets its contract: both lengths are tested, and in an accepted setting both products fit.
use mathlib.Core.Path.{◌∙◌, ap}
use mathlib.Core.Bool.{◌&&◌}
use Prim.Native.Nat.{ℕ, ◌*◌, ◌≤◌}
use native.Mathlib.Omega.{arith}
use native.Mathlib.Nat.{mul-le-mul}
use lib.Dec.{eqb}
use lib.ListN.{length}
use Rattle.lova.proofs.Rebuilding.{rebuilt-accepted, rebuilt-is}
use Rattle.lova.proofs.Widths.{right-few}
use Rattle.scans.proofs.instance_fits.Goals as goal
use Rattle.scans.proofs.instance_fits.Goals.{After-right-right, Start}

abbrev start : After-right-right → Start
start c = (goal.at.After-right-right c).Start

few : (c : After-right-right) → c.right-right.result ≤ 16
few c =
    let s = start c in
    right-few s.args.accepted.now.setting (rebuilt-is s.args.accepted.now) s.args.profile c.right-right.result c.right-right.ensures

pub overflow_mul-setting : goal.overflow_mul-setting
overflow_mul-setting c =
    let s = start (goal.at.overflow_mul-setting c).After-right-right in
    omega (arith, mul-le-mul (rebuilt-accepted s.args.accepted.now.setting (rebuilt-is s.args.accepted.now)).n-high (few (goal.at.overflow_mul-setting c).After-right-right))

pub overflow_mul-right : goal.overflow_mul-right
overflow_mul-right c = omega (arith, mul-le-mul (few (goal.at.overflow_mul-right c).After-right-right) (few (goal.at.overflow_mul-right c).After-right-right))

pub returns : goal.returns
returns c =
    let r = (goal.at.returns c).After-right-right in
    let a = (start r).args in
    c.both.ensures ∙ ap (λ (right : ℕ). eqb (length a.t.now) (a.accepted.now.setting.n * right) && eqb (length a.d.now) (right * right)) r.right-right.ensures
