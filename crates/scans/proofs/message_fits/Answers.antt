-- `scans::message_fits` meets its contract: the three lengths, with the columns of the profile.
use mathlib.Core.Path.{◌∙◌, ap, ap₂}
use mathlib.Core.Bool.{Bool, ◌&&◌}
use Prim.Native.Nat.{ℕ, ◌+◌, ◌*◌, ◌≤◌}
use native.Mathlib.Omega.{arith}
use native.Mathlib.Nat.{mul-le-mul}
use lib.Dec.{eqb}
use lib.ListN.{length}
use Rattle.matrices.specs.Triangles.{triangular}
use Rattle.lova.proofs.Rebuilding.{rebuilt-accepted, rebuilt-is}
use Rattle.lova.proofs.Widths.{right-few, wide_of, wide-few}
use Rattle.scans.proofs.message_fits.Goals as goal
use Rattle.scans.proofs.message_fits.Goals.{After-right-right, Start}

abbrev start : After-right-right → Start
start c = (goal.at.After-right-right c).Start

-- the columns of T~ and D~
abbrev wide : After-right-right → ℕ
wide c = ((start c).args.accepted.now.setting.t + c.right-right.result) * (start c).args.accepted.now.setting.k

few : (c : After-right-right) → c.right-right.result ≤ 16
few c =
    let s = start c in
    right-few s.args.accepted.now.setting (rebuilt-is s.args.accepted.now) s.args.profile c.right-right.result c.right-right.ensures

narrow : (c : After-right-right) → wide c ≤ 512
narrow c =
    let s = start c in
    wide-few s.args.accepted.now.setting (rebuilt-is s.args.accepted.now) s.args.profile c.right-right.result c.right-right.ensures

pub overflow_add-wide : goal.overflow_add-wide
overflow_add-wide c =
    let s = start (goal.at.overflow_add-wide c).After-right-right in
    omega (arith, (rebuilt-accepted s.args.accepted.now.setting (rebuilt-is s.args.accepted.now)).t-high, few (goal.at.overflow_add-wide c).After-right-right)

pub overflow_mul-wide : goal.overflow_mul-wide
overflow_mul-wide c = omega (arith, narrow (goal.at.overflow_mul-wide c).After-right-right)

pub overflow_mul-setting : goal.overflow_mul-setting
overflow_mul-setting c =
    let r = (goal.at.overflow_mul-setting c).After-right-right in
    let s = start r in
    omega (arith, mul-le-mul (rebuilt-accepted s.args.accepted.now.setting (rebuilt-is s.args.accepted.now)).t-high (few r))

pub overflow_mul-setting-2 : goal.overflow_mul-setting-2
overflow_mul-setting-2 c =
    let r = (goal.at.overflow_mul-setting-2 c).After-right-right in
    let s = start r in
    omega (arith, mul-le-mul (rebuilt-accepted s.args.accepted.now.setting (rebuilt-is s.args.accepted.now)).n-high (narrow r))

pub overflow_add-wide-2 : goal.overflow_add-wide-2
overflow_add-wide-2 c = omega (arith, narrow (goal.at.overflow_add-wide-2 c).After-right-right)

pub overflow_mul-wide-2 : goal.overflow_mul-wide-2
overflow_mul-wide-2 c =
    let r = (goal.at.overflow_mul-wide-2 c).After-right-right in
    let more : wide r + 1 ≤ 513 = omega (arith, narrow r) in
    omega (arith, mul-le-mul (narrow r) more)

pub returns : goal.returns
returns c =
    let r = (goal.at.returns c).After-right-right in
    let s = start r in
    let a = s.args in
    c.both.ensures
    ∙ ap (λ (x : Bool). x && eqb (length a.dd.now) (triangular (wide r))) c.both-first.ensures
    ∙ ap₂ (λ (right wide : ℕ). eqb (length a.v.now) (a.accepted.now.setting.t * right) && eqb (length a.tt.now) (a.accepted.now.setting.n * wide) && eqb (length a.dd.now) (triangular wide))
    r.right-right.ensures (wide_of a.accepted.now.setting (rebuilt-is s.args.accepted.now) a.profile r.right-right.result r.right-right.ensures)
