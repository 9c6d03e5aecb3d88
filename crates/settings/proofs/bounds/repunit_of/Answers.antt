-- `settings::bounds::repunit_of` meets its contract. The loop's invariant: `r` is the repunit of the places passed.
use mathlib.Core.Path.{◌≡◌, ap, ◌∙◌}
use Prim.Native.Nat.{ℕ, ◌<◌, ◌+◌, ◌*◌, ◌^◌}
use native.Mathlib.Omega.{arith}
use native.Mathlib.Nat.{pow-zero, pow-le-pow_right}
use Rattle.settings.proofs.PowerSteps.{repunit-more, repunit-fits}
use Rattle.settings.proofs.bounds.repunit_of.Goals as goal
use Rattle.settings.proofs.bounds.repunit_of.Goals.{In-loop-p}

-- the next repunit is below b^k
small : (c : In-loop-p) → c.loop-p.r * c.args.b + 1 < 2 ^ 64
small c =
    let s = c.before.before in
    let b = s.args.b in
    let p = c.loop-p._p in
    let r = c.loop-p.r in
    omega (arith, repunit-fits b (p + 1) (r * b + 1) s.requires.0 (repunit-more b p r s.requires.0 c.loop-p.invariant.1), pow-le-pow_right {n = b} (omega arith) {i = p + 1} {j = s.args.k} (omega arith))

pub loop-p-init : goal.loop-p-init
loop-p-init c = (omega arith, omega (arith, pow-zero c.args.b))

pub overflow_mul-r : goal.overflow_mul-r
overflow_mul-r c = omega (arith, small c)

pub overflow_add-r : goal.overflow_add-r
overflow_add-r c = omega (arith, small c)

pub loop-p-preserved : goal.loop-p-preserved
loop-p-preserved c =
    let s = c.before.before in
    (omega arith, repunit-more s.args.b c.loop-p._p c.loop-p.r s.requires.0 c.loop-p.invariant.1)

pub returns : goal.returns
returns c =
    let e : c.loop-p._p ≡ c.args.k = omega arith in
    c.loop-p.invariant.1 ∙ ap (λ (x : ℕ). c.args.b ^ x) e
