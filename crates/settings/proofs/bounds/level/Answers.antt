-- `settings::bounds::level` meets its contract. The loop's invariant: `power` is b^(2l), at most B and above l.
use mathlib.Core.Path.{sym, ap, ◌∙◌}
use Prim.Native.Nat.{ℕ, ◌≤◌, ◌<◌, ◌*◌}
use native.Mathlib.Omega.{arith}
use native.Mathlib.Nat.{pow-zero, mul-le-mul, mul-le-mul_left, le-div_iff_mul-le, div-lt_iff_lt-mul, one-le-pow}
use Rattle.settings.proofs.PowerSteps.{pow_level}
use Rattle.settings.proofs.bounds.level.Goals as goal
use Rattle.settings.proofs.bounds.level.Goals.{In-loop-power}

square-range : (b : ℕ) → 2 ≤ b → b ≤ 65535 → (4 ≤ b * b) × (b * b ≤ 4294836225)
square-range b l h = (mul-le-mul l l, mul-le-mul h h)

-- where the loop's test holds, one level more passes too
more : (c : In-loop-power) → c.loop-power.power * (c.args.b * c.args.b) ≤ c.args.bound
more c =
    let s = c.before.before in
    let b = s.args.b in
    (le-div_iff_mul-le {k = b * b} {x = c.loop-power.power} {y = s.args.bound} (omega (arith, square-range b s.requires.0 s.requires.1))).0 (omega arith)

pub overflow_mul-square : goal.overflow_mul-square
overflow_mul-square c = omega (arith, square-range c.args.b c.requires.0 c.requires.1)

pub loop-power-init : goal.loop-power-init
loop-power-init c = (sym (pow-zero c.args.b), c.requires.2, omega arith)

pub nonzero_div-bound : goal.nonzero_div-bound
nonzero_div-bound c = omega (arith, square-range c.args.b c.requires.0 c.requires.1)

pub overflow_mul-power : goal.overflow_mul-power
overflow_mul-power c = omega (arith, more c)

pub overflow_add-l : goal.overflow_add-l
overflow_add-l c = omega arith

pub loop-power-smaller : goal.loop-power-smaller
loop-power-smaller c =
    let s = c.before.before in
    let i = c.loop-power in
    let q = square-range s.args.b s.requires.0 s.requires.1 in
    omega (arith, more c, one-le-pow (2 * i.l) s.args.b (omega arith), mul-le-mul_left {m = 4} {n = s.args.b * s.args.b} i.power q.0)

pub loop-power-preserved : goal.loop-power-preserved
loop-power-preserved c =
    let s = c.before.before in
    let i = c.loop-power in
    let q = square-range s.args.b s.requires.0 s.requires.1 in (
      ap (λ (x : ℕ). x * (s.args.b * s.args.b)) i.invariant.0 ∙ sym (pow_level s.args.b i.l),
      more c,
      omega (arith, mul-le-mul_left {m = 4} {n = s.args.b * s.args.b} i.power q.0),
    )

pub returns : goal.returns
returns c =
    let s = c.before.before in
    let i = c.loop-power in
    let b = s.args.b in
    let h : s.args.bound < i.power * (b * b) = (div-lt_iff_lt-mul {k = b * b} {x = s.args.bound} {y = i.power} (omega (arith, square-range b s.requires.0 s.requires.1))).0 (omega arith) in
    (omega arith, rw (pow_level b i.l, ← i.invariant.0) h)
