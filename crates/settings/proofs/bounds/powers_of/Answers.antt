-- `settings::bounds::powers_of` meets its contract. The loop's invariant: the powers below b^p are written, and `power` is the next.
use mathlib.Core.Path.{◌≡◌, sym, ap, ap₂, ◌∙◌}
use mathlib.Core.List.{List}
use Prim.Native.Nat.{ℕ, ◌+◌, ◌*◌}
use native.Mathlib.Omega.{arith}
use native.Mathlib.Nat.{pow-zero, pow-le-pow_right}
use lib.ListN.{set}
use Rattle.integers.specs.Lists.{build}
use Rattle.settings.proofs.PowerSteps.{pow_next, placed, powers_none, powers_more}
use Rattle.settings.proofs.bounds.powers_of.Goals as goal

pub loop-p-init : goal.loop-p-init
loop-p-init c = (omega arith, sym (pow-zero c.args.b), powers_none c.args.b)

pub offset_bounds-powers-p : goal.offset_bounds-powers-p
offset_bounds-powers-p c = omega arith

pub bounds-powers-p : goal.bounds-powers-p
bounds-powers-p c = omega arith

pub overflow_mul-power : goal.overflow_mul-power
overflow_mul-power c =
    let s = c.before.before in
    let i = c.loop-p in
    omega (arith, ap (λ (x : ℕ). x * s.args.b) i.invariant.1, pow_next s.args.b i.p, pow-le-pow_right {n = s.args.b} (omega arith) {i = i.p + 1} {j = s.args.k} (omega arith))

pub loop-p-preserved : goal.loop-p-preserved
loop-p-preserved c =
    let s = c.before.before in
    let i = c.loop-p in
    let b = s.args.b in (
      omega arith,
      ap (λ (x : ℕ). x * b) i.invariant.1 ∙ sym (pow_next b i.p),
      ap₂ (λ (xs : List ℕ) (x : ℕ). set xs i.p x) i.invariant.2 i.invariant.1 ∙ powers_more b i.p (omega arith),
    )

pub returns : goal.returns
returns c =
    let e : c.loop-p.p ≡ c.args.k = omega arith in
    c.loop-p.invariant.2 ∙ ap (λ (x : ℕ). build 33 (placed c.args.b x)) e
