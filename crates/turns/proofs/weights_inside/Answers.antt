-- `turns::weights_inside` meets its contract: `all` says whether the first i weights are in their range.
use mathlib.Core.Path.{◌≡◌, sym, ap, ap₂, ◌∙◌}
use mathlib.Core.Bool.{◌&&◌}
use Prim.Native.Nat.{ℕ, ◌<◌}
use native.Mathlib.Omega.{arith}
use lib.ListN.{length-take}
use lib.Seq.{get_or-take}
use Rattle.integers.specs.Ranges.{within}
use Rattle.integers.specs.Tests.{all}
use Rattle.integers.proofs.Tests.{all_none, all_more}
use Rattle.turns.specs.Turns.{weight_range}
use Rattle.turns.proofs.weights_inside.Invariants.{inside}
use Rattle.turns.proofs.weights_inside.Goals as goal

pub loop-weight-init : goal.loop-weight-init
loop-weight-init c = sym (all_none _)

pub loop-weight-preserved : goal.loop-weight-preserved
loop-weight-preserved c =
    let w = c.args.weights.now in
    let i = c.loop-weight.weight-index in
    let below : i < 8 = omega (arith, length-take 8 w) in
    ap₂ ◌&&◌ c.loop-weight.invariant (c.inside-all.ensures ∙ ap (within weight_range) (get_or-take 8 w i 0 below)) ∙ sym (all_more i (inside w))

pub returns : goal.returns
returns c =
    let eight : c.loop-weight.weight-index ≡ 8 = omega (arith, length-take 8 c.args.weights.now) in
    c.loop-weight.invariant ∙ ap (λ (n : ℕ). all n (inside c.args.weights.now)) eight
