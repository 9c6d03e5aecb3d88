-- `draws::radius_of` meets its contract: with 32 - k bits left the rest of the search gives the answer.
use Rattle.std.proofs.Common.{◌≡◌, ℕ, ◌+◌, ◌-◌, ◌*◌, ◌/◌, ◌^◌, ◌<◌, ◌≤◌, cond, leb, sym, refl, ap, ◌∙◌, arith}
use Rattle.draws.specs.Draws.{radius_from, radius}
use Rattle.draws.proofs.Radius.{turn, turns_done, kept_small, half_of}
use Rattle.draws.proofs.radius_of.Goals as goal
use Rattle.draws.proofs.radius_of.Goals.{In-loop-k}

-- half of the step: a power, and room for it
facts : (c : In-loop-k) → let l = c.loop-k in (l.step / 2 ≡ 2 ^ (32 - (l.k + 1))) × (l.r + l.step / 2 < 2 ^ 32) × (l.r + l.step / 2 + l.step / 2 ≤ 2 ^ 32)
facts c =
    let l = c.loop-k in
    let n : 32 - l.k - 1 ≡ 32 - (l.k + 1) = omega arith in
    let h = rw n at (half_of (32 - l.k) (omega arith)) in
    (omega (arith, l.invariant.0, h.0), omega (arith, l.invariant.0, l.invariant.1, h.0, h.1), omega (arith, l.invariant.1))

pub loop-k-init : goal.loop-k-init
loop-k-init c = (refl, omega arith, refl, refl)

pub loop-k-preserved : goal.loop-k-preserved
loop-k-preserved c =
    let l = c.loop-k in
    let a = c.args in
    let f = facts c.before in
    let n : 32 - l.k ≡ 32 - (l.k + 1) + 1 = omega arith in
    let kept = kept_small (leb ((l.r + l.step / 2) * (l.r + l.step / 2)) (a.bound / a.m)) l.r (l.r + l.step / 2) (omega arith) in
    let is : c.further-r.result ≡ cond (leb ((l.r + 2 ^ (32 - (l.k + 1))) * (l.r + 2 ^ (32 - (l.k + 1)))) (a.bound / a.m)) (l.r + 2 ^ (32 - (l.k + 1))) l.r = rw (← f.0) c.further-r.ensures in (
      f.0,
      omega (arith, c.further-r.ensures, kept, f.2),
      refl,
      l.invariant.3
          ∙ ap (λ (x : ℕ). radius_from x a.m a.bound l.r) n
          ∙ turn a.m a.bound (32 - (l.k + 1)) l.r c.requires
          ∙ ap (radius_from (32 - (l.k + 1)) a.m a.bound) (sym is),
    )

pub returns : goal.returns
returns c =
    let l = c.loop-k in
    let a = c.args in
    let n : 32 - l.k ≡ 0 = omega arith in
    let whole : radius a.m a.bound ≡ l.r = l.invariant.3 ∙ ap (λ (x : ℕ). radius_from x a.m a.bound l.r) n ∙ turns_done a.m a.bound l.r in
    let one : l.step ≡ 1 = l.invariant.0 ∙ ap (λ (x : ℕ). 2 ^ x) n in
    (sym whole, omega (arith, l.invariant.1, one))
