-- `turns::next_waiting` meets its contract: after i steps what is left of the search gives the answer.
use mathlib.Core.Path.{◌≡◌, refl, ap, ◌∙◌}
use mathlib.Core.List.{List}
use Prim.Native.Nat.{ℕ, ◌-◌, ◌+◌, ◌≤◌}
use native.Mathlib.Omega.{arith}
use Rattle.turns.specs.Turns.{next_waiting}
use Rattle.turns.proofs.Finding.{after-some, search_here, search_on, search_none}
use Rattle.turns.proofs.next_waiting.Goals as goal

pub loop-init : goal.loop-init
loop-init c = (omega arith, c.requires.1, refl)

-- one group more is looked at
module _ (W : List ℕ) (group next i : ℕ) (l : i ≤ 7) (e : next_waiting 8 W group ≡ next_waiting (8 - i) W next) where
  left : next_waiting 8 W group ≡ next_waiting (8 - (i + 1) + 1) W next
  left = let n : 8 - i ≡ 8 - (i + 1) + 1 = omega arith in e ∙ ap (λ (x : ℕ). next_waiting x W next) n

pub returns-then-waiting-next-gt0 : goal.returns-then-waiting-next-gt0
returns-then-waiting-next-gt0 c =
    let l = c in
    let W = l.args.waiting.now in
    let found = left W l.args.group l.loop.next l.loop.counter (omega arith) l.loop.invariant.2 ∙ search_here (8 - (l.loop.counter + 1)) W l.loop.next c.if-waiting-next-gt0.true in
    rw found (after-some l.loop.next)

pub loop-preserved : goal.loop-preserved
loop-preserved c =
    let l = c in
    let W = l.args.waiting.now in (
      omega arith,
      (omega arith, omega arith),
      left W l.args.group l.loop.next l.loop.counter (omega arith) l.loop.invariant.2 ∙ search_on (8 - (l.loop.counter + 1)) W l.loop.next c.if-waiting-next-gt0.false,
    )

pub returns : goal.returns
returns c =
    let l = c in
    let W = l.args.waiting.now in
    let n : 8 - l.loop.counter ≡ 0 = omega arith in
    let none = l.loop.invariant.2 ∙ ap (λ (x : ℕ). next_waiting x W l.loop.next) n ∙ search_none W l.loop.next in
    rw none refl
