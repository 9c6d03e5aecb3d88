-- `small_fold::dot` meets its contract: a is the sum of the first 32 i products.
use mathlib.Core.Path.{◌≡◌, sym, ap, ◌∙◌}
use Prim.Native.Nat.{◌+◌, ◌*◌, ◌≤◌}
use native.Mathlib.Omega.{arith}
use lib.IntN.{◌+ℤ◌}
use mir.Syntax.{w32, w64}
use mir.Val.{to_z, of_z}
use mir.ValLaws.{of_z-to_z}
use Rattle.std.proofs.lemmas.Grind.{div_ceil_times}
use Rattle.integers.proofs.Sums.{sum-none_yet}
use Rattle.integers.proofs.Words.{Held}
use Rattle.dots.specs.Dots.{dots}
use Rattle.dots.proofs.Trees.{steps_fit, dots-wide, dots-on, dots-past}
use Rattle.small_fold.proofs.dot.Goals as goal
use Rattle.small_fold.proofs.dot.Goals.{After-thirty_two-v, In-loop-i}

pub loop-i-init : goal.loop-i-init
loop-i-init c = sym (sum-none_yet _)

-- 32 more stay within 512
inside : (c : In-loop-i) → c.loop-i.i * 32 + 32 ≤ 512
inside c = omega (arith, (div_ceil_times c.args.n 32 (omega arith)).1, c.requires.0.few)

pub thirty_two-v-requires : goal.thirty_two-v-requires
thirty_two-v-requires c =
    let a = c.args in
    let k = c.loop-i.i * 32 in
    record { left = omega (arith, inside (goal.at.thirty_two-v-requires c).In-loop-i, c.requires.0.long); right = omega (arith, inside (goal.at.thirty_two-v-requires c).In-loop-i, c.requires.2); fits = steps_fit a.p.now a.q.now 32767 16 c.requires.0.small c.requires.1 (omega arith) k (a.y + k) }

pub overflow_cast-a : goal.overflow_cast-a
overflow_cast-a c =
    let a = c.args in
    let k = c.loop-i.i * 32 in
    (dots-wide a.p.now a.q.now k (a.y + k) (steps_fit a.p.now a.q.now 32767 16 c.requires.0.small c.requires.1 (omega arith) k (a.y + k)) c.thirty_two-v.ensures).fits

-- the sum after a turn
turn : (c : After-thirty_two-v) →
    let a = c.args in
    Held w64 (to_z w64 c.loop-i.a-bits +ℤ to_z w64 (of_z w64 (to_z w32 (of_z w32 c.thirty_two-v.result)))) (dots a.p.now a.q.now 0 a.y (c.loop-i.i * 32 + 32))
turn c =
    let a = c.args in
    let l = c.loop-i in
    let bits : l.a-bits ≡ of_z w64 (dots a.p.now a.q.now 0 a.y (l.i * 32)) = sym (of_z-to_z w64 l.a-bits l.auto.a-fits) ∙ ap (of_z w64) l.invariant in
    dots-on a.p.now a.q.now 32767 16 c.requires.0.small c.requires.1 (omega arith) a.y (l.i * 32)
    (omega (arith, inside (goal.at.After-thirty_two-v c).In-loop-i)) bits c.thirty_two-v.ensures

pub overflow_add-a : goal.overflow_add-a
overflow_add-a c = (turn (goal.at.overflow_add-a c).After-thirty_two-v).fits

pub loop-i-preserved : goal.loop-i-preserved
loop-i-preserved c =
    let next : (c.loop-i.i + 1) * 32 ≡ c.loop-i.i * 32 + 32 = omega arith in
    rw next (turn (goal.at.loop-i-preserved c).After-thirty_two-v).read

pub returns : goal.returns
returns c =
    let a = c.args in
    c.loop-i.invariant
    ∙ dots-past a.p.now a.q.now a.y a.n (c.loop-i.i * 32) (omega (arith, (div_ceil_times a.n 32 (omega arith)).0)) c.requires.0.zero
