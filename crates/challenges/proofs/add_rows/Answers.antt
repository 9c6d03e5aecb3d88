-- `challenges::add_rows` meets its contract: the rows are added to the numbers from row `from` to before row k.
use mathlib.Core.Path.{◌≡◌}
use Prim.Native.Nat.{◌+◌, ◌*◌, ◌<◌, ◌≤◌}
use native.Mathlib.Omega.{arith}
use native.Mathlib.Nat.{mul-le-mul}
use lib.Arith.{digits_lt}
use lib.IntN.{pos, nat_abs, ◌+ℤ◌}
use lib.ListN.{length, get_or}
use mir.Syntax.{w16}
use mir.Val.{to_z, of_z}
use Rattle.integers.proofs.Words.{Held}
use Rattle.matrices.specs.Elements.{exactly}
use Rattle.matrices.specs.Tables.{ternary, challenge, entry}
use Rattle.matrices.proofs.Elements.{added_none, added-up}
use Rattle.matrices.proofs.Ternary.{ternary-size}
use Rattle.challenges.proofs.Sums.{plus}
use Rattle.challenges.proofs.add_rows.Goals as goal
use Rattle.challenges.proofs.add_rows.Goals.{After-number, In-loop-k, Start}

pub loop-k-init : goal.loop-k-init
loop-k-init c =
    let a = c.args in
    (c.requires.0, added_none exactly (λ k. challenge a.t a.c.now (k + a.further) a.j) a.from a.column.now)

-- the place that is read
cell : (c : In-loop-k) → let a = c.args in (c.loop-k.k + a.further) * a.t + a.j < length a.c.now
cell c =
    let a = c.args in
    let h : c.loop-k.k + a.further < length a.column.now + a.further = omega (arith, c.loop-k-test.true, c.loop-k.invariant.1.long) in
    omega (arith, digits_lt h c.requires.2, c.requires.1)

pub overflow_add-k : goal.overflow_add-k
overflow_add-k c =
    let a = c.args in
    let n = c.loop-k.k + a.further in
    let h : 1 ≤ a.t = omega (arith, c.requires.2) in
    let l : n ≤ n = omega arith in
    omega (arith, cell c, mul-le-mul l h)

-- the number that a turn makes
turn : (c : After-number) →
    let a = c.args in
    let y = get_or c.loop-k.column c.loop-k.k (pos 0) in
    let x = challenge a.t a.c.now (c.loop-k.k + a.further) a.j in
    Held w16 (to_z w16 (of_z w16 y) +ℤ to_z w16 (of_z w16 c.number.result)) (y +ℤ x)
turn c =
    let a = c.args in
    let k = c.loop-k.k in
    let y = get_or c.loop-k.column k (pos 0) in
    let v = entry 0 a.t a.c.now (k + a.further) a.j in
    let small : nat_abs y ≤ 15 = rw (c.loop-k.invariant.1.above k (omega arith)) (c.requires.3 k) in
    plus y (ternary v) c.number.ensures small (ternary-size v)

pub overflow_add-column : goal.overflow_add-column
overflow_add-column c = (turn (goal.at.overflow_add-column c).After-number).fits

pub loop-k-preserved : goal.loop-k-preserved
loop-k-preserved c =
    let a = c.args in (
      omega arith,
      added-up exactly (λ k. challenge a.t a.c.now (k + a.further) a.j) a.from c.loop-k.k a.column.now c.loop-k.column _ c.loop-k.invariant.1 (omega arith) (turn (goal.at.loop-k-preserved c).After-number).read,
    )

pub returns : goal.returns
returns c =
    let e : c.loop-k.k ≡ length c.args.column.now = omega (arith, c.loop-k.invariant.1.long) in
    rw e at c.loop-k.invariant.1
