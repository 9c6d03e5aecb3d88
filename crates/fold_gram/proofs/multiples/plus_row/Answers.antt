-- `fold_gram::multiples::plus_row` meets its contract: the row is added to the first k numbers twice.
use mathlib.Core.Path.{◌≡◌}
use Prim.Native.Nat.{◌^◌, ◌≤◌}
use native.Mathlib.Omega.{arith}
use lib.IntN.{pos, nat_abs, ◌+ℤ◌, ◌*ℤ◌}
use lib.ListN.{length, get_or}
use mir.Syntax.{w64}
use mir.Val.{to_z, of_z}
use Rattle.integers.proofs.Words.{Held, read_back, plus}
use Rattle.matrices.specs.Elements.{exactly}
use Rattle.matrices.proofs.Elements.{added-up}
use Rattle.fold_gram.proofs.Factors.{twice, twice-size}
use Rattle.fold_gram.proofs.multiples.plus_row.Goals as goal
use Rattle.fold_gram.proofs.multiples.plus_row.Goals.{In-loop-k}

-- the sizes of the two numbers that a turn reads
sizes : (c : In-loop-k) →
    let l = c in
    (nat_abs (get_or l.loop-k.e l.loop-k.k (pos 0)) ≤ 2 ^ 45) × (nat_abs (get_or l.args.row.now l.loop-k.k (pos 0)) ≤ 2 ^ 31)
sizes c =
    let l = c in
    let k = l.loop-k.k in
    (rw (l.loop-k.invariant.1.above k (omega arith)) (l.requires.2 k), l.requires.1 k)

-- the number that a turn makes
turn : (c : In-loop-k) →
    let l = c in
    let y = get_or l.loop-k.e l.loop-k.k (pos 0) in
    let x = get_or l.args.row.now l.loop-k.k (pos 0) in
    Held w64 (to_z w64 (of_z w64 y) +ℤ to_z w64 (of_z w64 (pos 2 *ℤ to_z w64 (of_z w64 x)))) (y +ℤ pos 2 *ℤ x)
turn c =
    let l = c in
    let h = sizes c in
    let y = get_or l.loop-k.e l.loop-k.k (pos 0) in
    let x = get_or l.args.row.now l.loop-k.k (pos 0) in
    plus y (pos 2 *ℤ x) (read_back w64 y (omega arith)) (twice x h.1).read (omega arith) (omega (arith, twice-size x h.1))

pub overflow_mul-x : goal.overflow_mul-x
overflow_mul-x c =
    let l = c in
    (twice (get_or l.args.row.now l.loop-k.k (pos 0)) (sizes (goal.at.overflow_mul-x c).In-loop-k).1).fits

pub overflow_add-x : goal.overflow_add-x
overflow_add-x c = (turn (goal.at.overflow_add-x c).In-loop-k).fits

pub loop-k-preserved : goal.loop-k-preserved
loop-k-preserved c =
    let l = c in
    let a = l.args in (
      omega arith,
      added-up exactly (λ k. pos 2 *ℤ get_or a.row.now k (pos 0)) 0 l.loop-k.k a.e.now l.loop-k.e _ l.loop-k.invariant.1 (omega (arith, l.loop-k.invariant.1.long)) (turn (goal.at.loop-k-preserved c).In-loop-k).read,
    )

pub returns : goal.returns
returns c =
    let e : c.loop-k.k ≡ length c.args.e.now = omega (arith, c.loop-k.invariant.1.long) in
    rw e at c.loop-k.invariant.1
