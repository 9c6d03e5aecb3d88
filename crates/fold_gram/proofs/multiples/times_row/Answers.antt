-- `fold_gram::multiples::times_row` meets its contract: the row's multiple is added to the first k numbers.
use mathlib.Core.Path.{◌≡◌, ◌∙◌, ap, ap₂}
use Prim.Native.Nat.{◌^◌, ◌≤◌}
use native.Mathlib.Omega.{arith}
use native.Mathlib.Nat.{mul-le-mul}
use lib.IntN.{ℤ, pos, nat_abs, ◌+ℤ◌, ◌*ℤ◌}
use lib.ListN.{length, get_or}
use mir.Syntax.{w64}
use mir.Val.{to_z, of_z}
use mir.ValLaws.{to_z-of_z}
use Rattle.integers.proofs.Sizes.{nat_abs-*}
use Rattle.integers.proofs.Words.{read_back}
use Rattle.matrices.specs.Elements.{exactly}
use Rattle.matrices.proofs.Elements.{added-up, added-same}
use Rattle.fold_gram.proofs.Factors.{twice, twice-size}
use Rattle.fold_gram.proofs.multiples.times_row.Goals as goal
use Rattle.fold_gram.proofs.multiples.times_row.Goals.{In-loop-k}

-- the sizes of the two numbers that a turn reads
sizes : (c : In-loop-k) →
    let l = c in
    (nat_abs (get_or l.loop-k.e l.loop-k.k (pos 0)) ≤ 2 ^ 45) × (nat_abs (get_or l.args.row.now l.loop-k.k (pos 0)) ≤ 2 ^ 31)
sizes c =
    let l = c in
    let k = l.loop-k.k in
    (rw (l.loop-k.invariant.1.above k (omega arith)) (l.requires.2 k), l.requires.1 k)

pub overflow_mul-row : goal.overflow_mul-row
overflow_mul-row c =
    let l = c in
    (twice (get_or l.args.row.now l.loop-k.k (pos 0)) (sizes (goal.at.overflow_mul-row c).In-loop-k).1).fits

pub add_product-requires : goal.add_product-requires
add_product-requires c =
    let l = c in
    let a = l.args in
    let h = sizes (goal.at.add_product-requires c).In-loop-k in
    let y = get_or l.loop-k.e l.loop-k.k (pos 0) in
    let x = get_or a.row.now l.loop-k.k (pos 0) in
    rw (read_back w64 y (omega arith), (twice x h.1).read, to_z-of_z w64 a.v l.ranges.v, nat_abs-* a.v (pos 2 *ℤ x))
    (omega (arith, h, mul-le-mul l.requires.3 (twice-size x h.1)))

pub loop-k-preserved : goal.loop-k-preserved
loop-k-preserved c =
    let l = c in
    let a = l.args in
    let h = sizes (goal.at.loop-k-preserved c).In-loop-k in
    let y = get_or l.loop-k.e l.loop-k.k (pos 0) in
    let x = get_or a.row.now l.loop-k.k (pos 0) in (
      omega arith,
      added-up exactly (λ k. to_z w64 (of_z w64 a.v) *ℤ (pos 2 *ℤ get_or a.row.now k (pos 0))) 0 l.loop-k.k a.e.now l.loop-k.e _ l.loop-k.invariant.1 (omega (arith, l.loop-k.invariant.1.long))
          (to_z-of_z w64 c.add_product.result (record { sfits = c.add_product.type_inv }) ∙ c.add_product.ensures
          ∙ ap₂ (λ (u z : ℤ). u +ℤ to_z w64 (of_z w64 a.v) *ℤ z) (read_back w64 y (omega arith)) (twice x h.1).read),
    )

pub returns : goal.returns
returns c =
    let e : c.loop-k.k ≡ length c.args.e.now = omega (arith, c.loop-k.invariant.1.long) in
    let s = c in
    added-same exactly _ (λ k. s.args.v *ℤ (pos 2 *ℤ get_or s.args.row.now k (pos 0))) _ _ _ _
    (λ k h. ap (λ (z : ℤ). z *ℤ (pos 2 *ℤ get_or s.args.row.now k (pos 0))) (to_z-of_z w64 s.args.v s.ranges.v))
    (rw e at c.loop-k.invariant.1)
