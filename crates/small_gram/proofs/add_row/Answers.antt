-- `small_gram::add_row` meets its contract: f times the block's products is added to the first j numbers.
use mathlib.Core.Path.{◌∙◌, ap}
use Prim.Native.Nat.{◌+◌, ◌*◌, ◌^◌, ◌<◌, ◌≤◌}
use native.Mathlib.Omega.{arith}
use lib.IntN.{ℤ, pos, nat_abs, ◌+ℤ◌, ◌*ℤ◌}
use lib.ListN.{get_or}
use mir.Syntax.{w64}
use mir.Val.{to_z, of_z}
use mir.ValLaws.{to_z-of_z}
use Rattle.integers.proofs.Lists.{is-build}
use Rattle.matrices.specs.Elements.{exactly}
use Rattle.matrices.proofs.Elements.{added-up}
use Rattle.dots.specs.Dots.{sizes_of}
use Rattle.small_gram.specs.Blocks.{block_of}
use Rattle.small_gram.proofs.Blocks.{Turn, turn-of}
use Rattle.small_gram.proofs.add_row.Goals as goal
use Rattle.small_gram.proofs.add_row.Goals.{After-add_product-arg-1, In-loop-j}

-- the products that a turn sums fit
fits : (c : In-loop-j) →
    let l = c in
    let a = l.args in
    sizes_of a.p.now a.p.now (a.i * 32) (l.loop-j.j * 32) 32 < 2 ^ 31
fits c =
    let l = c in
    let s = c in
    s.requires.0 s.args.i l.loop-j.j (omega arith) (omega (arith, l.loop-j.invariant.1.long))

-- the sum that a turn makes
turn : (c : After-add_product-arg-1) →
    let l = c in
    let a = l.args in
    Turn a.f (get_or l.loop-j.row l.loop-j.j (pos 0)) c.thirty_two-v.result (block_of a.p.now a.i l.loop-j.j)
turn c =
    let l = c in
    let s = c in
    let room : nat_abs (get_or l.loop-j.row l.loop-j.j (pos 0)) ≤ 2 ^ 61 = rw (l.loop-j.invariant.1.above l.loop-j.j (omega arith)) (s.requires.4 l.loop-j.j) in
    turn-of s.args.p.now s.args.i l.loop-j.j s.args.f (get_or l.loop-j.row l.loop-j.j (pos 0)) c.thirty_two-v.result
    (fits (goal.at.After-add_product-arg-1 c).In-loop-j) c.thirty_two-v.ensures s.ranges.f (record { sfits = c.add_product-arg-1.given }) s.requires.2 room

pub add_product-requires : goal.add_product-requires
add_product-requires c = (turn c).asks

pub loop-j-preserved : goal.loop-j-preserved
loop-j-preserved c =
    let l = c in
    let a = l.args in (
      omega arith,
      added-up exactly (λ j. to_z w64 (of_z w64 a.f) *ℤ block_of a.p.now a.i j) 0 l.loop-j.j a.row.now l.loop-j.row _ l.loop-j.invariant.1
          (omega arith) ((turn (goal.at.loop-j-preserved c).After-add_product-arg-1).gives c.add_product.ensures (record { sfits = c.add_product.type_inv })),
    )

pub returns : goal.returns
returns c =
    let s = c in
    let a = s.args in
    let w = c.loop-j.invariant.1 in
    is-build (a.i + 1) _ (pos 0) c.loop-j.row (w.long ∙ s.requires.3) (λ j l.
    w.done j (omega arith) (omega (arith, w.long))
    ∙ ap (λ (z : ℤ). get_or a.row.now j (pos 0) +ℤ z *ℤ block_of a.p.now a.i j) (to_z-of_z w64 a.f s.ranges.f))
