-- `small_gram::add_block` meets its contract: f times the block's products is added to the first i rows.
use mathlib.Core.Path.{◌≡◌, ◌∙◌, ap}
use Prim.Native.Nat.{◌+◌, ◌^◌, ◌≤◌}
use native.Mathlib.Omega.{arith}
use lib.IntN.{ℤ, nat_abs, ◌*ℤ◌}
use lib.ListN.{length}
use mir.Syntax.{w64}
use mir.Val.{to_z, of_z}
use mir.ValLaws.{to_z-of_z}
use Rattle.matrices.specs.Matrices.{Matrix}
use Rattle.matrices.specs.Triangles.{lower, mirrored_plus}
use Rattle.matrices.proofs.Triangles.{lower-within, lower-lent, lower-all}
use Rattle.matrices.proofs.Triangles.{lower-added-none, lower-added-row}
use Rattle.small_gram.specs.Blocks.{block_of}
use Rattle.small_gram.proofs.Blocks.{lent-within}
use Rattle.small_gram.proofs.add_block.Goals as goal
use Rattle.small_gram.proofs.add_block.Goals.{In-loop-i, Start}

-- f as the machine has it
read : (c : Start) → to_z w64 (of_z w64 c.args.f) ≡ c.args.f
read c = to_z-of_z w64 c.args.f c.ranges.f

-- what is added, and what stands in the triangle then
abbrev added : Start → Matrix
added c a b = to_z w64 (of_z w64 c.args.f) *ℤ block_of c.args.p.now a b

abbrev after : Start → Matrix
after c = mirrored_plus c.args.d.now (added c)

pub loop-i-init : goal.loop-i-init
loop-i-init c = lower-added-none c.args.n (added c) c.args.d.now c.requires.3

-- row i lies within d
row : (c : In-loop-i) → let l = c.loop-i in l.start + l.i + 1 ≤ length l.d
row c =
    let l = c.loop-i in
    let s = (goal.at.In-loop-i c).Start in
    lower-within s.args.n (after s) l.i l.start l.d c.loop-i-test.true l.invariant.rows

pub slice_bounds-add_row-end : goal.slice_bounds-add_row-end
slice_bounds-add_row-end c = omega (arith, row c)

pub add_row-requires : goal.add_row-requires
add_row-requires c =
    let t = (goal.at.add_row-requires c).In-loop-i in
    let l = t.loop-i in
    let s = (goal.at.add_row-requires c).Start in
    let a = s.args in
    let h = t.loop-i-test.true in
    let small : nat_abs (to_z w64 (of_z w64 a.f)) ≤ 2 ^ 20 = rw (read s) s.requires.2 in (
      (λ x y hx hy. s.requires.0 x y (omega arith) (omega arith)),
      omega (arith, h, s.requires.1),
      small,
      lower-lent a.n (after s) l.i l.start l.d h l.invariant.rows,
      lent-within a.n (added s) a.d.now l.i l.start l.d h l.invariant (2 ^ 61) s.requires.4,
    )

pub loop-i-preserved : goal.loop-i-preserved
loop-i-preserved c =
    let t = (goal.at.loop-i-preserved c).In-loop-i in
    let l = t.loop-i in
    let s = (goal.at.loop-i-preserved c).Start in
    lower-added-row s.args.n (added s) s.args.d.now l.i l.start l.d t.loop-i-test.true l.invariant _ c.add_row.ensures

pub returns : goal.returns
returns c =
    let l = c.loop-i in
    let s = (goal.at.returns c).Start in
    let a = s.args in
    lower-all a.n (after s) l.i l.start l.d (omega arith) l.invariant.rows
    ∙ ap (λ (z : ℤ). lower a.n (mirrored_plus a.d.now (λ x y. z *ℤ block_of a.p.now x y))) (read s)
