-- `cross_products::add_lower` meets its contract: the products are added to the first i rows of the triangle.
use mathlib.Core.Path.{◌≡◌, refl, sym, ◌∙◌}
use mathlib.Core.List.{List}
use Prim.Native.Nat.{◌<◌, ◌+◌, ◌-◌, ◌≤◌}
use native.Mathlib.Omega.{arith}
use lib.IntN.{ℤ, pos}
use lib.ListN.{length, get_or, take, drop}
use mir.Syntax.{w64}
use mir.Val.{to_z, of_z}
use mir.ValLaws.{to_z-of_z}
use Rattle.matrices.specs.Matrices.{Matrix}
use Rattle.matrices.specs.Triangles.{mirrored_plus}
use Rattle.matrices.proofs.Triangles.{lower-within, lower-lent, lower-all}
use Rattle.matrices.proofs.Triangles.{lower-added-none, lower-row-at, lower-added-row}
use Rattle.cross_products.specs.Rows.{outer}
use Rattle.cross_products.proofs.LowerSums.{front_long, front-room, front-added}
use Rattle.cross_products.proofs.add_lower.Goals as goal
use Rattle.cross_products.proofs.add_lower.Goals.{After-add_multiple-arg-1, In-loop-i, Start}

-- what is added, and what stands in the triangle then
abbrev added : Start → Matrix
added c = outer c.args.y.now c.args.y.now

abbrev after : Start → Matrix
after c = mirrored_plus c.args.out.now (added c)

pub loop-i-init : goal.loop-i-init
loop-i-init c = lower-added-none c.args.n (added c) c.args.out.now c.requires.y_len.1

-- a turn's number is one of them
below : (c : In-loop-i) → c.loop-i.i < c.args.n
below c = omega (arith, c.loop-i-test.true, c.requires.y_len.0)

-- row i lies within `out`
row : (c : In-loop-i) → let l = c.loop-i in l.start + l.i + 1 ≤ length l.out
row c =
    let l = c.loop-i in
    lower-within c.args.n (after (goal.at.In-loop-i c).Start) l.i l.start l.out (below c) l.invariant.rows

-- the numbers of y up to number i, when they are lent
front : (c : In-loop-i) → length (take (c.loop-i.i + 1) c.args.y.now) ≡ c.loop-i.i + 1
front c =
    let s = c in
    front_long s.args.y.now c.loop-i.i (omega (arith, (below c), s.requires.y_len.0))

pub slice_bounds-add_multiple-end : goal.slice_bounds-add_multiple-end
slice_bounds-add_multiple-end c = sym (front (goal.at.slice_bounds-add_multiple-end c).In-loop-i)

-- what stands at number i of y is read
read : (c : After-add_multiple-arg-1) →
    let l = c in
    let x = get_or l.args.y.now l.loop-i.i (pos 0) in
    to_z w64 (of_z w64 x) ≡ x
read c =
    let l = c in
    to_z-of_z w64 (get_or l.args.y.now l.loop-i.i (pos 0)) (record { sfits = c.add_multiple-arg-1.given })

-- row i of the triangle, when it is lent
abbrev lent : In-loop-i → List ℤ
lent c =
    let l = c.loop-i in
    take (l.start + l.i + 1 - l.start) (drop l.start l.out)

long : (c : In-loop-i) → length (lent c) ≡ c.loop-i.i + 1
long c =
    let l = c.loop-i in
    lower-lent c.args.n (after (goal.at.In-loop-i c).Start) l.i l.start l.out (below c) l.invariant.rows

pub add_multiple-requires : goal.add_multiple-requires
add_multiple-requires c =
    let r = (goal.at.add_multiple-requires c).After-add_multiple-arg-1 in
    let t = (goal.at.add_multiple-requires c).In-loop-i in
    let l = t.loop-i in
    let s = (goal.at.add_multiple-requires c).Start in
    let a = s.args in
    let h = (below t) in record {
      y_len = front t ∙ sym (long t);
      row_room = front-room a.y.now l.i _ (read r) _ (long t) (lent t) refl
          (λ j b. rw (lower-row-at a.n (added s) a.out.now l.i l.start l.out h l.invariant j b) (s.requires.room l.i j h (omega (arith, h, b))));
    }

pub loop-i-preserved : goal.loop-i-preserved
loop-i-preserved c =
    let r = (goal.at.loop-i-preserved c).After-add_multiple-arg-1 in
    let t = (goal.at.loop-i-preserved c).In-loop-i in
    let l = t.loop-i in
    let s = (goal.at.loop-i-preserved c).Start in
    let a = s.args in
    let back = c.add_multiple in
    lower-added-row a.n (added s) a.out.now l.i l.start l.out (below t) l.invariant back.new.row
    (front-added a.y.now l.i _ (read r) _ (long t) (lent t) refl back.new.row back.auto.row back.ensures)

pub shape_of-out : goal.shape_of-out
shape_of-out c = c.loop-i.invariant.rows.long ∙ sym c.requires.y_len.1

pub returns : goal.returns
returns c =
    let l = c.loop-i in
    let s = (goal.at.returns c).Start in
    lower-all s.args.n (after s) l.i l.start l.out (omega arith) l.invariant.rows
