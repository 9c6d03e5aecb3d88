-- `cross_products::write_lower` meets its contract: the first i rows of the triangle are written.
use mathlib.Core.Path.{◌≡◌, sym, ◌∙◌}
use mathlib.Core.List.{List}
use Prim.Native.Nat.{◌<◌, ◌+◌, ◌-◌, ◌≤◌}
use native.Mathlib.Omega.{arith}
use lib.IntN.{ℤ, pos}
use lib.ListN.{length, get_or, take, drop}
use mir.Syntax.{w64}
use mir.Val.{to_z, of_z}
use mir.ValLaws.{to_z-of_z}
use Rattle.matrices.specs.Matrices.{Matrix}
use Rattle.matrices.proofs.Triangles.{lower-none, lower-within, lower-lent, lower-part, lower-all}
use Rattle.cross_products.specs.Rows.{outer}
use Rattle.cross_products.proofs.LowerSums.{front_long, front-small, front-written}
use Rattle.cross_products.proofs.write_lower.Goals as goal
use Rattle.cross_products.proofs.write_lower.Goals.{After-write_multiple-arg-1, In-loop-i, Start}

-- what is written
abbrev written : Start → Matrix
written c = outer c.args.y.now c.args.y.now

pub loop-i-init : goal.loop-i-init
loop-i-init c = lower-none c.args.n (written c) c.args.out.now c.requires.y_len.1

-- a turn's number is one of them
below : (c : In-loop-i) → c.loop-i.i < c.args.n
below c = omega (arith, c.loop-i-test.true, c.requires.y_len.0)

-- row i lies within `out`
row : (c : In-loop-i) → let l = c.loop-i in l.start + l.i + 1 ≤ length l.out
row c =
    let l = c.loop-i in
    lower-within c.args.n (written (goal.at.In-loop-i c).Start) l.i l.start l.out (below c) l.invariant

-- the numbers of y up to number i, when they are lent
front : (c : In-loop-i) → length (take (c.loop-i.i + 1) c.args.y.now) ≡ c.loop-i.i + 1
front c =
    let s = c in
    front_long s.args.y.now c.loop-i.i (omega (arith, (below c), s.requires.y_len.0))

pub slice_bounds-write_multiple-end : goal.slice_bounds-write_multiple-end
slice_bounds-write_multiple-end c = sym (front (goal.at.slice_bounds-write_multiple-end c).In-loop-i)

-- what stands at number i of y is read
read : (c : After-write_multiple-arg-1) →
    let l = c in
    let x = get_or l.args.y.now l.loop-i.i (pos 0) in
    to_z w64 (of_z w64 x) ≡ x
read c =
    let l = c in
    to_z-of_z w64 (get_or l.args.y.now l.loop-i.i (pos 0)) (record { sfits = c.write_multiple-arg-1.given })

-- row i of the triangle, when it is lent
abbrev lent : In-loop-i → List ℤ
lent c =
    let l = c.loop-i in
    take (l.start + l.i + 1 - l.start) (drop l.start l.out)

long : (c : In-loop-i) → length (lent c) ≡ c.loop-i.i + 1
long c =
    let l = c.loop-i in
    lower-lent c.args.n (written (goal.at.In-loop-i c).Start) l.i l.start l.out (below c) l.invariant

pub write_multiple-requires : goal.write_multiple-requires
write_multiple-requires c =
    let r = (goal.at.write_multiple-requires c).After-write_multiple-arg-1 in
    let t = (goal.at.write_multiple-requires c).In-loop-i in
    let l = t.loop-i in
    let s = (goal.at.write_multiple-requires c).Start in
    let y = s.args.y.now in record {
      y_len = front t ∙ sym (long t);
      small = front-small y l.i _ (read r) _ (long t) s.args.n (below t) (s.requires.by_index l.i (below t));
    }

pub loop-i-preserved : goal.loop-i-preserved
loop-i-preserved c =
    let r = (goal.at.loop-i-preserved c).After-write_multiple-arg-1 in
    let t = (goal.at.loop-i-preserved c).In-loop-i in
    let l = t.loop-i in
    let s = (goal.at.loop-i-preserved c).Start in
    lower-part s.args.n (written s) l.i l.start l.out (below t) l.invariant _
    (front-written s.args.y.now l.i _ (read r) _ (long t) _ c.write_multiple.ensures)

pub shape_of-out : goal.shape_of-out
shape_of-out c = c.loop-i.invariant.long ∙ sym c.requires.y_len.1

pub returns : goal.returns
returns c =
    let l = c.loop-i in
    let s = (goal.at.returns c).Start in
    lower-all s.args.n (written s) l.i l.start l.out (omega arith) l.invariant
