-- `cross_products::add_products` meets its contract: the products are added to the first i rows.
use mathlib.Core.Path.{◌≡◌, sym, ◌∙◌}
use Prim.Native.Nat.{◌<◌, ◌+◌, ◌*◌, ◌≤◌}
use native.Mathlib.Omega.{arith}
use lib.IntN.{pos}
use lib.ListN.{length, get_or}
use mir.Syntax.{w64}
use mir.Val.{to_z, of_z}
use mir.ValLaws.{to_z-of_z}
use Rattle.matrices.proofs.Tables.{row_within, row-long}
use Rattle.cross_products.specs.Rows.{outer}
use Rattle.cross_products.proofs.Sums.{rows_none, multiple_room, multiple_more}
use Rattle.cross_products.proofs.add_products.Goals as goal
use Rattle.cross_products.proofs.add_products.Goals.{After-add_multiple-arg-1, At-loop-i, In-loop-i}

pub loop-i-init : goal.loop-i-init
loop-i-init c = (omega arith, rows_none c.args.cols (outer c.args.x.now c.args.y.now) c.args.out.now)

-- a turn's number is one of them
below : (c : In-loop-i) → c.loop-i.i < c.args.rows
below c = omega (arith, c.loop-i-test.true, c.requires.x_len.0)

-- row i lies within `out`
row : (c : In-loop-i) →
    let a = c.args in
    c.loop-i.i * a.cols + a.cols ≤ a.rows * a.cols
row c = let a = c.args in row_within a.rows a.cols c.loop-i.i (below c)

size : (c : At-loop-i) → length c.loop-i.out ≡ c.args.rows * c.args.cols
size c = c.loop-i.invariant.1.long ∙ c.requires.x_len.2

-- what stands at number i of x is read
read : (c : After-add_multiple-arg-1) →
    let l = (goal.at.After-add_multiple-arg-1 c).At-loop-i in
    let x = get_or l.args.x.now l.loop-i.i (pos 0) in
    to_z w64 (of_z w64 x) ≡ x
read c =
    let l = c in
    to_z-of_z w64 (get_or l.args.x.now l.loop-i.i (pos 0)) (record { sfits = c.add_multiple-arg-1.given })

pub add_multiple-requires : goal.add_multiple-requires
add_multiple-requires c =
    let l = (goal.at.add_multiple-requires c).At-loop-i in
    let s = c in
    let a = s.args in
    let h = below (goal.at.add_multiple-requires c).In-loop-i in record {
      y_len = s.requires.x_len.1 ∙ sym (row-long a.rows a.cols l.loop-i.i l.loop-i.out (size l) h);
      row_room = multiple_room a.rows a.cols a.x.now a.y.now a.out.now l.loop-i.i l.loop-i.out _ h (size l)
          (read (goal.at.add_multiple-requires c).After-add_multiple-arg-1) l.loop-i.invariant.1 s.requires.room;
    }

pub loop-i-preserved : goal.loop-i-preserved
loop-i-preserved c =
    let t = (goal.at.loop-i-preserved c).In-loop-i in
    let l = (goal.at.loop-i-preserved c).At-loop-i in
    let a = l.args in
    let r = c.add_multiple in (
      omega arith,
      multiple_more a.rows a.cols a.x.now a.y.now a.out.now l.loop-i.i l.loop-i.out _
          (below t) (size l)
          (read (goal.at.loop-i-preserved c).After-add_multiple-arg-1) l.loop-i.invariant.1 r.new.row r.auto.row r.ensures,
    )

pub shape_of-out : goal.shape_of-out
shape_of-out c = c.loop-i.invariant.1.long

pub returns : goal.returns
returns c = λ i j hi hj. c.loop-i.invariant.1.rows i j (omega arith) hj
