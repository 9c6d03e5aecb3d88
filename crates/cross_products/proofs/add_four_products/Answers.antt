-- `cross_products::add_four_products` meets its contract: the products of four rows are added to the first i rows.
use mathlib.Core.Path.{◌≡◌, ◌∙◌}
use Prim.Native.Nat.{◌+◌, ◌*◌, ◌≤◌}
use native.Mathlib.Omega.{arith}
use lib.ListN.{length}
use Rattle.matrices.specs.Matrices.{Matrix, product, transposed}
use Rattle.matrices.specs.Tables.{signed}
use Rattle.matrices.proofs.Tables.{row_within, row-long}
use Rattle.cross_products.proofs.Sums.{rows_none, lent-before, rows_more}
use Rattle.cross_products.proofs.add_four_products.Goals as goal
use Rattle.cross_products.proofs.add_four_products.Goals.{At-loop-i, In-loop-i, Start}

-- what is added
abbrev added : Start → Matrix
added c = product 4 (transposed (signed c.args.rows c.args.x.now)) (signed c.args.cols c.args.y.now)

pub loop-i-init : goal.loop-i-init
loop-i-init c = (omega arith, rows_none c.args.cols (added c) c.args.out.now)

-- row i lies within `out`
row : (c : In-loop-i) →
    let a = c.args in
    c.loop-i.i * a.cols + a.cols ≤ a.rows * a.cols
row c = let a = c.args in row_within a.rows a.cols c.loop-i.i c.loop-i-test.true

size : (c : At-loop-i) → length c.loop-i.out ≡ c.args.rows * c.args.cols
size c = c.loop-i.invariant.1.long ∙ c.requires.x_len.2

pub add_four_multiples-requires : goal.add_four_multiples-requires
add_four_multiples-requires c =
    let l = (goal.at.add_four_multiples-requires c).At-loop-i in
    let s = (goal.at.add_four_multiples-requires c).Start in
    let a = s.args in
    let i = l.loop-i.i in
    let h = c.loop-i-test.true in record {
      x_len = (s.requires.x_len.0, s.requires.x_len.1, h, row-long a.rows a.cols i l.loop-i.out (size l) h);
      row_room = λ j hj.
          let before = lent-before a.cols (added s) a.out.now a.rows i l.loop-i.out h (size l) l.loop-i.invariant.1 in
          rw (before j hj) (s.requires.room i j h hj);
    }

pub loop-i-preserved : goal.loop-i-preserved
loop-i-preserved c =
    let t = (goal.at.loop-i-preserved c).In-loop-i in
    let l = (goal.at.loop-i-preserved c).At-loop-i in
    let a = l.args in
    let r = c.add_four_multiples in (
      omega arith,
      rows_more a.cols (added (goal.at.loop-i-preserved c).Start) a.out.now a.rows l.loop-i.i l.loop-i.out t.loop-i-test.true
          (size l) l.loop-i.invariant.1 r.new.row r.auto.row r.ensures,
    )

pub shape_of-out : goal.shape_of-out
shape_of-out c = c.loop-i.invariant.1.long

pub returns : goal.returns
returns c = λ i j hi hj. c.loop-i.invariant.1.rows i j (omega arith) hj
