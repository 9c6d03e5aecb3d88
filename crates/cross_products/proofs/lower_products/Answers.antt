-- `cross_products::lower_products` meets its contract: `out` is the Gram matrix of the first k rows.
use mathlib.Core.Path.{◌≡◌, sym, ◌∙◌, ap}
use Prim.Native.Nat.{◌+◌, ◌*◌, ◌≤◌}
use native.Mathlib.Omega.{arith}
use lib.ListN.{length, take}
use Rattle.matrices.specs.Matrices.{gram}
use Rattle.matrices.specs.Tables.{signed}
use Rattle.matrices.specs.Triangles.{triangular, mirrored}
use Rattle.matrices.proofs.Tables.{row_within, row-long}
use Rattle.matrices.proofs.Triangles.{length-lower, mirrored-gram}
use Rattle.cross_products.proofs.Sums.{first-size, crossed-first-room, crossed-room}
use Rattle.cross_products.proofs.LowerSums.{lower-first, lower-next}
use Rattle.cross_products.proofs.lower_products.Goals as goal
use Rattle.cross_products.proofs.lower_products.Goals.{At-loop-k, In-loop-k, Start}

-- the first row, when it is lent
first : (c : Start) → length (take c.args.cols c.args.s.now) ≡ c.args.cols
first c = first-size c.args.m c.args.cols c.args.s.now c.requires.m_nonzero.0 c.requires.m_nonzero.1

pub slice_bounds-write_lower-end : goal.slice_bounds-write_lower-end
slice_bounds-write_lower-end c = sym (first (goal.at.slice_bounds-write_lower-end c).Start)

pub write_lower-requires : goal.write_lower-requires
write_lower-requires c =
    let s = (goal.at.write_lower-requires c).Start in
    let a = s.args in record {
      y_len = (first s, s.requires.m_nonzero.2);
      by_index = crossed-first-room a.cols a.cols a.s.now a.s.now a.m s.requires.by_index s.requires.m_nonzero.0;
    }

pub loop-k-init : goal.loop-k-init
loop-k-init c =
    let s = c in
    (omega (arith, s.requires.m_nonzero.0), lower-first s.args.cols s.args.s.now _ c.write_lower.ensures)

-- the function's entry, seen from the loop
abbrev start : At-loop-k → Start
start c = (goal.at.At-loop-k c).Start

-- row k lies within s
row : (c : In-loop-k) → let a = (start (goal.at.In-loop-k c).At-loop-k).args in c.loop-k.k * a.cols + a.cols ≤ a.m * a.cols
row c = let a = (start (goal.at.In-loop-k c).At-loop-k).args in row_within a.m a.cols c.loop-k.k c.loop-k-test.true

-- `out` is a triangle of `cols` rows
long : (c : At-loop-k) → length c.loop-k.out ≡ triangular (start c).args.cols
long c =
    let a = (start c).args in
    ap length c.loop-k.invariant.1 ∙ length-lower a.cols (gram c.loop-k.k (signed a.cols a.s.now))

pub add_lower-requires : goal.add_lower-requires
add_lower-requires c =
    let t = (goal.at.add_lower-requires c).In-loop-k in
    let l = (goal.at.add_lower-requires c).At-loop-k in
    let s = start l in
    let a = s.args in
    let h = t.loop-k-test.true in record {
      y_len = (row-long a.m a.cols l.loop-k.k a.s.now s.requires.m_nonzero.1 h, long l);
      room = crossed-room a.cols a.cols a.s.now a.s.now l.loop-k.k (mirrored l.loop-k.out)
          (mirrored-gram l.loop-k.k a.cols (signed a.cols a.s.now) l.loop-k.out l.loop-k.invariant.1) a.m s.requires.by_index h;
    }

pub loop-k-preserved : goal.loop-k-preserved
loop-k-preserved c =
    let t = (goal.at.loop-k-preserved c).In-loop-k in
    let l = (goal.at.loop-k-preserved c).At-loop-k in
    let a = (start l).args in
    (omega (arith, t.loop-k-test.true), lower-next a.cols a.s.now l.loop-k.out l.loop-k.k _ l.loop-k.invariant.1 c.add_lower.ensures)

pub shape_of-out : goal.shape_of-out
shape_of-out c = long (goal.at.shape_of-out c).At-loop-k ∙ sym (start (goal.at.shape_of-out c).At-loop-k).requires.m_nonzero.2

pub returns : goal.returns
returns c =
    let e : c.loop-k.k ≡ (start (goal.at.returns c).At-loop-k).args.m = omega arith in
    rw e at c.loop-k.invariant.1
