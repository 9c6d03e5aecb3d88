-- `cross_products::cross_products` meets its contract: `out` is x transposed times y, of the first k rows of both.
use mathlib.Core.Path.{◌≡◌, sym, ◌∙◌}
use Prim.Native.Nat.{◌+◌, ◌*◌, ◌<◌, ◌≤◌}
use native.Mathlib.Omega.{arith}
use lib.IntN.{pos}
use lib.ListN.{length}
use Rattle.matrices.specs.Matrices.{Agree}
use Rattle.matrices.specs.Tables.{signed}
use Rattle.matrices.proofs.Tables.{row_within, row-long, table_of}
use Rattle.cross_products.proofs.Sums.{first-size, crossed, crossed-none}
use Rattle.cross_products.proofs.Sums.{crossed-first, crossed-first-room}
use Rattle.cross_products.proofs.Sums.{crossed-more, crossed-room}
use Rattle.cross_products.proofs.cross_products.Goals as goal
use Rattle.cross_products.proofs.cross_products.Goals.{In-loop-k, At-loop-k, Else-m-eq0, Joined-m-eq0, Start, else-m-eq0, then-m-eq0}

-- where the first row is written, there is one
some : (c : Else-m-eq0) → 0 < c.args.m
some c = omega (arith, c.if-m-eq0.false)

pub slice_bounds-write_products-end : goal.slice_bounds-write_products-end
slice_bounds-write_products-end c =
    sym (first-size c.args.m c.args.rows c.args.x.now (some (goal.at.slice_bounds-write_products-end c).Else-m-eq0) c.requires.x_len.0)

pub slice_bounds-write_products-end-else-m-eq0 : goal.slice_bounds-write_products-end-else-m-eq0
slice_bounds-write_products-end-else-m-eq0 c =
    sym (first-size c.args.m c.args.cols c.args.y.now (some (goal.at.slice_bounds-write_products-end-else-m-eq0 c).Else-m-eq0) c.requires.x_len.1)

pub write_products-requires : goal.write_products-requires
write_products-requires c =
    let t = (goal.at.write_products-requires c).Else-m-eq0 in
    let a = c.args in record {
      x_len = (
        first-size a.m a.rows a.x.now (some t) c.requires.x_len.0,
        first-size a.m a.cols a.y.now (some t) c.requires.x_len.1,
        c.requires.x_len.2,
      );
      by_index = crossed-first-room a.rows a.cols a.x.now a.y.now a.m c.requires.by_index (some t);
    }

-- the first rows, which `out` is the product of before fours are taken
before : (c : Joined-m-eq0) →
    let a = c.args in
    (c.if-m-eq0.first ≤ a.m) × Agree a.rows a.cols (signed a.cols c.if-m-eq0.out) (crossed a.rows a.cols a.x.now a.y.now c.if-m-eq0.first)
before c =
    let a = c.args in
    elim c.if-m-eq0.branch [
      | then-m-eq0 w ↦
          let none : c.if-m-eq0.first ≡ 0 = omega (arith, w.first-is, w.if-m-eq0.true) in (
            omega (arith, none),
            rw (none, w.out-is) (crossed-none a.rows a.cols a.x.now a.y.now w.clear.new.d (length a.out.now) w.clear.ensures),
          )
      | else-m-eq0 w ↦ (
        omega (arith, w.first-is, w.if-m-eq0.false),
        rw (w.first-is, w.out-is) (crossed-first a.rows a.cols a.x.now a.y.now w.write_products.new.out w.write_products.ensures),
      )
    ]

pub add_fours-taken-requires : goal.add_fours-taken-requires
add_fours-taken-requires c =
    let b = before (goal.at.add_fours-taken-requires c).Joined-m-eq0 in record {
      x_len = (c.requires.x_len.0, c.requires.x_len.1, c.if-m-eq0.auto.out ∙ c.requires.x_len.2, b.0);
      by_index = c.requires.by_index;
      summed = b.1;
    }

pub loop-k-init : goal.loop-k-init
loop-k-init c = (c.add_fours-taken.auto.out ∙ c.if-m-eq0.auto.out ∙ c.requires.x_len.2, c.add_fours-taken.ensures.1)

-- the function's entry, seen from the loop
abbrev start : At-loop-k → Start
start c = (goal.at.At-loop-k c).Start

-- the rows of x and y that a turn takes lie within them
row : (c : In-loop-k) →
    let l = (goal.at.In-loop-k c).At-loop-k in
    let a = (start l).args in
    let k = l.loop-k.k in
    (k * a.rows + a.rows ≤ a.m * a.rows) × (k * a.cols + a.cols ≤ a.m * a.cols)
row c =
    let l = (goal.at.In-loop-k c).At-loop-k in
    let a = (start l).args in
    let h = c.loop-k-test.true in
    (row_within a.m a.rows l.loop-k.k h, row_within a.m a.cols l.loop-k.k h)

pub add_products-requires : goal.add_products-requires
add_products-requires c =
    let t = c in
    let l = (goal.at.add_products-requires c).At-loop-k in
    let s = start l in
    let a = s.args in
    let k = l.loop-k.k in
    let h = t.loop-k-test.true in record {
      x_len = (
        row-long a.m a.rows k a.x.now s.requires.x_len.0 h,
        row-long a.m a.cols k a.y.now s.requires.x_len.1 h,
        l.loop-k.invariant.0,
      );
      room = crossed-room a.rows a.cols a.x.now a.y.now k (signed a.cols l.loop-k.out) l.loop-k.invariant.1 a.m s.requires.by_index h;
    }

pub loop-k-preserved : goal.loop-k-preserved
loop-k-preserved c =
    let t = c in
    let l = (goal.at.loop-k-preserved c).At-loop-k in
    let a = (start l).args in
    let r = c.add_products in (
      r.auto.out ∙ l.loop-k.invariant.0,
      crossed-more a.rows a.cols a.x.now a.y.now l.loop-k.k (signed a.cols l.loop-k.out)
          l.loop-k.invariant.1 (signed a.cols r.new.out) r.ensures,
    )

pub shape_of-out : goal.shape_of-out
shape_of-out c = c.loop-k.invariant.0 ∙ sym (start (goal.at.shape_of-out c).At-loop-k).requires.x_len.2

pub returns : goal.returns
returns c =
    let l = c.loop-k in
    let a = (start (goal.at.returns c).At-loop-k).args in
    let e : l.k ≡ a.m = omega arith in
    let made = crossed a.rows a.cols a.x.now a.y.now l.k in
    rw (← e) (table_of (pos 0) a.rows a.cols made l.out l.invariant.0 l.invariant.1)
