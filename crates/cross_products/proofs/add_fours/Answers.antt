-- `cross_products::add_fours` meets its contract: `out` is x transposed times y, of the first k rows of both.
use mathlib.Core.Path.{◌≡◌, sym, ◌∙◌}
use Prim.Native.Nat.{ℕ, ◌+◌, ◌-◌, ◌*◌, ◌/◌, ◌≤◌}
use native.Mathlib.Omega.{arith}
use Rattle.matrices.specs.Tables.{signed}
use Rattle.matrices.proofs.Tables.{rows-within}
use Rattle.cross_products.proofs.Sums.{four-size, crossed-four, crossed-four-room}
use Rattle.cross_products.proofs.add_fours.Goals as goal
use Rattle.cross_products.proofs.add_fours.Goals.{In-loop-four}

pub loop-four-init : goal.loop-four-init
loop-four-init c = let none : c.args.first + 4 * 0 ≡ c.args.first = omega arith in (c.requires.x_len.2, rw none c.requires.summed)

-- the four rows of x and y that a turn takes, from number k on, lie within them
module _ (c : In-loop-four) where
  abbrev k : ℕ
  k = c.args.first + 4 * c.loop-four.four

  four : k + 4 ≤ c.args.m
  four = omega (arith, c.loop-four-test.true, c.requires.x_len.3)

  x-within : k * c.args.rows + 4 * c.args.rows ≤ c.args.m * c.args.rows
  x-within = rows-within c.args.m c.args.rows k 4 four

  y-within : k * c.args.cols + 4 * c.args.cols ≤ c.args.m * c.args.cols
  y-within = rows-within c.args.m c.args.cols k 4 four

pub slice_bounds-add_four_products-end : goal.slice_bounds-add_four_products-end
slice_bounds-add_four_products-end c = omega (arith, x-within (goal.at.slice_bounds-add_four_products-end c).In-loop-four)

pub slice_bounds-add_four_products-end-in-loop-four : goal.slice_bounds-add_four_products-end-in-loop-four
slice_bounds-add_four_products-end-in-loop-four c = omega (arith, y-within (goal.at.slice_bounds-add_four_products-end-in-loop-four c).In-loop-four)

pub add_four_products-requires : goal.add_four_products-requires
add_four_products-requires c =
    let t = (goal.at.add_four_products-requires c).In-loop-four in
    let a = c.args in record {
      x_len = (
        four-size a.m a.rows (k t) a.x.now (four t) c.requires.x_len.0,
        four-size a.m a.cols (k t) a.y.now (four t) c.requires.x_len.1,
        c.loop-four.invariant.0,
      );
      room = crossed-four-room a.rows a.cols a.x.now a.y.now (k t) (signed a.cols c.loop-four.out) c.loop-four.invariant.1
          a.m c.requires.by_index (four t);
    }

pub loop-four-preserved : goal.loop-four-preserved
loop-four-preserved c =
    let t = (goal.at.loop-four-preserved c).In-loop-four in
    let a = c.args in
    let r = c.add_four_products in
    let next : k t + 4 ≡ a.first + 4 * (c.loop-four.four + 1) = omega arith in (
      r.auto.out ∙ c.loop-four.invariant.0,
      rw next at (crossed-four a.rows a.cols a.x.now a.y.now (k t) (signed a.cols c.loop-four.out)
          c.loop-four.invariant.1 (signed a.cols r.new.out) r.ensures),
    )

pub shape_of-out : goal.shape_of-out
shape_of-out c = c.loop-four.invariant.0 ∙ sym c.requires.x_len.2

pub returns : goal.returns
returns c =
    let all : c.loop-four.four ≡ (c.args.m - c.args.first) / 4 = omega arith in
    (omega (arith, c.requires.x_len.3), rw (← all) c.loop-four.invariant.1)
