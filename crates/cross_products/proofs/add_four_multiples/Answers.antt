-- `cross_products::add_four_multiples` meets its contract: the products are added to the numbers from number j on.
use Prim.Native.Nat.{ℕ, ◌-◌, ◌<◌}
use native.Mathlib.Omega.{arith}
use lib.IntN.{ℤ, pos}
use lib.ListN.{length, get_or}
use Rattle.matrices.specs.Matrices.{product, transposed}
use Rattle.matrices.specs.Tables.{signed}
use Rattle.matrices.specs.Elements.{exactly}
use Rattle.matrices.proofs.Elements.{added_none, added-down}
use Rattle.cross_products.proofs.Sums.{Fit, four-room, four-sum}
use Rattle.cross_products.proofs.add_four_multiples.Goals as goal
use Rattle.cross_products.proofs.add_four_multiples.Goals.{After-four_more-arg-1, Start}

-- what is added
abbrev added : Start → ℕ → ℤ
added c =
    let a = c.args in
    product 4 (transposed (signed a.rows a.x.now)) (signed a.cols a.y.now) a.i

pub loop-j-init : goal.loop-j-init
loop-j-init c =
    let s = (goal.at.loop-j-init c).Start in
    rw s.requires.x_len.3 (added_none exactly (added s) s.args.cols s.args.row.now)

-- the numbers that a turn reads
fit : (c : After-four_more-arg-1) →
    let l = c in
    let a = l.args in
    let j = l.loop-j.j - 1 in
    Fit a.rows a.cols a.i j a.x.now a.y.now (get_or l.loop-j.row j (pos 0))
fit c =
    let e = c in
    record {
      sum = record { sfits = c.four_more-arg-1.given };
      x₀ = record { sfits = e.x0-1.given };
      x₁ = record { sfits = e.x1-1.given };
      x₂ = record { sfits = e.x2-1.given };
      x₃ = record { sfits = e.x3-1.given };
    }

pub four_more-requires : goal.four_more-requires
four_more-requires c =
    let l = c in
    let s = c in
    let a = s.args in
    let j = l.loop-j.j - 1 in
    let h : j < a.cols = omega (arith, l.loop-j.invariant.within, s.requires.x_len.3) in record {
      y_len = (s.requires.x_len.1, h);
      pos_bound = four-room a.rows a.cols a.i j a.x.now a.y.now (get_or l.loop-j.row j (pos 0)) (fit c)
          (rw (l.loop-j.invariant.below j (omega arith)) (s.requires.row_room j h));
    }

pub loop-j-preserved : goal.loop-j-preserved
loop-j-preserved c =
    let l = c.loop-j in
    let s = (goal.at.loop-j-preserved c).Start in
    let a = s.args in
    let r = c.four_more in
    added-down exactly (added s) l.j (length a.row.now) a.row.now l.row _ l.invariant
    (omega arith) (omega (arith, l.invariant.within, l.invariant.long))
    (four-sum a.rows a.cols a.i (l.j - 1) a.x.now a.y.now (get_or l.row (l.j - 1) (pos 0))
    (fit (goal.at.loop-j-preserved c).After-four_more-arg-1) r.ensures (record { sfits = r.type_inv }))

pub returns : goal.returns
returns c =
    let s = c in
    λ j h. c.loop-j.invariant.done j (omega arith) (omega (arith, s.requires.x_len.3))
