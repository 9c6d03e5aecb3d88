-- `cross_products::add_multiple` meets its contract: x times y is added to the numbers from the pairs that are left on.
use mathlib.Core.Path.{◌≡◌, ◌∙◌, ap}
use Prim.Native.Nat.{ℕ, ◌+◌, ◌-◌, ◌*◌, ◌/◌}
use native.Mathlib.Omega.{arith}
use lib.IntN.{ℤ, pos, ◌+ℤ◌, ◌*ℤ◌}
use lib.ListN.{length, get_or}
use mir.Syntax.{w64}
use mir.ValLaws.{to_z-of_z}
use Rattle.matrices.specs.Elements.{exactly, Added}
use Rattle.matrices.proofs.Elements.{added_none, added-down}
use Rattle.cross_products.proofs.Multiples.{multiple_of, asks, gives, pair_down}
use Rattle.cross_products.proofs.add_multiple.Goals as goal
use Rattle.cross_products.proofs.add_multiple.Goals.{In-loop-pair, then-n-eq1, else-n-eq1}

-- before the first turn nothing is added yet
pub add_product-requires : goal.add_product-requires
add_product-requires c =
    let a = c.args in
    let n = length a.row.now in
    asks a.x a.y.now a.row.now a.row.now n c.ranges.x (added_none exactly (multiple_of a.x a.y.now) n a.row.now)
    (n - 1) (omega arith) (record { sfits = c.add_product-arg-then-n-eq1-1.given }) c.requires.row_room

pub loop-pair-init : goal.loop-pair-init
loop-pair-init c =
    let a = c.args in
    let n = length a.row.now in
    let none = added_none exactly (multiple_of a.x a.y.now) n a.row.now in
    elim c.if-n-eq1.branch [
      | then-n-eq1 w ↦
          let s : n - 1 ≡ 2 * (n / 2) = omega (arith, w.if-n-eq1.true) in
          rw (w.row-is, ← s) (added-down exactly (multiple_of a.x a.y.now) n n a.row.now a.row.now _ none (omega (arith, w.if-n-eq1.true)) (omega arith)
          (gives a.x a.y.now a.row.now a.row.now n c.ranges.x none (n - 1) (omega (arith, w.if-n-eq1.true)) (record { sfits = w.add_product-arg-then-n-eq1-1.given })
          (record { sfits = w.add_product-arg-1.given }) w.add_product.ensures (record { sfits = w.add_product.type_inv })))
      | else-n-eq1 w ↦
          let s : n ≡ 2 * (n / 2) = omega (arith, w.if-n-eq1.false) in
          rw (w.row-is, ← s) none
    ]

-- a turn has two numbers below those that it begins with
module _ (c : In-loop-pair) where
  abbrev p : ℕ
  p = 2 * (c.loop-pair.pair - 1)

  two : 2 * c.loop-pair.pair ≡ p + 2
  two = omega (arith, c.loop-pair-test.true)

  so_far : Added exactly (multiple_of c.args.x c.args.y.now) (p + 2) (length c.args.row.now) c.args.row.now c.loop-pair.row
  so_far = rw two at c.loop-pair.invariant

pub add_product-high-requires : goal.add_product-high-requires
add_product-high-requires c =
    let t = (goal.at.add_product-high-requires c).In-loop-pair in
    let a = c.args in
    asks a.x a.y.now a.row.now c.loop-pair.row (p t + 2) c.ranges.x (so_far t)
    (p t + 1) (omega arith) (record { sfits = c.add_product-arg-in-loop-pair-2-1.given }) c.requires.row_room

pub add_product-low-requires : goal.add_product-low-requires
add_product-low-requires c =
    let t = (goal.at.add_product-low-requires c).In-loop-pair in
    let a = c.args in
    asks a.x a.y.now a.row.now c.loop-pair.row (p t + 2) c.ranges.x (so_far t)
    (p t) (omega arith) (record { sfits = c.add_product-arg-in-loop-pair-4-1.given }) c.requires.row_room

pub loop-pair-preserved : goal.loop-pair-preserved
loop-pair-preserved c =
    let t = (goal.at.loop-pair-preserved c).In-loop-pair in
    let a = c.args in
    let row = c.loop-pair.row in
    pair_down (multiple_of a.x a.y.now) (p t) (length a.row.now) a.row.now row _ _ (so_far t)
    (omega (arith, (so_far t).within, (so_far t).long))
    (gives a.x a.y.now a.row.now row (p t + 2) c.ranges.x (so_far t) (p t + 1) (omega arith) (record { sfits = c.add_product-arg-in-loop-pair-2-1.given })
    (record { sfits = c.add_product-arg-in-loop-pair-1.given }) c.add_product-high.ensures (record { sfits = c.add_product-high.type_inv }))
    (gives a.x a.y.now a.row.now row (p t + 2) c.ranges.x (so_far t) (p t) (omega arith) (record { sfits = c.add_product-arg-in-loop-pair-4-1.given })
    (record { sfits = c.add_product-arg-in-loop-pair-3-1.given }) c.add_product-low.ensures (record { sfits = c.add_product-low.type_inv }))

pub returns : goal.returns
returns c =
    let a = c.args in
    λ j h. c.loop-pair.invariant.done j (omega arith) h
    ∙ ap (λ (z : ℤ). get_or a.row.now j (pos 0) +ℤ z *ℤ get_or a.y.now j (pos 0)) (to_z-of_z w64 a.x c.ranges.x)
