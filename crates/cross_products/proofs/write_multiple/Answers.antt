-- `cross_products::write_multiple` meets its contract: the first j numbers of `row` are those of x times y.
use mathlib.Core.Path.{◌≡◌, refl}
use Prim.Native.Nat.{◌+◌, ◌-◌, ◌*◌}
use native.Mathlib.Omega.{arith}
use lib.ListN.{length}
use Rattle.integers.proofs.Lists.{filled_none}
use Rattle.cross_products.proofs.Multiples.{write-asks, write-more, write-all}
use Rattle.cross_products.proofs.write_multiple.Goals as goal

pub loop-pair-init : goal.loop-pair-init
loop-pair-init c = filled_none _ _ _ _ refl

pub add_product-requires : goal.add_product-requires
add_product-requires c =
    let l = c in
    let s = c in
    write-asks s.args.x s.args.y.now (2 * l.loop-pair.pair) s.ranges.x (record { sfits = c.add_product-arg-1.given })
    (s.requires.small (2 * l.loop-pair.pair) (omega arith))

pub add_product-requires-in-loop-pair : goal.add_product-requires-in-loop-pair
add_product-requires-in-loop-pair c =
    let l = c in
    let s = c in
    write-asks s.args.x s.args.y.now ((2 * l.loop-pair.pair) + 1) s.ranges.x (record { sfits = c.add_product-arg-in-loop-pair-1.given })
    (s.requires.small ((2 * l.loop-pair.pair) + 1) (omega arith))

pub loop-pair-preserved : goal.loop-pair-preserved
loop-pair-preserved c =
    let first = c in
    let t = c in
    let l = c in
    let s = c in
    let x = s.args.x in
    let y = s.args.y.now in
    let j = 2 * l.loop-pair.pair in
    let n = length s.args.row.now in
    let one = write-more x y j s.ranges.x (record { sfits = first.add_product-arg-1.given }) n l.loop-pair.row
    (omega arith) first.add_product.ensures (record { sfits = first.add_product.type_inv }) l.loop-pair.invariant in
    let two = write-more x y (j + 1) s.ranges.x (record { sfits = c.add_product-arg-in-loop-pair-1.given }) n _
    (omega arith) c.add_product-in-loop-pair.ensures (record { sfits = c.add_product-in-loop-pair.type_inv }) one in
    let next : 2 * (l.loop-pair.pair + 1) ≡ j + 1 + 1 = omega arith in
    rw next two

pub add_product-requires-then-n-eq1 : goal.add_product-requires-then-n-eq1
add_product-requires-then-n-eq1 c =
    let l = c in
    let s = c in
    let j = length s.args.row.now - 1 in
    write-asks s.args.x s.args.y.now j s.ranges.x (record { sfits = c.add_product-arg-then-n-eq1-1.given })
    (s.requires.small j (omega arith))

pub returns-then-n-eq1 : goal.returns-then-n-eq1
returns-then-n-eq1 c =
    let l = c in
    let s = c in
    let x = s.args.x in
    let y = s.args.y.now in
    let n = length s.args.row.now in
    let j : 2 * l.loop-pair.pair ≡ n - 1 = omega arith in
    let last = write-more x y (n - 1) s.ranges.x (record { sfits = c.add_product-arg-then-n-eq1-1.given }) n l.loop-pair.row
    (omega arith) c.add_product-then-n-eq1.ensures (record { sfits = c.add_product-then-n-eq1.type_inv }) (rw j at l.loop-pair.invariant) in
    write-all x y n (n - 1 + 1) _ s.ranges.x (omega arith) last

pub returns-else-n-eq1 : goal.returns-else-n-eq1
returns-else-n-eq1 c =
    let l = c in
    let s = c in
    write-all s.args.x s.args.y.now (length s.args.row.now) (2 * l.loop-pair.pair) l.loop-pair.row s.ranges.x
    (omega arith) l.loop-pair.invariant
