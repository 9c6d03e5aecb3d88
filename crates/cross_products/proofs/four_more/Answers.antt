-- `cross_products::four_more` meets its contract: it adds the four products one after the other.
use mathlib.Core.Path.{◌≡◌}
use Prim.Native.Nat.{◌+◌, ◌*◌, ◌^◌, ◌<◌}
use native.Mathlib.Omega.{arith}
use lib.IntN.{ℤ, pos, nat_abs, ◌+ℤ◌, ◌*ℤ◌}
use lib.ListN.{get_or}
use mir.Syntax.{w64}
use mir.Val.{to_z, of_z}
use mir.ValLaws.{to_z-of_z}
use Rattle.integers.proofs.Sizes.{nat_abs-+}
use Rattle.matrices.proofs.Turns.{room, read-added}
use Rattle.cross_products.proofs.four_more.Goals as goal
use Rattle.cross_products.proofs.four_more.Goals.{After-add_product-one, After-add_product-three, After-add_product-two, Start}

-- product number k, and the sum with the first k of them
module _ (s : Start) where
  abbrev y0 : ℤ
  y0 = get_or s.args.y.now s.args.j (pos 0)

  abbrev y1 : ℤ
  y1 = get_or s.args.y.now (s.args.cols + s.args.j) (pos 0)

  abbrev y2 : ℤ
  y2 = get_or s.args.y.now (2 * s.args.cols + s.args.j) (pos 0)

  abbrev y3 : ℤ
  y3 = get_or s.args.y.now (3 * s.args.cols + s.args.j) (pos 0)

  abbrev s1 : ℤ
  s1 = s.args.a +ℤ s.args.x0 *ℤ y0

  abbrev s2 : ℤ
  s2 = s1 +ℤ s.args.x1 *ℤ y1

  abbrev s3 : ℤ
  s3 = s2 +ℤ s.args.x2 *ℤ y2

  -- none of them leaves a signed word
  sizes : (nat_abs s.args.a + nat_abs (s.args.x0 *ℤ y0) < 2 ^ 63) × (nat_abs s1 + nat_abs (s.args.x1 *ℤ y1) < 2 ^ 63) × (nat_abs s2 + nat_abs (s.args.x2 *ℤ y2) < 2 ^ 63) × (nat_abs s3 + nat_abs (s.args.x3 *ℤ y3) < 2 ^ 63)
  sizes =
      let h = s.requires.pos_bound in
      let one = nat_abs-+ s.args.a (s.args.x0 *ℤ y0) in
      let two = nat_abs-+ s1 (s.args.x1 *ℤ y1) in
      let three = nat_abs-+ s2 (s.args.x2 *ℤ y2) in
      (omega (arith, h), omega (arith, h, one), omega (arith, h, one, two), omega (arith, h, one, two, three))

held1 : (c : After-add_product-one) → to_z w64 (of_z w64 c.add_product-one.result) ≡ s1 (goal.at.After-add_product-one c).Start
held1 c =
    let s = (goal.at.After-add_product-one c).Start in
    read-added s.args.a s.args.x0 (y0 s) (to_z-of_z w64 s.args.a s.ranges.a) s.ranges.x0 (record { sfits = c.add_product-arg-1.given }) c.add_product-one.ensures (record { sfits = c.add_product-one.type_inv })

held2 : (c : After-add_product-two) → to_z w64 (of_z w64 c.add_product-two.result) ≡ s2 (goal.at.After-add_product-two c).Start
held2 c =
    let s = (goal.at.After-add_product-two c).Start in
    read-added (s1 s) s.args.x1 (y1 s) (held1 (goal.at.After-add_product-two c).After-add_product-one) s.ranges.x1 (record { sfits = c.add_product-arg-2-1.given }) c.add_product-two.ensures (record { sfits = c.add_product-two.type_inv })

held3 : (c : After-add_product-three) → to_z w64 (of_z w64 c.add_product-three.result) ≡ s3 (goal.at.After-add_product-three c).Start
held3 c =
    let s = (goal.at.After-add_product-three c).Start in
    read-added (s2 s) s.args.x2 (y2 s) (held2 (goal.at.After-add_product-three c).After-add_product-two) s.ranges.x2 (record { sfits = c.add_product-arg-3-1.given }) c.add_product-three.ensures (record { sfits = c.add_product-three.type_inv })

pub add_product-one-requires : goal.add_product-one-requires
add_product-one-requires c =
    let s = (goal.at.add_product-one-requires c).Start in
    room s.args.a s.args.x0 (y0 s) (to_z-of_z w64 s.args.a s.ranges.a) s.ranges.x0 (record { sfits = c.add_product-arg-1.given }) (sizes s).0

pub add_product-two-requires : goal.add_product-two-requires
add_product-two-requires c =
    let s = (goal.at.add_product-two-requires c).Start in
    room (s1 s) s.args.x1 (y1 s) (held1 (goal.at.add_product-two-requires c).After-add_product-one) s.ranges.x1 (record { sfits = c.add_product-arg-2-1.given }) (sizes s).1

pub add_product-three-requires : goal.add_product-three-requires
add_product-three-requires c =
    let s = (goal.at.add_product-three-requires c).Start in
    room (s2 s) s.args.x2 (y2 s) (held2 (goal.at.add_product-three-requires c).After-add_product-two) s.ranges.x2 (record { sfits = c.add_product-arg-3-1.given }) (sizes s).2

pub add_product-requires : goal.add_product-requires
add_product-requires c =
    let s = (goal.at.add_product-requires c).Start in
    room (s3 s) s.args.x3 (y3 s) (held3 (goal.at.add_product-requires c).After-add_product-three) s.ranges.x3 (record { sfits = c.add_product-arg-4-1.given }) (sizes s).3

pub returns : goal.returns
returns c =
    let s = (goal.at.returns c).Start in
    read-added (s3 s) s.args.x3 (y3 s) (held3 (goal.at.returns c).After-add_product-three) s.ranges.x3 (record { sfits = c.add_product-arg-4-1.given }) c.add_product.ensures (record { sfits = c.add_product.type_inv })
