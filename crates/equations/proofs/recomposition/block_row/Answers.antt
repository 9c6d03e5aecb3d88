-- `equations::recomposition::block_row` meets its contract: row q of the block stands in row i k + q of the triangle.
use mathlib.Core.Path.{◌≡◌, sym, ◌∙◌, ap, subst}
use Prim.Native.Nat.{ℕ, ◌+◌, ◌*◌, ◌^◌, ◌<◌, ◌≤◌}
use native.Mathlib.Omega.{arith}
use native.Mathlib.Nat.{le_refl, lt_of_lt_of_le, mul-le-mul_right}
use lib.IntN.{ℤ, pos, nat_abs, ◌+ℤ◌}
use lib.ListN.{length, get_or}
use mir.Syntax.{w64}
use mir.Val.{SFits, to_z, of_z}
use mir.ValLaws.{to_z-of_z}
use Rattle.integers.specs.Sums as Sums
use Rattle.integers.proofs.Sizes.{fits-by-size}
use Rattle.matrices.specs.Triangles.{triangular}
use Rattle.matrices.proofs.Tables.{row_within}
use Rattle.matrices.proofs.Triangles.{cell_within}
use Rattle.matrices.proofs.Turns.{room, added}
use Rattle.equations.specs.Blocks.{entry_term}
use Rattle.equations.proofs.RowSums.{row-off, row_on, row_fits, half-fits, half_room}
use Rattle.equations.proofs.recomposition.block_row.Goals as goal
use Rattle.equations.proofs.recomposition.block_row.Goals.{Start, After-weighted-below}

-- the row of the triangle lies within x, and the block begins within it
module _ (c : Start) where
  abbrev row : ℕ
  row = c.args.i * c.args.k + c.args.q

  stored : triangular row + row < length c.args.x.now
  stored =
      let a = c.args in
      lt_of_lt_of_le (cell_within (a.i * a.k + a.k) row row (omega (arith, c.requires.0)) (le_refl row)) c.requires.2

  begins : c.args.j * c.args.k ≤ c.args.i * c.args.k
  begins = mul-le-mul_right c.args.k c.requires.1

-- left of the diagonal all k entries are stored
pub weighted-requires : goal.weighted-requires
weighted-requires c =
    let a = c.args in record {
      k_in_bounds = (omega (arith, stored (goal.at.weighted-requires c).Start, row_within a.i a.k a.j c.if-j-i.true), c.requires.3.long, c.requires.3.power-fits);
      q_bound = row_fits c.requires.3 a.i a.j a.q c.requires.0;
    }

pub returns-then-j-i : goal.returns-then-j-i
returns-then-j-i c =
    let a = c.args in
    to_z-of_z w64 c.weighted.result (record { sfits = c.weighted.type_inv }) ∙ c.weighted.ensures ∙ sym (row-off a.x.now a.powers.now a.k a.i a.j a.q c.if-j-i.true)

pub weighted-below-requires : goal.weighted-below-requires
weighted-below-requires c =
    let a = c.args in
    let l = (goal.at.weighted-below-requires c).Start in record {
      k_in_bounds = (omega (arith, stored l, begins l), omega (arith, c.requires.3.long, c.requires.0), λ u h. c.requires.3.power-fits u (omega (arith, c.requires.0, h)));
      q_bound = omega (arith, half-fits c.requires.3 a.i a.j a.q c.requires.0);
    }

-- what is before the diagonal, twice, with room for the entry on the diagonal
module _ (c : After-weighted-below) where
  abbrev term : ℕ → ℤ
  term = entry_term c.args.x.now c.args.powers.now c.args.k c.args.i c.args.j c.args.q

  abbrev half : ℤ
  half = Sums.sum c.args.q term

  beside : nat_abs (half +ℤ half) + nat_abs (term c.args.q) < 2 ^ 63
  beside = half_room c.requires.3 c.args.i c.args.j c.args.q c.requires.0

  twice-fits : SFits w64 (half +ℤ half)
  twice-fits = fits-by-size (half +ℤ half) (omega (arith, beside))

  half_is : to_z w64 (of_z w64 c.weighted-below.result) ≡ half
  half_is = to_z-of_z w64 c.weighted-below.result (record { sfits = c.weighted-below.type_inv }) ∙ c.weighted-below.ensures

  twice-is : let r = to_z w64 (of_z w64 c.weighted-below.result) in to_z w64 (of_z w64 (r +ℤ r)) ≡ half +ℤ half
  twice-is = ap (λ (z : ℤ). to_z w64 (of_z w64 (z +ℤ z))) half_is ∙ to_z-of_z w64 (half +ℤ half) twice-fits

pub overflow_add-below : goal.overflow_add-below
overflow_add-below c = subst (λ (z : ℤ). SFits w64 (z +ℤ z)) (sym (half_is c)) (twice-fits c)

-- the entry on the diagonal and its power
module _ (c : Start) where
  abbrev entry : ℤ
  entry = let a = c.args in get_or a.x.now (triangular (a.i * a.k + a.q) + a.j * a.k + a.q) (pos 0)

  abbrev power : ℤ
  power = pos (get_or c.args.powers.now c.args.q 0)

  power-fits : SFits w64 power
  power-fits = record { sfits = c.requires.3.power-fits c.args.q c.requires.0 }

pub add_product-requires : goal.add_product-requires
add_product-requires c =
    let e = (goal.at.add_product-requires c).Start in
    let d = (goal.at.add_product-requires c).After-weighted-below in
    room (half d +ℤ half d) (entry e) (power e) (twice-is d) (record { sfits = omega arith }) (power-fits e) (beside d)

pub returns : goal.returns
returns c =
    let e = (goal.at.returns c).Start in
    let d = (goal.at.returns c).After-weighted-below in
    let a = c.args in
    to_z-of_z w64 c.add_product.result (record { sfits = c.add_product.type_inv })
    ∙ added (half d +ℤ half d) (entry e) (power e) (twice-is d) (record { sfits = omega arith }) (power-fits e) c.add_product.ensures
    ∙ sym (row_on a.x.now a.powers.now a.k a.i a.j a.q c.if-j-i.false)
