-- `equations::Parts::block_equals` meets its contract: the block sums up to its entry of G-transposed D~ G, which is that of its
-- mirror image too.
use borrow.Author.Tests.{ne_eqb, eq-eqb}
use mathlib.Core.Path.{◌≡◌, sym, ◌∙◌, ap, ap₂}
use mathlib.Core.Bool.{Bool, true, false, ◌&&◌}
use Prim.Native.Nat.{ℕ}
use lib.Dec.{eqb}
use lib.IntN.{ℤ}
use mir.Syntax.{w64}
use mir.Val.{SFits, of_z}
use Rattle.matrices.specs.Matrices.{Matrix}
use Rattle.lova.specs.Tests.{eq_Z}
use Rattle.equations.specs.Blocks.{equal_both}
use Rattle.equations.specs.Parts.{joined_D, summed_D}
use Rattle.lova.proofs.Comparisons.{bits-test}
use Rattle.equations.proofs.Recomposed.{handed, rows-below, small, by_rows}
use Rattle.equations.proofs.parts.Parts.block_equals.Goals as goal
use Rattle.equations.proofs.parts.Parts.block_equals.Goals.{After-weighted_block-block}

pub weighted_block-block-requires : goal.weighted_block-block-requires
weighted_block-block-requires c =
    let x = c.args.self.now in
    let fits = c.requires.0 in
    (c.requires.2, rw fits.3 (rows-below (handed x) c.args.i c.requires.1), small (handed x) x.message.dd.now fits.3 fits.4)

-- what is compared
module _ (c : After-weighted_block-block) where
  abbrev X : Matrix
  X = summed_D c.args.self.now

  abbrev Y : Matrix
  Y = joined_D c.args.self.now

  -- the test of the block and of entry (i, j) of the joined D, which is y
  test-is : (i j : ℕ) (y : ℤ) → SFits w64 y → y ≡ Y i j → eqb (of_z w64 c.weighted_block-block.result) (of_z w64 y) ≡ eq_Z (X c.args.i c.args.j) (Y i j)
  test-is i j y fits e =
      let x = c.args.self.now in
      bits-test c.weighted_block-block.result y (record { sfits = c.weighted_block-block.type_inv }) fits
      ∙ ap₂ eq_Z (c.weighted_block-block.ensures ∙ by_rows (handed x) x.message.dd.now c.args.i c.args.j c.requires.1 c.requires.2) e

  -- the first test's answer, where both are asked
  first-is : (b : Bool) (y : ℤ) → SFits w64 y → let a = c.args in y ≡ Y a.i a.j → eqb (of_z w64 c.weighted_block-block.result) (of_z w64 y) ≡ b
      → equal_both X Y a.i a.j ≡ (b && eq_Z (X a.i a.j) (Y a.j a.i))
  first-is b y fits e t =
      let a = c.args in
      ap (λ (first : Bool). first && eq_Z (X a.i a.j) (Y a.j a.i)) (sym (test-is a.i a.j y fits e) ∙ t)

pub returns-then-block-joined_d : goal.returns-then-block-joined_d
returns-then-block-joined_d c =
    let w = (goal.at.returns-then-block-joined_d c).After-weighted_block-block in
    let second = c.joined_d-then-block-joined_d in
    test-is w c.args.j c.args.i second.result (record { sfits = second.type_inv }) second.ensures
    ∙ sym (first-is w true c.joined_d.result (record { sfits = c.joined_d.type_inv }) c.joined_d.ensures (eq-eqb _ _ c.if-block-joined_d.true))

pub returns-else-block-joined_d : goal.returns-else-block-joined_d
returns-else-block-joined_d c =
    let w = (goal.at.returns-else-block-joined_d c).After-weighted_block-block in
    let differ = ne_eqb _ _ c.if-block-joined_d.false in
    differ ∙ sym (first-is w false c.joined_d.result (record { sfits = c.joined_d.type_inv }) c.joined_d.ensures differ)
