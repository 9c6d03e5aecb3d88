-- `matrices::add_signed_product` meets its contract: a residue stands for its number in a sum and a product.
use Rattle.std.proofs.Common.{ℕ, ◌^◌, pos, ◌+ℤ◌, ◌*ℤ◌, refl, ap, ◌∙◌, arith, w64}
use mir.ValLaws.{to_z-of_z}
use Rattle.integers.specs.Residues.{word}
use Rattle.integers.proofs.Residues.{residue-residue, residue-+-cong, residue-*-cong}
use Rattle.matrices.proofs.add_signed_product.Goals as goal

pub returns : goal.returns
returns c =
    let a = c.args in
    c.add_word_product.ensures
    ∙ ap (λ (n : ℕ). word (pos a.sum +ℤ pos a.x *ℤ pos n)) (c.residue.ensures ∙ ap word (to_z-of_z w64 a.y c.ranges.y))
    ∙ residue-+-cong (2 ^ 64) (omega arith) (pos a.sum) (pos a.sum) (pos a.x *ℤ pos (word a.y)) (pos a.x *ℤ a.y) refl (residue-*-cong (2 ^ 64) (omega arith) (pos a.x) (pos a.x) (pos (word a.y)) a.y refl (residue-residue (2 ^ 64) (omega arith) a.y))
