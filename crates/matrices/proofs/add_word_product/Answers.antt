-- `matrices::add_word_product` meets its contract: the product and the sum wrap.
use Rattle.std.proofs.Common.{◌≡◌, ℕ, ◌+◌, ◌*◌, ◌%◌, ◌^◌, ◌<◌, pos, ◌*ℤ◌, sym, ◌∙◌, ap₂, arith}
use Rattle.integers.specs.Residues.{word}
use Rattle.integers.proofs.Residues.{residue-small, residue-+, residue-*}
use Rattle.matrices.proofs.add_word_product.Goals as goal

pub returns : goal.returns
returns c =
    let a = c.args in
    let own : (n : ℕ) → n < 2 ^ 64 → n ≡ word (pos n) = λ n h. sym (residue-small (2 ^ 64) n h) in
    ap₂ (λ (m n : ℕ). (m + n) % 2 ^ 64) (own a.sum (omega arith))
    (c.wrapping_mul.ensures ∙ ap₂ (λ (m n : ℕ). m * n % 2 ^ 64) (own a.x (omega arith)) (own a.y (omega arith)) ∙ sym (residue-* (2 ^ 64) (pos a.x) (pos a.y) (omega arith)))
    ∙ sym (residue-+ (2 ^ 64) (pos a.sum) (pos a.x *ℤ pos a.y) (omega arith))
