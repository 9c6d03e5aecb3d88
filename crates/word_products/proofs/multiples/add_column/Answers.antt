-- `word_products::multiples::add_column` meets its contract: it adds the four products one after the other.
use Prim.Native.Nat.{ℕ, ◌*◌, ◌+◌}
use native.Mathlib.Omega.{arith}
use mathlib.Core.Path.{◌∙◌, ap}
use lib.IntN.{ℤ, pos, ◌+ℤ◌}
use lib.ListN.{get_or}
use Rattle.integers.specs.Residues.{word}
use Rattle.matrices.specs.Tables.{signed}
use Rattle.word_rows.proofs.Rows.{read-on, times-four, times_words}
use Rattle.word_products.proofs.multiples.add_column.Goals as goal

pub returns : goal.returns
returns c =
    let a = c.args in
    let x : ℕ → ℕ = λ k. get_or a.x k 0 in
    let y : ℕ → ℤ = λ n. get_or a.y.now n (pos 0) in
    times-four a.cols a.j a.sum (x 0) (x 1) (x 2) (x 3) a.y.now
    (read-on a.sum (x 0) (y a.j) (record { sfits = omega arith }) c.add_signed_product-one.ensures)
    (read-on c.add_signed_product-one.result (x 1) (y (a.cols + a.j)) (record { sfits = omega arith }) c.add_signed_product-two.ensures)
    (read-on c.add_signed_product-two.result (x 2) (y (2 * a.cols + a.j)) (record { sfits = omega arith }) c.add_signed_product-three.ensures)
    (read-on c.add_signed_product-three.result (x 3) (y (3 * a.cols + a.j)) (record { sfits = omega arith }) c.add_signed_product.ensures)
    ∙ ap (λ (z : ℤ). word (pos a.sum +ℤ z)) (times_words a.x (signed a.cols a.y.now) a.j)
