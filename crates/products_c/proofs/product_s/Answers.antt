-- `products_c::product_s` meets its contract: that of the function it calls, with no copies to add up.
use Rattle.matrices.specs.Tables.{challenge}
use Rattle.challenges.specs.Challenges.{folded}
use Rattle.products_c.proofs.Plain.{product-plain}
use Rattle.products_c.proofs.product_s.Goals as goal

pub fold_digits-requires : goal.fold_digits-requires
fold_digits-requires c =
    let h = c.requires in
    rw (c.plain.ensures.rows, c.plain.ensures.columns) (h.0, h.1, h.3)

pub returns : goal.returns
returns c =
    let a = c.args in
    let e = c.plain.ensures in
    rw e.columns at (product-plain a.n c.plain.result.columns (folded c.plain.result) (challenge a.t a.c.now) e.entries a.s.now _ a.m
    (rw e.rows at c.fold_digits.ensures))
