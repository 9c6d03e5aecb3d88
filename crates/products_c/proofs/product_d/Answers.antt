-- `products_c::product_d` meets its contract: that of the function it calls, with no copies to add up.
use Rattle.std.proofs.Common.{sym}
use native.Mathlib.Nat.{zero-mul}
use Rattle.matrices.specs.Tables.{challenge}
use Rattle.challenges.specs.Challenges.{folded}
use Rattle.products_c.proofs.Plain.{gram-plain}
use Rattle.products_c.proofs.product_d.Goals as goal

pub fold_instance-requires : goal.fold_instance-requires
fold_instance-requires c =
    let h = c.requires in
    rw (c.plain.ensures.rows, c.plain.ensures.columns) (sym (zero-mul c.args.n), h.0, h.1, h.2, h.3, sym (zero-mul c.args.t), h.5)

pub returns : goal.returns
returns c =
    let a = c.args in
    let e = c.plain.ensures in
    rw e.columns at (gram-plain a.n c.plain.result.columns (folded c.plain.result) (challenge a.t a.c.now) e.entries a.d.now _
    (rw e.rows at c.fold_instance.ensures.d_after))
