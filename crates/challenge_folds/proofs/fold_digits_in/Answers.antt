-- `challenge_folds::fold_digits_in` meets its contract: the product is by the decoded challenge.
use Rattle.std.proofs.Common.{arith}
use Rattle.matrices.specs.Tables.{signed}
use Rattle.challenges.specs.Challenges.{rows_of, folded}
use Rattle.challenge_folds.proofs.Folds.{product-same}
use Rattle.challenge_folds.proofs.fold_digits_in.Goals as goal

pub small_fold-requires : goal.small_fold-requires
small_fold-requires c =
    let h = c.requires in
    (h.0, c.decode.ensures.1, omega (arith, h.2, c.decode.auto.q), h.1)

pub returns : goal.returns
returns c =
    let a = c.args in
    let rows = rows_of a.c in
    product-same rows a.c.columns c.decode.new.q (folded a.c) c.decode.ensures.0 a.m (signed rows a.ss.now) _ c.small_fold.ensures
