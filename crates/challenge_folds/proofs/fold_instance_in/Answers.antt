-- `challenge_folds::fold_instance_in` meets its contract: both products are by the decoded challenge.
use Rattle.std.proofs.Common.{arith}
use Rattle.matrices.specs.Tables.{unsigned}
use Rattle.matrices.specs.Triangles.{mirrored}
use Rattle.challenges.specs.Challenges.{rows_of, folded}
use Rattle.challenge_folds.proofs.Folds.{words_same, gram-same}
use Rattle.challenge_folds.proofs.fold_instance_in.Goals as goal

pub fold_gram-requires : goal.fold_gram-requires
fold_gram-requires c =
    let h = c.requires in
    (h.1, h.2, h.3, c.decode.ensures.1, omega (arith, h.6, c.decode.auto.q), h.5)

pub returns : goal.returns
returns c =
    let a = c.args in
    let rows = rows_of a.c in
    let q = c.decode.new.q in
    let same = c.decode.ensures.0 in record {
      t_after = words_same rows a.c.columns q (folded a.c) same a.n (unsigned rows a.tt.now) _ c.fold_commitment.ensures;
      d_after = gram-same rows a.c.columns q (folded a.c) same (mirrored a.dd.now) _ c.fold_gram.ensures;
    }
