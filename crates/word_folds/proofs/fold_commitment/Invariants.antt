-- `word_folds::fold_commitment` meets its contract: the first i rows of `out` are those of x times q.
use Prim.Native.Nat.{◌*◌}
use Rattle.integers.specs.Residues.{word}
use Rattle.matrices.specs.Matrices.{product}
use Rattle.matrices.specs.Tables.{unsigned}
use Rattle.matrices.proofs.Tables.{TableTo}
use Rattle.small_rows.specs.Columns.{by_columns}
use Rattle.word_folds.proofs.fold_commitment.Given as goal

abbrev pub invariant-loop-i : goal.invariant-loop-i
invariant-loop-i l = TableTo 0 l.n l.t (λ i j. word (product l.cols (unsigned l.cols l.x) (by_columns l.q) i j)) l.out (l.i * l.t)
