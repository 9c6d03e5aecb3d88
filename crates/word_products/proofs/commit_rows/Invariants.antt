-- `word_products::commit_rows` meets its contract: the first i rows of `out` are written.
use Prim.Native.Nat.{◌*◌}
use Rattle.integers.specs.Residues.{word}
use Rattle.matrices.specs.Matrices.{product}
use Rattle.matrices.specs.Tables.{unsigned, signed}
use Rattle.matrices.proofs.Tables.{TableTo}
use Rattle.word_products.proofs.commit_rows.Given as goal

abbrev pub invariant-loop-i : goal.invariant-loop-i
invariant-loop-i l = TableTo 0 l.n l.cols (λ i j. word (product l.m (unsigned l.m l.a) (signed l.cols l.s) i j)) l.out (l.i * l.cols)
