-- `word_products::commit_narrow` meets its contract: the first e entries of `out` are those of the product.
use Rattle.integers.specs.Residues.{word}
use Rattle.matrices.specs.Matrices.{product}
use Rattle.matrices.specs.Tables.{unsigned, signed}
use Rattle.matrices.proofs.Tables.{TableTo}
use Rattle.word_products.proofs.commit_narrow.Given as goal

abbrev pub invariant-loop-e : goal.invariant-loop-e
invariant-loop-e l = TableTo 0 l.n l.cols (λ i j. word (product l.m (unsigned l.m l.a) (signed l.cols l.s) i j)) l.out l.e
