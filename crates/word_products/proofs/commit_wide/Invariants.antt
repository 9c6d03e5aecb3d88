-- `word_products::commit_wide` meets its contract: `out` holds the product of the first `base` columns of a and rows of s.
use mathlib.Core.Path.{◌≡◌}
use Prim.Native.Nat.{◌≤◌}
use Rattle.integers.specs.Residues.{word}
use Rattle.matrices.specs.Matrices.{product}
use Rattle.matrices.specs.Tables.{table, unsigned, signed}
use Rattle.word_products.proofs.commit_wide.Given as goal

abbrev pub invariant-loop-base : goal.invariant-loop-base
invariant-loop-base l = (l.base ≤ l.m) × (l.out ≡ table l.n l.cols (λ i j. word (product l.base (unsigned l.m l.a) (signed l.cols l.s) i j)))
