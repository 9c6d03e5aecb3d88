-- `word_products::add_block` meets its contract: the first i rows of `out` have the block added, and the others are as before.
use Prim.Native.Nat.{◌+◌}
use Rattle.integers.specs.Residues.{word}
use Rattle.matrices.specs.Matrices.{product}
use Rattle.matrices.specs.Tables.{unsigned, signed}
use Rattle.word_products.proofs.Blocks.{Renewed}
use Rattle.word_products.proofs.add_block.Given as goal

abbrev pub invariant-loop-i : goal.invariant-loop-i
invariant-loop-i l = Renewed 0 l.n l.cols (λ i j. word (product (l.base + l.len) (unsigned l.m l.a) (signed l.cols l.s) i j)) l.initial.out l.out l.i
