-- `small_gram::add_block` meets its contract: f times the block's products is added to the first i rows.
use lib.IntN.{◌*ℤ◌}
use Rattle.matrices.proofs.Triangles.{LowerAdded}
use Rattle.small_gram.specs.Blocks.{block_of}
use Rattle.small_gram.proofs.add_block.Given as goal

abbrev pub invariant-loop-i : goal.invariant-loop-i
invariant-loop-i l = LowerAdded l.n (λ a b. l.f *ℤ block_of l.p a b) l.initial.d l.i l.start l.d
