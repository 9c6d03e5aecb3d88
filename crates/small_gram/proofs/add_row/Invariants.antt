-- `small_gram::add_row` meets its contract: f times the block's products is added to the first j numbers.
use Prim.Native.Nat.{◌≤◌}
use lib.IntN.{◌*ℤ◌}
use lib.ListN.{length}
use Rattle.matrices.specs.Elements.{exactly, Added}
use Rattle.small_gram.specs.Blocks.{block_of}
use Rattle.small_gram.proofs.add_row.Given as goal

abbrev pub invariant-loop-j : goal.invariant-loop-j
invariant-loop-j l = (l.j ≤ length l.initial.row) × Added exactly (λ j. l.f *ℤ block_of l.p l.i j) 0 l.j l.initial.row l.row
