-- `fold_gram::multiples::plus_row` meets its contract: the row is added to the first k numbers twice.
use Prim.Native.Nat.{◌≤◌}
use lib.IntN.{pos, ◌*ℤ◌}
use lib.ListN.{length, get_or}
use Rattle.matrices.specs.Elements.{exactly, Added}
use Rattle.fold_gram.proofs.multiples.plus_row.Given as goal

abbrev pub invariant-loop-k : goal.invariant-loop-k
invariant-loop-k l = (l.k ≤ length l.initial.e) × Added exactly (λ k. pos 2 *ℤ get_or l.row k (pos 0)) 0 l.k l.initial.e l.e
