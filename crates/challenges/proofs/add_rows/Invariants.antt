-- `challenges::add_rows` meets its contract: the rows are added to the numbers from row `from` to before row k.
use Prim.Native.Nat.{◌+◌, ◌≤◌}
use lib.ListN.{length}
use Rattle.matrices.specs.Elements.{exactly, Added}
use Rattle.matrices.specs.Tables.{challenge}
use Rattle.challenges.proofs.add_rows.Given as goal

abbrev pub invariant-loop-k : goal.invariant-loop-k
invariant-loop-k l = (l.k ≤ length l.initial.column) × Added exactly (λ k. challenge l.t l.c (k + l.further) l.j) l.from l.k l.initial.column l.column
