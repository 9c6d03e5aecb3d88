-- `print_all` meets its contract: the blocks that were written, and what is left, are all that there was to come.
use Rattle.std.proofs.Common.{◌≡◌, length}
use Rattle.load_files.specs.Pending.{to_come}
use Rattle.load_runs.proofs.Blocks.{Written}
use Rattle.load_runs.proofs.printing.print_all.Given as goal

abbrev pub invariant-loop-out : goal.invariant-loop-out
invariant-loop-out g l = (length l.out ≡ 524288) × Written (to_come l.initial.rest) (to_come l.rest)

abbrev pub decreases-loop-out : goal.decreases-loop-out
decreases-loop-out g l = length (to_come l.rest)
