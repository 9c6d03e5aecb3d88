-- `line_machines::cut_line` meets its contract: the answer is that of the bytes still to come.
use mathlib.Core.Path.{◌≡◌}
use lib.ListN.{length}
use Rattle.line_machines.proofs.Cutting.{Cutting}
use Rattle.line_machines.proofs.cut_line.Given as goal

abbrev pub invariant-loop-i : goal.invariant-loop-i
invariant-loop-i l = Cutting l.chunk l.initial.line l.from l.line l.length l.i × (length l.line ≡ length l.initial.line)
