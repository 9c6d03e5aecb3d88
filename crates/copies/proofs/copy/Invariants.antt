-- `copies::copy` meets its contract: the first i elements are copied.
use lib.ListN.{length, get_or}
use Rattle.integers.proofs.Lists.{Filled}
use Rattle.copies.proofs.copy.Given as goal

abbrev pub invariant-loop-i : goal.invariant-loop-i
invariant-loop-i g l = (d : _) → Filled (length l.initial.to) (λ i. get_or l.from i d) d l.i l.to
