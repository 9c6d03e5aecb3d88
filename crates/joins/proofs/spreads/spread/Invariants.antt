-- `joins::spreads::spread` meets its contract: the first places hold the row's one element.
use lib.ListN.{length, get_or}
use Rattle.integers.proofs.Lists.{Filled}
use Rattle.joins.proofs.spreads.spread.Given as goal

abbrev pub invariant-loop-place : goal.invariant-loop-place
invariant-loop-place g l = (d : _) → Filled (length l.initial.out) (λ j. get_or l.row 0 d) d l.place-index l.out
