-- `turns::goes_on` meets its contract: its two comparisons are those of `goes_on`.
use borrow.Author.Tests.{lt-ltb, le-ltb}
use mathlib.Core.Path.{refl}
use Rattle.turns.specs.Turns.{goes_on}
use Rattle.turns.proofs.goes_on.Goals as goal

pub returns-then-used-weights : goal.returns-then-used-weights
unfolding goes_on
returns-then-used-weights c = rw (lt-ltb _ _ c.if-used-weights.true) refl

pub returns-else-used-weights : goal.returns-else-used-weights
unfolding goes_on
returns-else-used-weights c = rw (le-ltb _ _ c.if-used-weights.false) refl
