-- `verdicts::diagonals_hold` meets its contract: the diagonal of d1, and where it is within B that of d2.
use mathlib.Core.Path.{refl}
use Rattle.lova.specs.Tests.{diagonal_within}
use Rattle.verdicts.proofs.diagonals_hold.Goals as goal

pub returns-then-diagonal_within : goal.returns-then-diagonal_within
unfolding diagonal_within
returns-then-diagonal_within c =
    rw (← c.right.ensures, ← c.diagonal_within.ensures, c.if-diagonal_within.true, ← c.diagonal_within-then-diagonal_within.ensures) refl

pub returns-else-diagonal_within : goal.returns-else-diagonal_within
unfolding diagonal_within
returns-else-diagonal_within c = rw (← c.diagonal_within.ensures, c.if-diagonal_within.false) refl
