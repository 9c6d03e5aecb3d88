-- `equations::recomposition::weighted_block` meets its contract: `sum` holds the bits of the first q rows' terms.
use mathlib.Core.Path.{◌≡◌}
use Prim.Native.Nat.{◌≤◌}
use Rattle.integers.specs.Sums as Sums
use Rattle.equations.specs.Blocks.{row_term}
use Rattle.equations.proofs.recomposition.weighted_block.Given as goal

abbrev pub invariant-loop-q : goal.invariant-loop-q
invariant-loop-q l = (l.q ≤ l.k) × (l.sum ≡ Sums.sum l.q (row_term l.x l.powers l.k l.i l.j))
