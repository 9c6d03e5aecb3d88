-- `turns::weights_inside` meets its contract: `all` says whether the first i weights are in their range.
use mathlib.Core.Path.{◌≡◌}
use mathlib.Core.Bool.{Bool}
use mathlib.Core.List.{List}
use Prim.Native.Nat.{ℕ}
use lib.ListN.{get_or}
use Rattle.integers.specs.Ranges.{within}
use Rattle.integers.specs.Tests.{all}
use Rattle.turns.specs.Turns.{weight_range}
use Rattle.turns.proofs.weights_inside.Given as goal

-- the test of a weight
abbrev pub inside : List ℕ → ℕ → Bool
inside w i = within weight_range (get_or w i 0)

abbrev pub invariant-loop-weight : goal.invariant-loop-weight
invariant-loop-weight l = (l.all ≡ all l.weight-index (inside l.weights))
