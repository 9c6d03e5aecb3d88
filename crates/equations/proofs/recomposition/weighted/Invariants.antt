-- `equations::recomposition::weighted` meets its contract: `sum` holds the bits of the first q terms.
use mathlib.Core.Path.{◌≡◌}
use mathlib.Core.List.{List}
use Prim.Native.Nat.{ℕ, ◌+◌, ◌≤◌}
use lib.IntN.{ℤ, pos, ◌*ℤ◌}
use lib.ListN.{get_or}
use Rattle.integers.specs.Sums as Sums
use Rattle.equations.proofs.recomposition.weighted.Given as goal

abbrev pub term : List ℤ → ℕ → List ℕ → ℕ → ℤ
term x start powers q = get_or x (start + q) (pos 0) *ℤ pos (get_or powers q 0)

abbrev pub invariant-loop-q : goal.invariant-loop-q
invariant-loop-q l = (l.q ≤ l.k) × (l.sum ≡ Sums.sum l.q (term l.x l.start l.powers))
