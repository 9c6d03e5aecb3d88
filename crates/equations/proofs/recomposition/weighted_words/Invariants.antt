-- `equations::recomposition::weighted_words` meets its contract: `sum` is that of the first q terms, modulo 2^64.
use mathlib.Core.Path.{◌≡◌}
use mathlib.Core.List.{List}
use Prim.Native.Nat.{ℕ, ◌+◌, ◌≤◌}
use lib.IntN.{ℤ, pos, ◌*ℤ◌}
use lib.ListN.{get_or}
use Rattle.integers.specs.Sums as Sums
use Rattle.integers.specs.Residues.{word}
use Rattle.equations.proofs.recomposition.weighted_words.Given as goal

abbrev pub term : List ℕ → ℕ → List ℕ → ℕ → ℤ
term x start powers q = pos (get_or x (start + q) 0) *ℤ pos (get_or powers q 0)

abbrev pub invariant-loop-q : goal.invariant-loop-q
invariant-loop-q l = (l.q ≤ l.k) × (l.sum ≡ word (Sums.sum l.q (term l.x l.start l.powers)))
