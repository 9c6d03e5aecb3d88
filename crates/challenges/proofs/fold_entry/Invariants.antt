-- `challenges::fold_entry` meets its contract: a holds the bits of the first k terms.
use mathlib.Core.Path.{◌≡◌}
use Prim.Native.Nat.{◌≤◌}
use lib.ListN.{length}
use Rattle.challenges.proofs.Terms.{terms}
use Rattle.challenges.proofs.fold_entry.Given as goal

abbrev pub invariant-loop-k : goal.invariant-loop-k
invariant-loop-k l = (l.k ≤ length l.e) × (l.a ≡ terms l.e l.q l.j l.k)
