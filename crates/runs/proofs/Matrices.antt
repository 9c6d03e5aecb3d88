-- What `a` comes to: unread, or taken.
use mathlib.Core.Path.{◌≡◌, ap}
use mathlib.Core.List.{List}
use Rattle.std.specs.Prelude.{Option, Some, None}
use Prim.Native.Nat.{ℕ}
use Rattle.settings.specs.Settings.{Parameters}
use Rattle.chain.specs.Chain.{Counts, first, next, refuse, on_matrix}

module _ (n : Counts) (p : Parameters) (o : Option (List ℕ)) where
  pub matrix-unread : o ≡ None → on_matrix n p o ≡ refuse n 13
  unfolding on_matrix
  matrix-unread e = ap (on_matrix n p) e

  pub matrix-taken : (A : List ℕ) → o ≡ Some A → on_matrix n p o ≡ next n (first p A)
  unfolding on_matrix
  matrix-taken A e = ap (on_matrix n p) e
