-- `quadratic_forms::choose` meets its contract: the first j linear terms are written.
use Prim.Native.Nat.{◌≤◌}
use lib.IntN.{pos}
use Rattle.integers.proofs.Lists.{Filled}
use Rattle.quadratic_forms.specs.Search.{terms_of, after_choice}
use Rattle.quadratic_forms.proofs.choose.Given as goal

abbrev pub invariant-loop-j : goal.invariant-loop-j
invariant-loop-j l = (l.j ≤ l.r) × Filled 12 (after_choice l.e l.r l.c (terms_of l.linear)) (pos 0) l.j l.chosen
