-- `small_fold::fold_row` meets its contract: the first j numbers are written.
use Prim.Native.Nat.{◌*◌}
use lib.IntN.{pos}
use Rattle.integers.proofs.Lists.{Filled}
use Rattle.dots.specs.Dots.{dots}
use Rattle.small_fold.proofs.fold_row.Given as goal

abbrev pub invariant-loop-j : goal.invariant-loop-j
invariant-loop-j l = Filled l.t (λ j. dots l.p l.q 0 (j * 512) l.n) (pos 0) l.j l.out
