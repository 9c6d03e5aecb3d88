-- `fold_gram::left_row` meets its contract: the first k numbers of e are those of the first k rows of C and the triangle.
use mathlib.Core.Path.{◌≡◌}
use lib.IntN.{pos}
use Rattle.integers.proofs.Lists.{Filled}
use Rattle.matrices.specs.Triangles.{triangular}
use Rattle.fold_gram.proofs.Folds.{left}
use Rattle.fold_gram.proofs.left_row.Given as goal

abbrev pub invariant-loop-k : goal.invariant-loop-k
invariant-loop-k l = (l.from ≡ triangular l.k) × Filled l.n (left l.d l.q l.i l.k) (pos 0) l.k l.e
