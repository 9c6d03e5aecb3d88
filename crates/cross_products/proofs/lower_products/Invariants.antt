-- `cross_products::lower_products` meets its contract: `out` is the Gram matrix of the first k rows.
use mathlib.Core.Path.{◌≡◌}
use Prim.Native.Nat.{◌≤◌}
use Rattle.matrices.specs.Matrices.{gram}
use Rattle.matrices.specs.Tables.{signed}
use Rattle.matrices.specs.Triangles.{lower}
use Rattle.cross_products.proofs.lower_products.Given as goal

abbrev pub invariant-loop-k : goal.invariant-loop-k
invariant-loop-k l = (l.k ≤ l.m) × (l.out ≡ lower l.cols (gram l.k (signed l.cols l.s)))
