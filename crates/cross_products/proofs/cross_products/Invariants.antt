-- `cross_products::cross_products` meets its contract: `out` is x transposed times y, of the first k rows of both.
use mathlib.Core.Path.{◌≡◌}
use Prim.Native.Nat.{◌*◌}
use lib.ListN.{length}
use Rattle.matrices.specs.Matrices.{Agree}
use Rattle.matrices.specs.Tables.{signed}
use Rattle.cross_products.proofs.Sums.{crossed}
use Rattle.cross_products.proofs.cross_products.Given as goal

abbrev pub invariant-loop-k : goal.invariant-loop-k
invariant-loop-k l = (length l.out ≡ l.rows * l.cols) × Agree l.rows l.cols (signed l.cols l.out) (crossed l.rows l.cols l.x l.y l.k)
