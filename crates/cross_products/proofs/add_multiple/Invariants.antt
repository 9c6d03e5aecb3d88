-- `cross_products::add_multiple` meets its contract: x times y is added to the numbers from the pairs that are left on.
use Prim.Native.Nat.{◌*◌}
use lib.IntN.{pos, ◌*ℤ◌}
use lib.ListN.{length, get_or}
use Rattle.matrices.specs.Elements.{exactly, Added}
use Rattle.cross_products.proofs.add_multiple.Given as goal

abbrev pub invariant-loop-pair : goal.invariant-loop-pair
invariant-loop-pair l = Added exactly (λ j. l.x *ℤ get_or l.y j (pos 0)) (2 * l.pair) (length l.fn.row) l.fn.row l.row
