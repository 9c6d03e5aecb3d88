-- `cross_products::write_multiple` meets its contract: the first j numbers of `row` are those of x times y.
use Prim.Native.Nat.{◌*◌}
use lib.IntN.{pos, ◌*ℤ◌}
use lib.ListN.{length, get_or}
use Rattle.integers.proofs.Lists.{Filled}
use Rattle.cross_products.proofs.write_multiple.Given as goal

abbrev pub invariant-loop-pair : goal.invariant-loop-pair
invariant-loop-pair l = Filled (length l.initial.row) (λ j. l.x *ℤ get_or l.y j (pos 0)) (pos 0) (2 * l.pair) l.row
