-- `cross_products::add_products` meets its contract: the products are added to the first i rows.
use Prim.Native.Nat.{◌≤◌}
use Rattle.cross_products.specs.Rows.{outer}
use Rattle.cross_products.proofs.Sums.{RowsAdded}
use Rattle.cross_products.proofs.add_products.Given as goal

abbrev pub invariant-loop-i : goal.invariant-loop-i
invariant-loop-i l = (l.i ≤ l.rows) × RowsAdded l.cols (outer l.x l.y) l.i l.initial.out l.out
