-- `cross_products::add_four_products` meets its contract: the products of four rows are added to the first i rows.
use Prim.Native.Nat.{◌≤◌}
use Rattle.matrices.specs.Matrices.{product, transposed}
use Rattle.matrices.specs.Tables.{signed}
use Rattle.cross_products.proofs.Sums.{RowsAdded}
use Rattle.cross_products.proofs.add_four_products.Given as goal

abbrev pub invariant-loop-i : goal.invariant-loop-i
invariant-loop-i l =
    (l.i ≤ l.rows) × RowsAdded l.cols (product 4 (transposed (signed l.rows l.x)) (signed l.cols l.y)) l.i l.initial.out l.out
