-- `cross_products::add_lower` meets its contract: the products are added to the first i rows of the triangle.
use Rattle.matrices.proofs.Triangles.{LowerAdded}
use Rattle.cross_products.specs.Rows.{outer}
use Rattle.cross_products.proofs.add_lower.Given as goal

abbrev pub invariant-loop-i : goal.invariant-loop-i
invariant-loop-i l = LowerAdded l.n (outer l.y l.y) l.initial.out l.i l.start l.out
