-- `cross_products::write_lower` meets its contract: the first i rows of the triangle are written.
use Rattle.matrices.proofs.Triangles.{LowerTo}
use Rattle.cross_products.specs.Rows.{outer}
use Rattle.cross_products.proofs.write_lower.Given as goal

abbrev pub invariant-loop-i : goal.invariant-loop-i
invariant-loop-i l = LowerTo l.n (outer l.y l.y) l.i l.start l.out
