-- `cross_products::write_products` meets its contract: the first i rows of `out` are written.
use Prim.Native.Nat.{◌*◌}
use lib.IntN.{pos}
use Rattle.matrices.proofs.Tables.{TableTo}
use Rattle.cross_products.specs.Rows.{outer}
use Rattle.cross_products.proofs.write_products.Given as goal

abbrev pub invariant-loop-i : goal.invariant-loop-i
invariant-loop-i l = TableTo (pos 0) l.rows l.cols (outer l.x l.y) l.out (l.i * l.cols)
