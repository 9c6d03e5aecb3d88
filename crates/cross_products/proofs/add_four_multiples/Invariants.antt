-- `cross_products::add_four_multiples` meets its contract: the products are added to the numbers from number j on.
use lib.ListN.{length}
use Rattle.matrices.specs.Matrices.{product, transposed}
use Rattle.matrices.specs.Tables.{signed}
use Rattle.matrices.specs.Elements.{exactly, Added}
use Rattle.cross_products.proofs.add_four_multiples.Given as goal

abbrev pub invariant-loop-j : goal.invariant-loop-j
invariant-loop-j l =
    Added exactly (product 4 (transposed (signed l.rows l.x)) (signed l.cols l.y) l.i) l.j (length l.initial.row) l.initial.row l.row
