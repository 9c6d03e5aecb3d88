-- `word_products::multiples::add_four_rows` meets its contract: the words from number j on have had their four products added.
use lib.ListN.{length}
use Rattle.matrices.specs.Tables.{signed}
use Rattle.matrices.specs.Elements.{modulo, Added}
use Rattle.word_rows.specs.Rows.{row_times}
use Rattle.word_products.proofs.multiples.add_four_rows.Given as goal

abbrev pub invariant-loop-j : goal.invariant-loop-j
invariant-loop-j l = Added modulo (row_times 4 l.x (signed l.cols l.y)) l.j (length l.initial.row) l.initial.row l.row
