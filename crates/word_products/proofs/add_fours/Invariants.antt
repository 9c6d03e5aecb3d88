-- `word_products::add_fours` meets its contract: the first k words of x times the first k rows of s are added.
use Prim.Native.Nat.{◌*◌}
use lib.ListN.{length}
use Rattle.matrices.specs.Tables.{signed}
use Rattle.matrices.specs.Elements.{modulo, Added}
use Rattle.word_rows.specs.Rows.{row_times}
use Rattle.word_products.proofs.add_fours.Given as goal

abbrev pub invariant-loop-four : goal.invariant-loop-four
invariant-loop-four l = Added modulo (row_times (4 * l.four) l.x (signed l.cols l.s)) 0 (length l.initial.row) l.initial.row l.row
