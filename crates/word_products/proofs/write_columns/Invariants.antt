-- `word_products::write_columns` meets its contract: the first j words of `row` are written.
use lib.ListN.{length}
use Rattle.integers.specs.Residues.{word}
use Rattle.integers.proofs.Lists.{Filled}
use Rattle.matrices.specs.Tables.{signed}
use Rattle.word_rows.specs.Rows.{row_times}
use Rattle.word_products.proofs.write_columns.Given as goal

abbrev pub invariant-loop-j : goal.invariant-loop-j
invariant-loop-j l = Filled l.cols (λ j. word (row_times (length l.x) l.x (signed l.cols l.s) j)) 0 l.j l.row
