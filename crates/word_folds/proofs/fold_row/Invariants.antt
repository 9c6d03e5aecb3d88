-- `word_folds::fold_row` meets its contract: the first j words are those of the product.
use Rattle.integers.specs.Residues.{word}
use Rattle.integers.proofs.Lists.{Filled}
use Rattle.small_rows.specs.Columns.{by_columns}
use Rattle.word_rows.specs.Rows.{row_times}
use Rattle.word_folds.proofs.fold_row.Given as goal

abbrev pub invariant-loop-j : goal.invariant-loop-j
invariant-loop-j l = Filled l.t (λ j. word (row_times l.cols l.x (by_columns l.q) j)) 0 l.j l.row
