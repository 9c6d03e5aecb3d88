-- `word_products::times_column` meets its contract: `sum` is that of the first k products, modulo 2^64.
use mathlib.Core.Path.{◌≡◌}
use Prim.Native.Nat.{◌+◌, ◌*◌}
use Rattle.integers.specs.Residues.{word}
use Rattle.matrices.specs.Tables.{signed}
use Rattle.word_rows.specs.Rows.{row_times}
use Rattle.word_products.proofs.times_column.Given as goal

abbrev pub invariant-loop-word : goal.invariant-loop-word
invariant-loop-word l = (l.at ≡ l.word-index * l.cols + l.j) × (l.sum ≡ word (row_times l.word-index l.x (signed l.cols l.s) l.j))
