-- `word_products::add_rows` meets its contract: the first k words of x times the first k rows of s are added to what `row`
-- held before the fours.
use mathlib.Core.Path.{◌≡◌}
use mathlib.Core.List.{List}
use Prim.Native.Nat.{ℕ}
use lib.ListN.{length}
use Rattle.matrices.specs.Tables.{signed}
use Rattle.matrices.specs.Elements.{modulo, Added}
use Rattle.word_rows.specs.Rows.{row_times}
use Rattle.word_products.proofs.add_rows.Given as goal

abbrev pub invariant-loop-k : goal.invariant-loop-k
invariant-loop-k l =
    (length l.row ≡ l.cols) × ((first : List ℕ) → Added modulo (row_times l.taken l.x (signed l.cols l.s)) 0 (length first) first l.initial.row → Added modulo (row_times l.k l.x (signed l.cols l.s)) 0 (length first) first l.row)
