-- `word_folds::fold_column` meets its contract: `sum` is that of the products from number k on, modulo 2^64.
use mathlib.Core.Path.{◌≡◌}
use mathlib.Core.List.{List}
use Prim.Native.Nat.{ℕ, ◌+◌, ◌-◌, ◌≤◌}
use lib.IntN.{ℤ, pos, ◌*ℤ◌}
use lib.ListN.{get_or}
use Rattle.integers.specs.Residues.{word}
use Rattle.integers.specs.Sums as Sums
use Rattle.small_rows.specs.Columns.{by_columns}
use Rattle.word_folds.proofs.fold_column.Given as goal

-- product number k
abbrev pub term : List ℕ → List ℤ → ℕ → ℕ → ℤ
term x q j k = pos (get_or x k 0) *ℤ by_columns q k j

abbrev pub invariant-loop-k : goal.invariant-loop-k
invariant-loop-k l = (l.k ≤ l.cols) × (l.sum ≡ word (Sums.sum (l.cols - l.k) (λ r. term l.x l.q l.j (l.k + r))))
