-- `word_products::multiples::write_row` meets its contract: the first j words of `row` are those of x times y.
use mathlib.Core.List.{List}
use Prim.Native.Nat.{ℕ, ◌*◌}
use lib.IntN.{ℤ, pos, ◌*ℤ◌}
use lib.ListN.{length, get_or}
use Rattle.integers.specs.Residues.{word}
use Rattle.integers.proofs.Lists.{Filled}
use Rattle.word_products.proofs.multiples.write_row.Given as goal

-- x times number j of y, as a word
abbrev pub multiple : ℕ → List ℤ → ℕ → ℕ
multiple x y j = word (pos x *ℤ get_or y j (pos 0))

abbrev pub invariant-loop-pair : goal.invariant-loop-pair
invariant-loop-pair l = Filled (length l.initial.row) (multiple l.x l.y) 0 (2 * l.pair) l.row
