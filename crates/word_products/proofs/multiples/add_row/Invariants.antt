-- `word_products::multiples::add_row` meets its contract: the first j words have had their products added.
use mathlib.Core.List.{List}
use Prim.Native.Nat.{ℕ, ◌*◌}
use lib.IntN.{ℤ, pos, ◌*ℤ◌}
use lib.ListN.{get_or}
use Rattle.matrices.specs.Elements.{modulo, Added}
use Rattle.word_products.proofs.multiples.add_row.Given as goal

-- x times number j of y
abbrev pub multiple : ℕ → List ℤ → ℕ → ℤ
multiple x y j = pos x *ℤ get_or y j (pos 0)

abbrev pub invariant-loop-pair : goal.invariant-loop-pair
invariant-loop-pair l = Added modulo (multiple l.x l.y) 0 (2 * l.pair) l.initial.row l.row
