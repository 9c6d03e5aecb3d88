-- `word_products::multiples::add_four_rows` meets its contract: the words from number j on have had their four products added.
use mathlib.Core.Path.{◌≡◌, ◌∙◌, ap}
use Prim.Native.Nat.{◌-◌}
use native.Mathlib.Omega.{arith}
use lib.IntN.{ℤ, pos, ◌+ℤ◌}
use lib.ListN.{length, get_or}
use Rattle.integers.specs.Residues.{word}
use Rattle.matrices.specs.Tables.{signed}
use Rattle.matrices.specs.Elements.{modulo}
use Rattle.matrices.proofs.Elements.{added_none, added-down}
use Rattle.word_rows.specs.Rows.{row_times}
use Rattle.word_rows.proofs.Rows.{times_words}
use Rattle.word_products.proofs.multiples.add_four_rows.Goals as goal

pub loop-j-init : goal.loop-j-init
loop-j-init c = rw c.requires.2 (added_none modulo (row_times 4 c.args.x.now (signed c.args.cols c.args.y.now)) c.args.cols c.args.row.now)

pub loop-j-preserved : goal.loop-j-preserved
loop-j-preserved c =
    let a = c.args in
    let j = c.loop-j.j - 1 in
    added-down modulo (row_times 4 a.x.now (signed a.cols a.y.now)) c.loop-j.j (length a.row.now) a.row.now c.loop-j.row _ c.loop-j.invariant
    (omega arith) (omega (arith, c.loop-j.invariant.within, c.loop-j.invariant.long))
    (c.add_column.ensures ∙ ap (λ (z : ℤ). word (pos (get_or c.loop-j.row j 0) +ℤ z)) (times_words a.x.now (signed a.cols a.y.now) j))

pub shape_of-row : goal.shape_of-row
shape_of-row c = c.loop-j.invariant.long

pub returns : goal.returns
returns c = let e : c.loop-j.j ≡ 0 = omega arith in rw e at c.loop-j.invariant
