-- `word_products::write_columns` meets its contract: the first j words of `row` are written.
use Prim.Native.Nat.{ℕ}
use native.Mathlib.Omega.{arith}
use lib.ListN.{length}
use Rattle.integers.specs.Residues.{word}
use Rattle.integers.proofs.Lists.{filled_none, filled_more, filled-all}
use Rattle.matrices.specs.Tables.{signed}
use Rattle.word_rows.specs.Rows.{row_times}
use Rattle.word_products.proofs.write_columns.Goals as goal
use Rattle.word_products.proofs.write_columns.Goals.{At-loop-j, Start}

-- what `row` holds at the end
abbrev made : Start → ℕ → ℕ
made c j = word (row_times (length c.args.x.now) c.args.x.now (signed c.args.cols c.args.s.now) j)

-- the function's entry, seen from the loop
abbrev entry : At-loop-j → Start
entry c = (goal.at.At-loop-j c).Start

pub loop-j-init : goal.loop-j-init
loop-j-init c = let s = (goal.at.loop-j-init c).Start in filled_none s.args.cols (made s) 0 _ s.requires.1

pub loop-j-preserved : goal.loop-j-preserved
loop-j-preserved c =
    let l = (goal.at.loop-j-preserved c).At-loop-j in
    filled_more (entry l).args.cols (made (entry l)) 0 l.loop-j.j l.loop-j.row _ (omega (arith, c.requires.1))
    c.times_column.ensures l.loop-j.invariant

pub returns : goal.returns
returns c =
    let l = (goal.at.returns c).At-loop-j in
    filled-all (entry l).args.cols (made (entry l)) 0 l.loop-j.j _ (omega arith) l.loop-j.invariant
