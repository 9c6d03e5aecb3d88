-- `word_folds::fold_row` meets its contract: the first j words are those of the product.
use Prim.Native.Nat.{ℕ}
use native.Mathlib.Omega.{arith}
use Rattle.integers.specs.Residues.{word}
use Rattle.integers.proofs.Lists.{filled_none, filled_more, filled-all}
use Rattle.small_rows.specs.Columns.{by_columns}
use Rattle.word_rows.specs.Rows.{row_times}
use Rattle.word_folds.proofs.fold_row.Goals as goal
use Rattle.word_folds.proofs.fold_row.Goals.{Start}

-- what the row is to hold
abbrev folded : Start → ℕ → ℕ
folded c j = word (row_times c.args.cols c.args.x.now (by_columns c.args.q.now) j)

pub loop-j-init : goal.loop-j-init
loop-j-init c =
    let s = (goal.at.loop-j-init c).Start in
    filled_none s.args.t (folded s) 0 s.args.row.now s.requires.3

pub fold_column-requires : goal.fold_column-requires
fold_column-requires c =
    let s = c in
    (s.requires.0, s.requires.1, omega (arith, c.loop-j-test.true, s.requires.2))

pub loop-j-preserved : goal.loop-j-preserved
loop-j-preserved c =
    let l = c in
    let s = (goal.at.loop-j-preserved c).Start in
    filled_more s.args.t (folded s) 0 l.loop-j.j l.loop-j.row _ (omega arith) c.fold_column.ensures l.loop-j.invariant

pub returns : goal.returns
returns c =
    let l = c in
    let s = (goal.at.returns c).Start in
    filled-all s.args.t (folded s) 0 l.loop-j.j l.loop-j.row (omega arith) l.loop-j.invariant
