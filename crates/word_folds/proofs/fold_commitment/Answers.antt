-- `word_folds::fold_commitment` meets its contract: the first i rows of `out` are those of x times q.
use mathlib.Core.Path.{◌∙◌}
use Prim.Native.Nat.{ℕ, ◌*◌, ◌+◌, ◌≤◌}
use native.Mathlib.Omega.{arith}
use native.Mathlib.Nat.{zero-mul}
use lib.ListN.{length-take, length-drop}
use Rattle.integers.specs.Residues.{word}
use Rattle.matrices.specs.Matrices.{product}
use Rattle.matrices.specs.Tables.{unsigned}
use Rattle.matrices.proofs.Tables.{row_within, table_none, table-part, table-all}
use Rattle.small_rows.specs.Columns.{by_columns}
use Rattle.word_rows.proofs.Rows.{times-row}
use Rattle.word_folds.proofs.fold_commitment.Goals as goal
use Rattle.word_folds.proofs.fold_commitment.Goals.{At-loop-i, In-loop-i, Start}

-- the function's entry, seen from the loop
abbrev start : At-loop-i → Start
start c = (goal.at.At-loop-i c).Start

-- what `out` is to hold
abbrev folded : Start → ℕ → ℕ → ℕ
folded c i j = word (product c.args.cols (unsigned c.args.cols c.args.x.now) (by_columns c.args.q.now) i j)

pub loop-i-init : goal.loop-i-init
loop-i-init c =
    let s = (goal.at.loop-i-init c).Start in
    table_none _ _ _ (folded s) _ _ (zero-mul s.args.t) s.requires.3

-- the rows that a turn lends lie within x and within `out`
within : (c : In-loop-i) →
    let a = (start (goal.at.In-loop-i c).At-loop-i).args in
    let i = c.loop-i.i in
    (i * a.cols + a.cols ≤ a.n * a.cols) × (i * a.t + a.t ≤ a.n * a.t)
within c = (row_within _ _ _ c.loop-i-test.true, row_within _ _ _ c.loop-i-test.true)

pub fold_row-requires : goal.fold_row-requires
fold_row-requires c =
    let l = (goal.at.fold_row-requires c).In-loop-i in
    let h = (start (goal.at.fold_row-requires c).At-loop-i).requires in (
      simp (length-take, length-drop) (omega (arith, within l, h.0)),
      h.1,
      h.2,
      simp (length-take, length-drop) (omega (arith, within l, l.loop-i.invariant.long)),
    )

pub loop-i-preserved : goal.loop-i-preserved
loop-i-preserved c =
    let l = (goal.at.loop-i-preserved c).At-loop-i in
    let a = (start l).args in
    table-part _ _ _ (folded (start l)) _ l.loop-i.i _ c.loop-i-test.true
    (c.fold_row.ensures ∙ times-row a.t a.cols l.loop-i.i a.x.now (by_columns a.q.now)) l.loop-i.invariant

pub returns : goal.returns
returns c = table-all _ _ _ (folded (start (goal.at.returns c).At-loop-i)) _ c.loop-i.i (omega arith) c.loop-i.invariant
