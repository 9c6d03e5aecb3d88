-- `challenges::fold_row` meets its contract: the first j numbers are those of the row.
use mathlib.Core.Path.{◌∙◌}
use native.Mathlib.Omega.{arith}
use lib.IntN.{pos}
use mir.Syntax.{w64}
use mir.ValLaws.{to_z-of_z}
use Rattle.integers.proofs.Lists.{filled_more, filled-all}
use Rattle.small_rows.specs.Columns.{by_columns}
use Rattle.challenges.specs.Rows.{row_times}
use Rattle.challenges.proofs.fold_row.Goals as goal

pub loop-j-preserved : goal.loop-j-preserved
loop-j-preserved c =
    let l = c.loop-j in
    let a = c.args in
    filled_more a.t (row_times a.e.now (by_columns a.q.now)) (pos 0) l.j l.out _ (omega arith)
    (to_z-of_z w64 c.fold_entry.result (record { sfits = c.fold_entry.type_inv }) ∙ c.fold_entry.ensures) l.invariant

pub returns : goal.returns
returns c =
    let l = c.loop-j in
    let a = c.args in
    filled-all a.t (row_times a.e.now (by_columns a.q.now)) (pos 0) l.j l.out (omega arith) l.invariant
