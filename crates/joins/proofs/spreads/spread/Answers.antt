-- `joins::spreads::spread` meets its contract: the row is copied, or its one element stands everywhere.
use mathlib.Core.Path.{◌≡◌, ◌∙◌}
use native.Mathlib.Omega.{arith}
use lib.ListN.{length, get_or}
use Rattle.std.proofs.lemmas.List.{get_or_default}
use Rattle.integers.proofs.Lists.{filled_more, filled-all}
use Rattle.joins.proofs.Columns.{fresh_long, spread_general, spread_fresh}
use Rattle.joins.proofs.spreads.spread.Goals as goal

pub returns-in-General : goal.returns-in-General
returns-in-General g c d =
    let a = c.args in
    c.copy.ensures ∙ spread_general d a.profile a.row.now (length a.out.now) c.requires c.in-General.is

pub loop-place-preserved : goal.loop-place-preserved
loop-place-preserved g c d =
    let a = c.args in
    let l = c.loop-place in
    let one : length a.row.now ≡ 1 = fresh_long d a.profile a.row.now (length a.out.now) c.requires c.in-Fresh.is in
    filled_more (length a.out.now) (λ j. get_or a.row.now 0 d) d l.place-index l.out c.index-row-0.result (omega arith)
    (c.index-row-0.is ∙ get_or_default a.row.now 0 c.index-row-0.result d (omega (arith, one))) (l.invariant d)

pub returns-after-loop-place : goal.returns-after-loop-place
returns-after-loop-place g c d =
    let a = c.args in
    let l = c.loop-place in
    filled-all (length a.out.now) (λ j. get_or a.row.now 0 d) d l.place-index l.out (omega (arith, (l.invariant d).long)) (l.invariant d)
    ∙ spread_fresh d a.profile a.row.now (length a.out.now) c.requires c.in-Fresh.is
