-- `small_fold::packed_fold` meets its contract: the first r rows are written.
use mathlib.Core.List.{◌++◌}
use Prim.Native.Nat.{ℕ, ◌+◌, ◌*◌, ◌≤◌}
use native.Mathlib.Omega.{arith}
use native.Mathlib.Nat.{zero-mul}
use lib.IntN.{ℤ, pos}
use lib.ListN.{drop, length-replicate, length-take, length-drop}
use Rattle.matrices.specs.Matrices.{product}
use Rattle.matrices.specs.Tables.{signed}
use Rattle.matrices.proofs.Tables.{row_within, table_none, table-part-of, table-all}
use Rattle.small_fold.specs.Padded.{Padded}
use Rattle.small_rows.specs.Columns.{by_columns}
use Rattle.small_rows.proofs.Small.{zeros, within-zeros}
use Rattle.small_fold.proofs.Folds.{padded_row, row-times}
use Rattle.small_fold.proofs.packed_fold.Goals as goal
use Rattle.small_fold.proofs.packed_fold.Goals.{After-load, At-loop-r, In-loop-r, Start}

-- the function's entry, seen from the loop, and what out is to hold
abbrev start : At-loop-r → Start
start c = (goal.at.At-loop-r c).Start

abbrev folded : Start → ℕ → ℕ → ℤ
folded c = product c.args.n (signed c.args.n c.args.s.now) (by_columns c.args.q.now)

pub loop-r-init : goal.loop-r-init
loop-r-init c =
    let a = c.args in (
      omega arith,
      record { long = length-replicate 512 (pos 0); few = c.requires.0.few; small = within-zeros 32767 512; zero = λ x h. zeros 512 x },
      table_none (pos 0) a.m a.t (folded c) a.out.now (0 * a.t) (zero-mul a.t) c.requires.3,
    )

-- row r of out
row : (c : In-loop-r) → let a = (start (goal.at.In-loop-r c).At-loop-r).args in c.loop-r.r * a.t + a.t ≤ a.m * a.t
row c = let a = (start (goal.at.In-loop-r c).At-loop-r).args in row_within a.m a.t c.loop-r.r c.loop-r-test.true

-- p after load
padded : (c : After-load) →
    let n = (start (goal.at.After-load c).At-loop-r).args.n in
    Padded 32767 n (c.load.new.p ++ drop n c.loop-r.p)
padded c =
    let s = start (goal.at.After-load c).At-loop-r in
    let l = c.loop-r in
    padded_row s.args.s.now s.args.n l.r l.p c.load.new.p 32767 l.invariant.1 s.requires.0.small c.load.ensures c.load.auto.p

pub fold_row-requires : goal.fold_row-requires
fold_row-requires c =
    let l = (goal.at.fold_row-requires c).At-loop-r in
    let s = start l in (
      padded (goal.at.fold_row-requires c).After-load,
      s.requires.1,
      s.requires.2,
      simp (length-take, length-drop) (omega (arith, row (goal.at.fold_row-requires c).In-loop-r, l.loop-r.invariant.2.long)),
    )

pub loop-r-preserved : goal.loop-r-preserved
loop-r-preserved c =
    let i = (goal.at.loop-r-preserved c).In-loop-r in
    let l = i.loop-r in
    let s = start (goal.at.loop-r-preserved c).At-loop-r in
    let a = s.args in
    let k = c.load in (
      omega arith,
      padded (goal.at.loop-r-preserved c).After-load,
      table-part-of (pos 0) a.m a.t (folded s) l.out l.r _ _ i.loop-r-test.true c.fold_row.ensures
          (λ j h. row-times a.s.now a.n l.r l.p k.new.p 32767 l.invariant.1 s.requires.0.small k.ensures j a.q.now)
          l.invariant.2,
    )

pub returns : goal.returns
returns c =
    let l = c.loop-r in
    let s = start (goal.at.returns c).At-loop-r in
    table-all (pos 0) s.args.m s.args.t (folded s) l.out l.r (omega arith) l.invariant.2
