-- `small_fold::plain_fold` meets its contract: the first i rows of `out` are those of s times q.
use mathlib.Core.Path.{ap}
use Prim.Native.Nat.{ℕ, ◌*◌, ◌+◌, ◌-◌, ◌≤◌}
use native.Mathlib.Omega.{arith}
use native.Mathlib.Nat.{zero-mul}
use lib.IntN.{ℤ, pos, ◌*ℤ◌}
use lib.ListN.{take, drop, length-take, length-drop}
use Rattle.integers.proofs.Sums.{sum_cong}
use Rattle.matrices.specs.Matrices.{product}
use Rattle.matrices.specs.Tables.{signed}
use Rattle.matrices.proofs.Tables.{row_within, row-long, row_at, table_none, table-part-of, table-all}
use Rattle.small_rows.specs.Columns.{by_columns}
use Rattle.small_rows.proofs.Small.{within-part}
use Rattle.challenges.specs.Rows.{row_times}
use Rattle.small_fold.proofs.plain_fold.Goals as goal
use Rattle.small_fold.proofs.plain_fold.Goals.{At-loop-i, In-loop-i, Start}

-- the function's entry, seen from the loop
abbrev start : At-loop-i → Start
start c = (goal.at.At-loop-i c).Start

-- what `out` is to hold
abbrev folded : Start → ℕ → ℕ → ℤ
folded c = product c.args.n (signed c.args.n c.args.s.now) (by_columns c.args.q.now)

pub loop-i-init : goal.loop-i-init
loop-i-init c =
    table_none _ _ _ (folded c) _ _ (zero-mul c.args.t) c.requires.3

-- the rows that a turn lends lie within s and within `out`
within : (c : In-loop-i) →
    let a = (start (goal.at.In-loop-i c).At-loop-i).args in
    let i = c.loop-i.i in
    (i * a.n + a.n ≤ a.m * a.n) × (i * a.t + a.t ≤ a.m * a.t)
within c = (row_within _ _ _ c.loop-i-test.true, row_within _ _ _ c.loop-i-test.true)

pub fold_row-requires : goal.fold_row-requires
fold_row-requires c =
    let l = (goal.at.fold_row-requires c).In-loop-i in
    let s = start (goal.at.fold_row-requires c).At-loop-i in
    let a = s.args in
    let i = l.loop-i.i in (
      rw (row-long a.m a.n i a.s.now s.requires.0.long l.loop-i-test.true) s.requires.0.few,
      (λ k. omega (arith, within-part 32767 (i * a.n) (i * a.n + a.n - i * a.n) a.s.now s.requires.0.small k)),
      s.requires.1,
      s.requires.2,
      simp (length-take, length-drop) (omega (arith, within l, l.loop-i.invariant.long)),
    )

pub loop-i-preserved : goal.loop-i-preserved
loop-i-preserved c =
    let l = (goal.at.loop-i-preserved c).At-loop-i in
    let s = start l in
    let a = s.args in
    let i = l.loop-i.i in
    let taken = c.loop-i-test.true in
    let row = take (i * a.n + a.n - i * a.n) (drop (i * a.n) a.s.now) in
    table-part-of (pos 0) a.m a.t (folded s) l.loop-i.out i _ (row_times row (by_columns a.q.now)) taken c.fold_row.ensures
    (λ j h. rw (row-long a.m a.n i a.s.now s.requires.0.long taken)
    (sum_cong a.n _ _ (λ k l. ap (λ (z : ℤ). z *ℤ by_columns a.q.now k j) (row_at (pos 0) a.n i a.s.now k l))))
    l.loop-i.invariant

pub returns : goal.returns
returns c = table-all _ _ _ (folded (start (goal.at.returns c).At-loop-i)) _ c.loop-i.i (omega arith) c.loop-i.invariant
