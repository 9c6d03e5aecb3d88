-- `fold_gram::fold_rows` meets its contract: the first i rows are written, and settled in the first i columns.
use mathlib.Core.Path.{◌≡◌, sym, ◌∙◌}
use mathlib.Core.List.{List, ◌++◌}
use Prim.Native.Nat.{ℕ, ◌+◌, ◌-◌, ◌*◌, ◌≤◌}
use native.Mathlib.Omega.{arith}
use native.Mathlib.Nat.{zero-mul, add-mul, one-mul}
use lib.IntN.{ℤ, pos}
use lib.ListN.{length, take, drop, length-take, length-drop}
use lib.Seq.{length-take-le}
use Rattle.matrices.proofs.Tables.{row_within, TableTo, table_none, table-part-of, table-all, table_cong}
use Rattle.small_rows.specs.Columns.{by_columns}
use Rattle.fold_gram.proofs.Folds.{Row, row_of}
use Rattle.fold_gram.proofs.Halves.{folded_by, doubled_by, corner_in, corner_out}
use Rattle.fold_gram.proofs.Settling.{made, front-size, front-next}
use Rattle.fold_gram.proofs.fold_rows.Goals as goal
use Rattle.fold_gram.proofs.fold_rows.Goals.{After-fold_row, After-left_row, In-loop-i}

pub loop-i-init : goal.loop-i-init
loop-i-init c =
    let a = c.args in
    (omega arith, c.requires.5, table_none (pos 0) a.t a.t (made a.n (by_columns a.q.now) a.d.now 0) a.out.now (0 * a.t) (zero-mul a.t) c.requires.6)

pub left_row-requires : goal.left_row-requires
left_row-requires c =
    let h = c.requires in
    (h.0, h.1, h.3, h.2, omega (arith, c.loop-i-test.true, h.4), c.loop-i.invariant.1)

-- the turn in which e was summed, and e as row i
abbrev turn : After-left_row → In-loop-i
turn c = (goal.at.After-left_row c).In-loop-i

summed : (c : After-left_row) →
    let a = (turn c).args in
    Row a.d.now a.q.now a.n (turn c).loop-i.i c.left_row.new.e
summed c =
    let s = turn c in
    row_of s.args.d.now s.args.q.now s.args.n (turn c).loop-i.i s.requires.2 s.requires.1 s.requires.3 _ c.left_row.ensures

-- row i of out, and where it ends
abbrev end : In-loop-i → ℕ
end c = c.loop-i.i * c.args.t + c.args.t

row : (c : In-loop-i) → let t = c.args.t in end c ≤ t * t
row c = row_within c.args.t c.args.t c.loop-i.i c.loop-i-test.true

next : (c : In-loop-i) → end c ≡ (c.loop-i.i + 1) * c.args.t
next c = omega (arith, add-mul c.loop-i.i 1 c.args.t, one-mul c.args.t)

pub fold_row-requires : goal.fold_row-requires
fold_row-requires c =
    let e = (goal.at.fold_row-requires c).After-left_row in
    let t = turn e in
    let h = t.requires in
    let r = summed e in
    (omega (arith, r.long, h.2), r.small, h.3, h.4, simp (length-take, length-drop) (omega (arith, row t, t.loop-i.invariant.2.long)))

-- out with row i written: its first i + 1 rows
abbrev before : After-fold_row → After-left_row
before c = (goal.at.After-fold_row c).After-left_row

abbrev rows : After-fold_row → List ℤ
rows c =
    let t = turn (before c) in
    let l = t.loop-i in
    let from = l.i * t.args.t in
    take from l.out ++ (c.fold_row.new.out ++ drop (end t - from) (drop from l.out))

written : (c : After-fold_row) →
    let t = turn (before c) in
    let a = t.args in
    let i = t.loop-i.i in
    TableTo (pos 0) a.t a.t (made a.n (by_columns a.q.now) a.d.now i) (rows c) ((i + 1) * a.t)
written c =
    let t = turn (before c) in
    let l = t.loop-i in
    let a = t.args in
    let «C» = by_columns a.q.now in
    table-part-of (pos 0) a.t a.t (made a.n «C» a.d.now l.i) l.out l.i _ _ t.loop-i-test.true c.fold_row.ensures
    (λ j h. (summed (before c)).times j ∙ sym (corner_out l.i (folded_by a.n «C» a.d.now) (doubled_by a.n «C» a.d.now) l.i j (λ x y. omega arith))) l.invariant.2

-- the first i + 1 rows, when they are lent
ends : (c : After-fold_row) → end (turn (before c)) ≤ length (rows c)
ends c = let w = written c in omega (arith, next (turn (before c)), w.within, w.long)

kept : (c : After-fold_row) → end (turn (before c)) ≡ length (take (end (turn (before c))) (rows c))
kept c = sym (length-take-le (end (turn (before c))) (rows c) (ends c))

pub settle-requires : goal.settle-requires
settle-requires c =
    let f = (goal.at.settle-requires c).After-fold_row in
    let t = turn (before f) in
    let s = t in
    let a = s.args in (
      t.loop-i-test.true,
      sym (kept f) ∙ next t,
      front-size a.n (by_columns a.q.now) a.d.now a.t t.loop-i.i (end t) t.loop-i-test.true (next t) (rows f) (written f) s.requires.2 s.requires.1 (λ k j. s.requires.3 (j * 512 + k)),
    )

pub loop-i-preserved : goal.loop-i-preserved
loop-i-preserved c =
    let f = (goal.at.loop-i-preserved c).After-fold_row in
    let t = turn (before f) in
    let a = t.args in (
      omega (arith, t.loop-i-test.true),
      (summed (before f)).long,
      front-next a.n (by_columns a.q.now) a.d.now a.t t.loop-i.i (end t) t.loop-i-test.true (next t) (rows f) (written f) _ c.settle.ensures,
    )

pub returns : goal.returns
returns c =
    let l = c.loop-i in
    let a = c.args in
    let «C» = by_columns a.q.now in
    table-all (pos 0) a.t a.t (made a.n «C» a.d.now l.i) l.out l.i (omega arith) l.invariant.2
    ∙ table_cong (pos 0) a.t a.t _ _ (λ r j hr hj. corner_in l.i (folded_by a.n «C» a.d.now) (doubled_by a.n «C» a.d.now) r j (omega arith) (omega arith))
