-- `word_products::commit_narrow` meets its contract: the first e entries of `out` are those of the product.
use mathlib.Core.Path.{◌≡◌, refl, sym, ◌∙◌, subst, ap}
use mathlib.Core.List.{List}
use lib.ListN.{length, take, drop}
use Prim.Native.Nat.{ℕ, zero, suc, ◌+◌, ◌-◌, ◌*◌, ◌/◌, ◌%◌, ◌<◌, ◌≤◌}
use native.Mathlib.Omega.{arith}
use native.Mathlib.Nat.{div-lt_iff_lt-mul, mod-lt, mul-zero}
use Rattle.integers.specs.Residues.{word}
use Rattle.integers.proofs.Lists.{filled_more}
use Rattle.matrices.specs.Matrices.{product}
use Rattle.matrices.specs.Tables.{unsigned, signed}
use Rattle.matrices.proofs.Tables.{row_within, row-long, TableTo, table_none, table-all}
use Rattle.word_rows.specs.Rows.{row_times}
use Rattle.word_rows.proofs.Rows.{times-entry}
use Rattle.word_products.proofs.commit_narrow.Goals as goal
use Rattle.word_products.proofs.commit_narrow.Goals.{At-loop-e, In-loop-e, Start}

-- what `out` is to hold
abbrev summed : Start → ℕ → ℕ → ℕ
summed c i j = word (product c.args.m (unsigned c.args.m c.args.a.now) (signed c.args.cols c.args.s.now) i j)

pub loop-e-init : goal.loop-e-init
loop-e-init c = let s = (goal.at.loop-e-init c).Start in table_none 0 _ _ (summed s) _ 0 refl s.requires.2

-- the function's entry, seen from the loop
abbrev start : At-loop-e → Start
start c = (goal.at.At-loop-e c).Start

-- entry number e of a matrix stands in one of its rows and in one of its columns
place : (rows cols e : ℕ) → e < rows * cols → (e / cols < rows) × (e % cols < cols)
place rows zero e h = absurd (omega (arith, mul-zero rows))
place rows (suc c) e h = ((div-lt_iff_lt-mul {k = suc c} {x = e} {y = rows} (omega arith)).1 h, mod-lt e (omega arith))

-- the number of a turn's entry is one of them
below : (c : In-loop-e) → let a = (start (goal.at.In-loop-e c).At-loop-e).args in c.loop-e.e < a.n * a.cols
below c = omega (arith, c.loop-e-test.true, c.requires.2)

-- so it does in a turn, and the row of a that the turn lends lies within a
within : (c : In-loop-e) →
    let a = (start (goal.at.In-loop-e c).At-loop-e).args in
    let e = c.loop-e.e in
    (e / a.cols < a.n) × (e % a.cols < a.cols) × (e / a.cols * a.m + a.m ≤ a.n * a.m)
within c =
    let a = (start (goal.at.In-loop-e c).At-loop-e).args in
    let p = place a.n a.cols c.loop-e.e (below c) in
    (p.0, p.1, row_within a.n a.m (c.loop-e.e / a.cols) p.0)

-- the row of a that a turn lends
abbrev words : In-loop-e → List ℕ
words c =
    let a = (start (goal.at.In-loop-e c).At-loop-e).args in
    let from = c.loop-e.e / a.cols * a.m in
    take (from + a.m - from) (drop from a.a.now)

words_long : (c : In-loop-e) → length (words c) ≡ (start (goal.at.In-loop-e c).At-loop-e).args.m
words_long c =
    let s = start (goal.at.In-loop-e c).At-loop-e in
    row-long s.args.n s.args.m _ s.args.a.now s.requires.0 (within c).0

pub slice_bounds-times_column-end : goal.slice_bounds-times_column-end
slice_bounds-times_column-end c = omega (arith, within (goal.at.slice_bounds-times_column-end c).In-loop-e, (start (goal.at.slice_bounds-times_column-end c).At-loop-e).requires.0)

pub times_column-requires : goal.times_column-requires
times_column-requires c =
    let s = start (goal.at.times_column-requires c).At-loop-e in
    let w = within (goal.at.times_column-requires c).In-loop-e in
    (s.requires.1 ∙ ap (λ (p : ℕ). p * s.args.cols) (sym (words_long (goal.at.times_column-requires c).In-loop-e)), w.1)

pub loop-e-preserved : goal.loop-e-preserved
loop-e-preserved c =
    let t = (goal.at.loop-e-preserved c).In-loop-e in
    let l = (goal.at.loop-e-preserved c).At-loop-e in
    let a = (start l).args in
    let e = l.loop-e.e in
    filled_more (a.n * a.cols) (λ x. summed (start l) (x / a.cols) (x % a.cols)) 0 e l.loop-e.out _ (below t)
    (c.times_column.ensures
    ∙ ap (λ (p : ℕ). word (row_times p (words t) (signed a.cols a.s.now) (e % a.cols))) (words_long t)
    ∙ times-entry a.m (e / a.cols) (e % a.cols) a.a.now (signed a.cols a.s.now)) l.loop-e.invariant

pub shape_of-out : goal.shape_of-out
shape_of-out c = c.loop-e.invariant.long ∙ sym (start (goal.at.shape_of-out c).At-loop-e).requires.2

pub returns : goal.returns
returns c =
    let l = (goal.at.returns c).At-loop-e in
    let a = (start l).args in
    let e : l.loop-e.e ≡ a.n * a.cols = omega (arith, l.loop-e.invariant.within) in
    table-all 0 _ _ (summed (start l)) _ a.n (omega arith) (subst (TableTo 0 a.n a.cols (summed (start l)) l.loop-e.out) e l.loop-e.invariant)
