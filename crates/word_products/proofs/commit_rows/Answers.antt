-- `word_products::commit_rows` meets its contract: the first i rows of `out` are written.
use mathlib.Core.Path.{◌≡◌, sym, ◌∙◌, ap}
use mathlib.Core.List.{List}
use Prim.Native.Nat.{ℕ, ◌*◌, ◌+◌, ◌-◌, ◌≤◌}
use native.Mathlib.Omega.{arith}
use native.Mathlib.Nat.{zero-mul}
use lib.ListN.{length, take, drop}
use Rattle.integers.specs.Lists.{build}
use Rattle.integers.specs.Residues.{word}
use Rattle.matrices.specs.Matrices.{product}
use Rattle.matrices.specs.Tables.{unsigned, signed}
use Rattle.matrices.proofs.Tables.{row_within, row-long, table_none, table-part, table-all}
use Rattle.word_rows.specs.Rows.{row_times}
use Rattle.word_rows.proofs.Rows.{times-row}
use Rattle.word_products.proofs.commit_rows.Goals as goal
use Rattle.word_products.proofs.commit_rows.Goals.{At-loop-i, In-loop-i, Start}

-- what `out` holds at the end
abbrev made : Start → ℕ → ℕ → ℕ
made c i j = word (product c.args.m (unsigned c.args.m c.args.a.now) (signed c.args.cols c.args.s.now) i j)

-- the function's entry, seen from the loop
abbrev entry : At-loop-i → Start
entry c = (goal.at.At-loop-i c).Start

-- the rows that a turn lends lie within a and within `out`
within : (c : In-loop-i) →
    let a = (entry (goal.at.In-loop-i c).At-loop-i).args in
    let l = c.loop-i in
    (l.i * a.m + a.m ≤ length a.a.now) × (l.i * a.cols + a.cols ≤ length a.out.now) × (length l.out ≡ length a.out.now)
within c =
    let s = entry (goal.at.In-loop-i c).At-loop-i in
    let a = s.args in
    let l = c.loop-i in (
      omega (arith, row_within a.n a.m l.i c.loop-i-test.true, s.requires.0),
      omega (arith, row_within a.n a.cols l.i c.loop-i-test.true, s.requires.2),
      l.invariant.long ∙ sym s.requires.2,
    )

-- the row of a that a turn lends: its length, and itself times s
abbrev words : In-loop-i → List ℕ
words c =
    let a = (entry (goal.at.In-loop-i c).At-loop-i).args in
    let from = c.loop-i.i * a.m in
    take (from + a.m - from) (drop from a.a.now)

words_long : (c : In-loop-i) → length (words c) ≡ (entry (goal.at.In-loop-i c).At-loop-i).args.m
words_long c =
    let s = entry (goal.at.In-loop-i c).At-loop-i in
    row-long s.args.n s.args.m c.loop-i.i s.args.a.now s.requires.0 c.loop-i-test.true

words-times : (c : In-loop-i) →
    let s = entry (goal.at.In-loop-i c).At-loop-i in
    let S = signed s.args.cols s.args.s.now in
    build s.args.cols (λ j. word (row_times (length (words c)) (words c) S j)) ≡ build s.args.cols (made s c.loop-i.i)
words-times c =
    let a = (entry (goal.at.In-loop-i c).At-loop-i).args in
    let S = signed a.cols a.s.now in
    ap (λ (p : ℕ). build a.cols (λ j. word (row_times p (words c) S j))) (words_long c)
    ∙ times-row a.cols a.m c.loop-i.i a.a.now S

pub loop-i-init : goal.loop-i-init
loop-i-init c = let s = (goal.at.loop-i-init c).Start in table_none _ _ _ (made s) _ _ (zero-mul s.args.cols) s.requires.2

pub write_product-requires : goal.write_product-requires
write_product-requires c =
    let t = (goal.at.write_product-requires c).In-loop-i in
    let s = entry (goal.at.write_product-requires c).At-loop-i in
    let a = s.args in (
      s.requires.1 ∙ ap (λ (p : ℕ). p * a.cols) (sym (words_long t)),
      row-long a.n a.cols t.loop-i.i t.loop-i.out t.loop-i.invariant.long t.loop-i-test.true,
      omega (arith, words_long t, s.requires.3),
    )

pub loop-i-preserved : goal.loop-i-preserved
loop-i-preserved c =
    let t = (goal.at.loop-i-preserved c).In-loop-i in
    let l = (goal.at.loop-i-preserved c).At-loop-i in
    let a = (entry l).args in
    table-part 0 a.n a.cols (made (entry l)) l.loop-i.out l.loop-i.i _ t.loop-i-test.true
    (c.write_product.ensures ∙ words-times t) l.loop-i.invariant

pub returns : goal.returns
returns c = table-all _ _ _ (made (entry (goal.at.returns c).At-loop-i)) _ c.loop-i.i (omega arith) c.loop-i.invariant
