-- `word_products::add_block` meets its contract: the first i rows of `out` have the block added, and the others are as before.
use mathlib.Core.Path.{◌≡◌, sym, ◌∙◌, ap}
use Prim.Native.Nat.{ℕ, ◌*◌, ◌+◌, ◌≤◌}
use native.Mathlib.Omega.{arith}
use lib.ListN.{length, length-take, length-drop}
use Rattle.integers.specs.Residues.{word}
use Rattle.matrices.specs.Matrices.{product}
use Rattle.matrices.specs.Tables.{unsigned, signed}
use Rattle.matrices.proofs.Tables.{row_within, rows-within, length-table, table-all}
use Rattle.word_products.proofs.Blocks.{renewed_none, renewed_row, renewed_more, words_long, block_row}
use Rattle.word_products.proofs.add_block.Goals as goal
use Rattle.word_products.proofs.add_block.Goals.{At-loop-i, In-loop-i, Start}

-- what `out` holds once the first p columns of a and rows of s are taken
abbrev summed : Start → ℕ → ℕ → ℕ → ℕ
summed c p i j = word (product p (unsigned c.args.m c.args.a.now) (signed c.args.cols c.args.s.now) i j)

-- the block lies within s
block_within : (c : Start) → c.args.base * c.args.cols + c.args.len * c.args.cols ≤ length c.args.s.now
block_within c = omega (arith, rows-within c.args.m c.args.cols c.args.base c.args.len c.requires.a_len.2, c.requires.a_len.1)

pub loop-i-init : goal.loop-i-init
loop-i-init c =
    let s = (goal.at.loop-i-init c).Start in
    renewed_none 0 _ _ (summed s (s.args.base + s.args.len)) (summed s s.args.base) s.args.out.now s.requires.out_value

-- the function's entry, seen from the loop
abbrev entry : At-loop-i → Start
entry c = (goal.at.At-loop-i c).Start

-- `out` keeps its length
long : (c : At-loop-i) → length c.loop-i.out ≡ length (entry c).args.out.now
long c =
    let s = entry c in
    c.loop-i.invariant.new.long ∙ sym (ap length s.requires.out_value ∙ length-table s.args.n s.args.cols (summed s s.args.base))

-- the rows that a turn lends lie within a and within `out`
within : (c : In-loop-i) →
    let a = (entry (goal.at.In-loop-i c).At-loop-i).args in
    let i = c.loop-i.i in
    (i * a.m + a.m ≤ length a.a.now) × (i * a.cols + a.cols ≤ length a.out.now) × (length c.loop-i.out ≡ length a.out.now)
within c =
    let s = entry (goal.at.In-loop-i c).At-loop-i in
    let i = c.loop-i.i in (
      omega (arith, row_within s.args.n s.args.m i c.loop-i-test.true, s.requires.a_len.0),
      omega (arith, row_within s.args.n s.args.cols i c.loop-i-test.true, c.loop-i.invariant.new.long, long (goal.at.In-loop-i c).At-loop-i),
      long (goal.at.In-loop-i c).At-loop-i,
    )

pub slice_bounds-add_rows-end-in-loop-i : goal.slice_bounds-add_rows-end-in-loop-i
slice_bounds-add_rows-end-in-loop-i c = omega (arith, block_within (entry (goal.at.slice_bounds-add_rows-end-in-loop-i c).At-loop-i))

pub add_rows-requires : goal.add_rows-requires
add_rows-requires c =
    let l = (goal.at.add_rows-requires c).In-loop-i in
    let s = entry (goal.at.add_rows-requires c).At-loop-i in
    let a = s.args in
    let size = words_long a.n a.m a.cols a.base a.len l.loop-i.i a.a.now a.s.now s.requires.a_len.0 s.requires.a_len.2 l.loop-i-test.true in (
      simp (length-take, length-drop) (omega (arith, block_within s)) ∙ ap (λ (p : ℕ). p * a.cols) (sym size),
      simp (length-take, length-drop) (omega (arith, within l)),
    )

pub loop-i-preserved : goal.loop-i-preserved
loop-i-preserved c =
    let t = (goal.at.loop-i-preserved c).In-loop-i in
    let l = (goal.at.loop-i-preserved c).At-loop-i in
    let s = entry l in
    let a = s.args in
    let old = summed s a.base in
    let new = summed s (a.base + a.len) in
    renewed_more 0 _ _ new old a.out.now s.requires.out_value l.loop-i.out l.loop-i.i t.loop-i-test.true l.loop-i.invariant _
    (block_row a.n a.m a.cols a.base a.len l.loop-i.i a.a.now a.s.now s.requires.a_len.0 s.requires.a_len.2 t.loop-i-test.true _ _
    (renewed_row 0 _ _ new old a.out.now s.requires.out_value l.loop-i.out l.loop-i.i t.loop-i-test.true l.loop-i.invariant)
    c.add_rows.ensures)

pub returns : goal.returns
returns c =
    let s = entry (goal.at.returns c).At-loop-i in
    table-all _ _ _ (summed s (s.args.base + s.args.len)) _ c.loop-i.i (omega arith) c.loop-i.invariant.new
