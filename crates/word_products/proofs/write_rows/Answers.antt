-- `word_products::write_rows` meets its contract: what is written and what is added to it make the row.
use mathlib.Core.Path.{◌≡◌, sym, ◌∙◌, ap}
use Prim.Native.Nat.{ℕ, ◌≤◌}
use lib.IntN.{pos, ◌*ℤ◌}
use lib.ListN.{length, get_or, take}
use lib.Seq.{length-take-le}
use Rattle.integers.specs.Lists.{build}
use Rattle.integers.specs.Residues.{word}
use Rattle.integers.proofs.Lists.{length-build}
use Rattle.word_products.proofs.Blocks.{first-within, others_fit, first-row}
use Rattle.word_products.proofs.write_rows.Goals as goal
use Rattle.word_products.proofs.write_rows.Goals.{After-write_row, Start}

-- the first row of s lies within it
within : (c : Start) → c.args.cols ≤ length c.args.s.now
within c = first-within c.args.cols c.args.x.now c.args.s.now c.requires.0 c.requires.2

first-long : (c : Start) → length (take c.args.cols c.args.s.now) ≡ c.args.cols
first-long c = length-take-le c.args.cols c.args.s.now (within c)

-- what is written into word j, and the row once all are written
abbrev first : Start → ℕ → ℕ
first c j = word (pos (get_or c.args.x.now 0 0) *ℤ get_or (take c.args.cols c.args.s.now) j (pos 0))

written : (c : After-write_row) → c.write_row.new.row ≡ build c.args.cols (first (goal.at.After-write_row c).Start)
written c = c.write_row.ensures ∙ ap (λ (n : ℕ). build n (first (goal.at.After-write_row c).Start)) c.requires.1

pub slice_bounds-write_row-end : goal.slice_bounds-write_row-end
slice_bounds-write_row-end c = sym (first-long (goal.at.slice_bounds-write_row-end c).Start)

pub write_row-requires : goal.write_row-requires
write_row-requires c = first-long (goal.at.write_row-requires c).Start ∙ sym c.requires.1

pub slice_bounds-add_rows-count-2 : goal.slice_bounds-add_rows-count-2
slice_bounds-add_rows-count-2 c = within (goal.at.slice_bounds-add_rows-count-2 c).Start

pub add_rows-requires : goal.add_rows-requires
add_rows-requires c =
    (others_fit c.args.cols c.args.x.now c.args.s.now c.requires.0 c.requires.2, ap length (written (goal.at.add_rows-requires c).After-write_row) ∙ length-build _ _)

pub returns : goal.returns
returns c =
    first-row c.args.cols c.args.x.now c.args.s.now c.requires.0 c.requires.2 _ _ (written (goal.at.returns c).After-write_row) c.add_rows.ensures
