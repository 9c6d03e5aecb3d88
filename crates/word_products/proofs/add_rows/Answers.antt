-- `word_products::add_rows` meets its contract: the first k words of x times the first k rows of s are added to what `row`
-- held before the fours.
use mathlib.Core.Path.{◌≡◌, ◌∙◌, subst}
use Prim.Native.Nat.{ℕ, ◌*◌, ◌+◌, ◌≤◌}
use native.Mathlib.Omega.{arith}
use lib.IntN.{pos}
use lib.ListN.{length, length-take, length-drop}
use Rattle.matrices.specs.Tables.{signed}
use Rattle.matrices.proofs.Tables.{row_within}
use Rattle.matrices.specs.Elements.{modulo, Added}
use Rattle.matrices.proofs.Elements.{modulo-sums, added-both}
use Rattle.word_rows.specs.Rows.{row_times}
use Rattle.word_rows.proofs.Rows.{times-one}
use Rattle.word_products.proofs.add_rows.Goals as goal
use Rattle.word_products.proofs.add_rows.Goals.{At-loop-k, In-loop-k, Start}

pub add_fours-taken-requires : goal.add_fours-taken-requires
add_fours-taken-requires c = c.requires

pub loop-k-init : goal.loop-k-init
loop-k-init c =
    let f = c.add_fours-taken.ensures in
    (f.1.long ∙ c.requires.1, λ first w. w)

-- the function's entry, seen from the loop
abbrev entry : At-loop-k → Start
entry c = (goal.at.At-loop-k c).Start

-- the row of s that a turn reads lies within it
within : (c : In-loop-k) →
    let a = (entry (goal.at.In-loop-k c).At-loop-k).args in
    c.loop-k.k * a.cols + a.cols ≤ length a.x.now * a.cols
within c = row_within _ _ _ c.loop-k-test.true

pub add_row-requires : goal.add_row-requires
add_row-requires c =
    let l = (goal.at.add_row-requires c).In-loop-k in
    let h = (entry (goal.at.add_row-requires c).At-loop-k).requires in
    simp (length-take, length-drop) (omega (arith, within l, l.loop-k.invariant.0, h.0))

pub loop-k-preserved : goal.loop-k-preserved
loop-k-preserved c =
    let l = (goal.at.loop-k-preserved c).At-loop-k in
    let a = (entry l).args in
    let added = c.add_row.ensures in (
      added.long ∙ l.loop-k.invariant.0,
      λ first w.
          let before = l.loop-k.invariant.1 first w in
          added-both modulo modulo-sums _ _ _ _ _ _ _ _ _ before.long before added
          (λ j h. times-one (λ z. z) (pos 0) a.cols a.x.now a.s.now l.loop-k.k j (omega (arith, before.long, l.loop-k.invariant.0))),
    )

pub returns : goal.returns
returns c =
    let a = (entry (goal.at.returns c).At-loop-k).args in
    let added = c.loop-k.invariant.1 a.row.now c.add_fours-taken.ensures.1 in
    let e : c.loop-k.k ≡ length a.x.now = omega arith in
    subst (λ (n : ℕ). Added modulo (row_times n a.x.now (signed a.cols a.s.now)) 0 (length a.row.now) a.row.now c.loop-k.row) e added
