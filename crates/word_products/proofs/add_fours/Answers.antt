-- `word_products::add_fours` meets its contract: the first k words of x times the first k rows of s are added.
use mathlib.Core.Path.{◌≡◌, refl, ◌∙◌}
use Prim.Native.Nat.{ℕ, ◌*◌, ◌/◌, ◌+◌, ◌≤◌}
use native.Mathlib.Omega.{arith}
use lib.IntN.{pos}
use lib.ListN.{length, get_or, length-take, length-drop}
use Rattle.integers.proofs.Sums.{sum-none_yet}
use Rattle.matrices.specs.Tables.{signed}
use Rattle.matrices.proofs.Tables.{rows-within}
use Rattle.matrices.specs.Elements.{modulo}
use Rattle.matrices.proofs.Elements.{modulo-sums, added-nothing, added-both}
use Rattle.word_rows.specs.Rows.{row_times}
use Rattle.word_rows.proofs.Rows.{nothing-on, times_more}
use Rattle.word_products.proofs.add_fours.Goals as goal
use Rattle.word_products.proofs.add_fours.Goals.{In-loop-four}

pub loop-four-init : goal.loop-four-init
loop-four-init c =
    let a = c.args in
    added-nothing modulo (row_times 0 a.x.now (signed a.cols a.s.now)) 0 (length a.row.now) a.row.now (omega arith)
    (λ j l. nothing-on (get_or a.row.now j 0) _ (c.type_inv.row j).fits (sum-none_yet _))

-- the four words of x and rows of s that a turn reads, from number k on, lie within them
module _ (c : In-loop-four) where
  abbrev k : ℕ
  k = 4 * c.loop-four.four

  four : k + 4 ≤ length c.args.x.now
  four = omega (arith, c.loop-four-test.true)

  within : k * c.args.cols + 4 * c.args.cols ≤ length c.args.x.now * c.args.cols
  within = rows-within (length c.args.x.now) c.args.cols k 4 four

pub slice_bounds-add_four_rows-end-in-loop-four : goal.slice_bounds-add_four_rows-end-in-loop-four
slice_bounds-add_four_rows-end-in-loop-four c = omega (arith, within (goal.at.slice_bounds-add_four_rows-end-in-loop-four c).In-loop-four)

pub add_four_rows-requires : goal.add_four_rows-requires
add_four_rows-requires c =
    let t = (goal.at.add_four_rows-requires c).In-loop-four in (
      simp (length-take, length-drop) (omega (arith, four t)),
      simp (length-take, length-drop) (omega (arith, within t, c.requires.0)),
      c.loop-four.invariant.long ∙ c.requires.1,
    )

pub loop-four-preserved : goal.loop-four-preserved
loop-four-preserved c =
    let t = (goal.at.loop-four-preserved c).In-loop-four in
    let a = c.args in
    let next : 4 * (c.loop-four.four + 1) ≡ k t + 4 = omega arith in
    rw next (added-both modulo modulo-sums _ _ _ _ _ _ _ _ _ c.loop-four.invariant.long c.loop-four.invariant c.add_four_rows.ensures
    (λ j h. times_more (λ z. z) (pos 0) a.cols a.x.now a.s.now (k t) j (omega (arith, c.requires.1)) 4 (k t * a.cols) refl))

pub returns : goal.returns
returns c =
    let all : c.loop-four.four ≡ length c.args.x.now / 4 = omega arith in
    (omega arith, rw (← all) c.loop-four.invariant)
