-- `equations::recomposition::weighted_block` meets its contract: `sum` holds the bits of the first q rows' terms.
use mathlib.Core.Path.{◌≡◌, refl, sym, ◌∙◌, ap}
use Prim.Native.Nat.{ℕ, ◌^◌, ◌<◌}
use native.Mathlib.Omega.{arith}
use lib.IntN.{ℤ, pos, nat_abs, ◌+ℤ◌, ◌*ℤ◌}
use lib.ListN.{get_or}
use mir.Syntax.{w64}
use mir.Val.{to_z}
use mir.ValLaws.{to_z-of_z}
use Rattle.integers.specs.Sums as Sums
use Rattle.integers.proofs.Sums.{sum-none_yet}
use Rattle.matrices.specs.Elements.{exactly}
use Rattle.matrices.proofs.Elements.{exactly-sums, sum-on}
use Rattle.matrices.proofs.Turns.{room, added, sum_room}
use Rattle.equations.specs.Blocks.{row_term}
use Rattle.equations.proofs.RowSums.{rows_fit}
use Rattle.equations.proofs.recomposition.weighted_block.Goals as goal
use Rattle.equations.proofs.recomposition.weighted_block.Goals.{Start}

-- the rows' terms, which fit
abbrev terms : Start → ℕ → ℤ
terms s = row_term s.args.x.now s.args.powers.now s.args.k s.args.i s.args.j

fits : (s : Start) → Sums.sum_ℕ s.args.k (λ q. nat_abs (terms s q)) < 2 ^ 63
fits s = rows_fit s.requires.2 s.args.i s.args.j

pub loop-q-init : goal.loop-q-init
loop-q-init c = (omega arith, sym (sum-none_yet _))

pub add_product-sum-requires : goal.add_product-sum-requires
add_product-sum-requires c =
    let s = (goal.at.add_product-sum-requires c).Start in
    let a = c.args in
    let q = c.loop-q.q in
    let h = c.loop-q-test.true in
    room (Sums.sum q (terms s)) c.block_row-row.result (pos (get_or a.powers.now q 0)) c.loop-q.invariant.1
    (record { sfits = c.block_row-row.type_inv }) (record { sfits = c.requires.2.power-fits q h }) (rw c.block_row-row.ensures (sum_room a.k (2 ^ 63) (terms s) (fits s) q h))

pub loop-q-preserved : goal.loop-q-preserved
loop-q-preserved c =
    let s = (goal.at.loop-q-preserved c).Start in
    let a = c.args in
    let q = c.loop-q.q in
    let w = c.block_row-row in
    let sum = c.add_product-sum in (
      omega arith,
      to_z-of_z w64 sum.result (record { sfits = sum.type_inv })
          ∙ sum-on exactly exactly-sums q (terms s) c.loop-q.invariant.1
          (added (to_z w64 c.loop-q.sum-bits) w.result (pos (get_or a.powers.now q 0)) refl
          (record { sfits = w.type_inv }) (record { sfits = c.requires.2.power-fits q c.loop-q-test.true }) sum.ensures
          ∙ ap (λ (z : ℤ). to_z w64 c.loop-q.sum-bits +ℤ z *ℤ pos (get_or a.powers.now q 0)) w.ensures),
    )

pub returns : goal.returns
returns c =
    let e : c.loop-q.q ≡ c.args.k = omega arith in
    c.loop-q.invariant.1 ∙ ap (λ (n : ℕ). Sums.sum n (terms (goal.at.returns c).Start)) e
