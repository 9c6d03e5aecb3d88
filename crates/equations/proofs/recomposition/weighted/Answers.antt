-- `equations::recomposition::weighted` meets its contract: `sum` holds the bits of the first q terms.
use mathlib.Core.Path.{◌≡◌, refl, sym, ◌∙◌, ap}
use Prim.Native.Nat.{ℕ, ◌+◌, ◌^◌}
use native.Mathlib.Omega.{arith}
use lib.IntN.{ℤ, pos}
use lib.ListN.{get_or}
use mir.Syntax.{w64}
use mir.Val.{to_z}
use mir.ValLaws.{to_z-of_z}
use Rattle.integers.specs.Sums as Sums
use Rattle.integers.proofs.Sums.{sum-none_yet}
use Rattle.matrices.specs.Elements.{exactly}
use Rattle.matrices.proofs.Elements.{exactly-sums, sum-on}
use Rattle.matrices.proofs.Turns.{room, added, sum_room}
use Rattle.equations.proofs.recomposition.weighted.Invariants.{term}
use Rattle.equations.proofs.recomposition.weighted.Goals as goal
use Rattle.equations.proofs.recomposition.weighted.Goals.{Start}

-- the function's terms
abbrev terms : Start → ℕ → ℤ
terms s = term s.args.x.now s.args.start s.args.powers.now

pub loop-q-init : goal.loop-q-init
loop-q-init c = (omega arith, sym (sum-none_yet _))

pub add_product-sum-requires : goal.add_product-sum-requires
add_product-sum-requires c =
    let s = (goal.at.add_product-sum-requires c).Start in
    let a = c.args in
    let q = c.loop-q.q in
    let h = c.loop-q-test.true in
    room (Sums.sum q (terms s)) (get_or a.x.now (a.start + q) (pos 0)) (pos (get_or a.powers.now q 0)) c.loop-q.invariant.1
    (record { sfits = omega arith }) (record { sfits = c.requires.k_in_bounds.2 q h }) (sum_room a.k (2 ^ 63) (terms s) c.requires.q_bound q h)

pub loop-q-preserved : goal.loop-q-preserved
loop-q-preserved c =
    let s = (goal.at.loop-q-preserved c).Start in
    let a = c.args in
    let q = c.loop-q.q in
    let sum = c.add_product-sum in (
      omega arith,
      to_z-of_z w64 sum.result (record { sfits = sum.type_inv })
          ∙ sum-on exactly exactly-sums q (terms s) c.loop-q.invariant.1
          (added (to_z w64 c.loop-q.sum-bits) (get_or a.x.now (a.start + q) (pos 0)) (pos (get_or a.powers.now q 0)) refl
          (record { sfits = omega arith }) (record { sfits = c.requires.k_in_bounds.2 q c.loop-q-test.true }) sum.ensures),
    )

pub returns : goal.returns
returns c =
    let e : c.loop-q.q ≡ c.args.k = omega arith in
    c.loop-q.invariant.1 ∙ ap (λ (n : ℕ). Sums.sum n (terms (goal.at.returns c).Start)) e
