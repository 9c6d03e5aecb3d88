-- `challenges::fold_entry` meets its contract: a holds the bits of the first k terms.
use mathlib.Core.Path.{◌≡◌, sym, ap, ap₂, ◌∙◌}
use Prim.Native.Nat.{◌+◌, ◌*◌}
use native.Mathlib.Omega.{arith}
use native.Mathlib.Nat.{mul-le-mul}
use lib.IntN.{ℤ, pos, ◌+ℤ◌, ◌*ℤ◌}
use lib.ListN.{length, get_or}
use mir.Syntax.{w16, w64}
use mir.Val.{to_z, of_z}
use mir.ValLaws.{to_z-of_z}
use Rattle.integers.proofs.Sizes.{nat_abs-*}
use Rattle.integers.proofs.Sums.{sum-none_yet}
use Rattle.integers.proofs.Words.{Held, read_back}
use Rattle.matrices.specs.Elements.{exactly}
use Rattle.matrices.proofs.Elements.{exactly-sums, sum-on}
use Rattle.small_rows.specs.Columns.{by_columns}
use Rattle.small_rows.proofs.Small.{widened}
use Rattle.challenges.proofs.Terms.{terms, terms-size}
use Rattle.challenges.proofs.fold_entry.Goals as goal
use Rattle.challenges.proofs.fold_entry.Goals.{After-v-1, At-loop-k, Start}

pub loop-k-init : goal.loop-k-init
loop-k-init c = (omega arith, sym (sum-none_yet _))

-- the two numbers that a turn multiplies
number : (c : At-loop-k) →
    let x = get_or c.args.e.now c.loop-k.k (pos 0) in
    to_z w64 (of_z w64 x) ≡ x
number c = read_back w64 (get_or c.args.e.now c.loop-k.k (pos 0)) (omega (arith, c.requires.1 c.loop-k.k))

factor : (c : After-v-1) →
    let z = by_columns c.args.q.now c.loop-k.k c.args.j in
    Held w64 (to_z w16 (of_z w16 z)) z
factor c =
    widened (by_columns c.args.q.now c.loop-k.k c.args.j) (record { sfits = c.v-1.given })

pub add_product-a-requires : goal.add_product-a-requires
add_product-a-requires c =
    let a = c.args in
    let k = c.loop-k.k in
    let x = get_or a.e.now k (pos 0) in
    let y = by_columns a.q.now k a.j in
    rw (c.loop-k.invariant.1, number c.before.before.before, (factor c.before).read, nat_abs-* x y)
    (omega (arith, terms-size a.e.now a.q.now a.j c.requires.0 c.requires.1 c.requires.2 k (omega arith), mul-le-mul (c.requires.1 k) (c.requires.2 (a.j * 512 + k))))

pub loop-k-preserved : goal.loop-k-preserved
loop-k-preserved c =
    let a = c.args in
    let k = c.loop-k.k in (
      omega arith,
      to_z-of_z w64 c.add_product-a.result (record { sfits = c.add_product-a.type_inv })
          ∙ sum-on exactly exactly-sums k (λ k. get_or a.e.now k (pos 0) *ℤ by_columns a.q.now k a.j) c.loop-k.invariant.1
          (c.add_product-a.ensures ∙ ap (λ (z : ℤ). to_z w64 c.loop-k.a-bits +ℤ z) (ap₂ ◌*ℤ◌ (number c.before.before.before.before) (factor c.before.before).read)),
    )

pub returns : goal.returns
returns c =
    let a = c.args in
    let e : c.loop-k.k ≡ length a.e.now = omega arith in
    c.loop-k.invariant.1 ∙ ap (terms a.e.now a.q.now a.j) e
