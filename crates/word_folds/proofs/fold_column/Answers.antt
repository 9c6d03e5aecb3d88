-- `word_folds::fold_column` meets its contract: `sum` is that of the products from number k on, modulo 2^64.
use mathlib.Core.Path.{◌≡◌, sym, ◌∙◌, ap}
use Prim.Native.Nat.{ℕ, ◌+◌, ◌-◌, ◌^◌}
use native.Mathlib.Omega.{arith}
use native.Mathlib.Nat.{zero-add}
use lib.IntN.{ℤ, pos, ◌+ℤ◌, ◌*ℤ◌}
use lib.ListN.{get_or}
use mir.Syntax.{w16, w64}
use mir.Val.{to_z, of_z}
use Rattle.integers.specs.Residues.{word}
use Rattle.integers.specs.Sums as Sums
use Rattle.integers.proofs.Sums.{sum-none_yet, sum_cong}
use Rattle.integers.proofs.Residues.{residue-small}
use Rattle.integers.proofs.Words.{Held}
use Rattle.matrices.specs.Elements.{modulo}
use Rattle.matrices.proofs.Elements.{modulo-sums, sum-down}
use Rattle.small_rows.specs.Columns.{by_columns}
use Rattle.small_rows.proofs.Small.{widened}
use Rattle.word_folds.proofs.fold_column.Invariants.{term}
use Rattle.word_folds.proofs.fold_column.Goals as goal
use Rattle.word_folds.proofs.fold_column.Goals.{After-y-1}

pub loop-k-init : goal.loop-k-init
loop-k-init c =
    let a = c.args in
    let e : a.cols - a.cols ≡ 0 = omega arith in (
      omega arith,
      sym (ap (λ (n : ℕ). word (Sums.sum n (λ r. term a.x.now a.q.now a.j (a.cols + r)))) e ∙ ap word (sum-none_yet _) ∙ residue-small (2 ^ 64) 0 (omega arith)),
    )

-- the factor that a turn reads
factor : (c : After-y-1) →
    let l = c in
    let a = l.args in
    let z = by_columns a.q.now (l.loop-k.k - 1) a.j in
    Held w64 (to_z w16 (of_z w16 z)) z
factor c =
    let l = c in
    let a = l.args in
    widened (by_columns a.q.now (l.loop-k.k - 1) a.j) (record { sfits = c.y-1.given })

pub loop-k-preserved : goal.loop-k-preserved
loop-k-preserved c =
    let l = c in
    let a = l.args in
    let k = l.loop-k.k in (
      omega arith,
      sum-down modulo modulo-sums a.cols k (term a.x.now a.q.now a.j) c.loop-k-test.true l.loop-k.invariant.0 l.loop-k.invariant.1
          (c.add_signed_product-sum.ensures ∙ ap (λ (z : ℤ). word (pos l.loop-k.sum +ℤ pos (get_or a.x.now (k - 1) 0) *ℤ z)) (factor (goal.at.loop-k-preserved c).After-y-1).read),
    )

pub returns : goal.returns
returns c =
    let a = c.args in
    let f = term a.x.now a.q.now a.j in
    let e : c.loop-k.k ≡ 0 = omega arith in
    let whole : a.cols - 0 ≡ a.cols = omega arith in
    c.loop-k.invariant.1 ∙ ap (λ (k : ℕ). word (Sums.sum (a.cols - k) (λ r. f (k + r)))) e
    ∙ ap (λ (n : ℕ). word (Sums.sum n (λ r. f (0 + r)))) whole ∙ ap word (sum_cong a.cols _ _ (λ r h. ap f (zero-add r)))
