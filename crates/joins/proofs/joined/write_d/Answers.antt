-- `joins::joined::write_d` meets its contract: the upper half is [d1 v], the lower [v-transposed d2].
use mathlib.Core.Path.{◌≡◌, sym, ◌∙◌, ap, ap₂}
use mathlib.Core.List.{List, ◌++◌}
use Prim.Native.Nat.{ℕ, ◌+◌, ◌*◌, ◌≤◌}
use native.Mathlib.Omega.{arith}
use native.Mathlib.Nat.{add-mul}
use lib.IntN.{ℤ, pos}
use lib.ListN.{length, take}
use lib.Seq.{length-take-le}
use Rattle.integers.proofs.Lists.{two-parts}
use Rattle.matrices.specs.Matrices.{Matrix, transposed}
use Rattle.matrices.specs.Tables.{table, signed}
use Rattle.matrices.proofs.Tables.{length-table}
use Rattle.lova.specs.Stored.{right_for}
use Rattle.lova.specs.Fold.{beside, blocks}
use Rattle.lova.proofs.Blocks.{above-upper, above_lower}
use Rattle.lova.proofs.Rebuilding.{rebuilt-accepted, rebuilt-is}
use Rattle.joins.specs.Columns.{spread, spread_both}
use Rattle.joins.proofs.Halves.{tables_above}
use Rattle.joins.proofs.joined.write_d.Goals as goal
use Rattle.joins.proofs.joined.write_d.Goals.{Start}

-- the two halves of `out`
halves : (cols : ℕ) → 2 * cols * (2 * cols) ≡ cols * (2 * cols) + cols * (2 * cols)
halves cols = let e : 2 * cols ≡ cols + cols = omega arith in ap (λ (n : ℕ). n * (2 * cols)) e ∙ add-mul cols cols (2 * cols)

upper_long : (cols : ℕ) (out : List ℤ) → length out ≡ 2 * cols * (2 * cols) → length (take (cols * (2 * cols)) out) ≡ cols * (2 * cols)
upper_long cols out e = length-take-le (cols * (2 * cols)) out (omega (arith, e, halves cols))

-- t is small
narrow : (c : Start) → c.args.accepted.now.setting.t ≤ 16
narrow c = (rebuilt-accepted c.args.accepted.now.setting (rebuilt-is c.args.accepted.now)).t-high

pub returns : goal.returns
unfolding beside
returns c =
    let a = c.args in
    let t = a.accepted.now.setting.t in
    let right = right_for t a.profile in
    let u = c.write_beside in
    let E : Matrix = spread a.profile (signed right a.v.now) in
    let F : Matrix = spread_both a.profile (signed right a.d2.now) in
    let X : Matrix = beside t (signed t a.d1.now) E in
    let Y : Matrix = beside t (transposed E) F in
    let Z : Matrix = blocks t (signed t a.d1.now) E F in
    let twice : 2 * t ≡ t + t = omega arith in
    two-parts (t * (2 * t)) a.out.now u.new.out c.write_lower.new.out (ap length (u.ensures (pos 0)) ∙ length-table t (2 * t) X)
    ∙ ap₂ ◌++◌ (u.ensures (pos 0)) c.write_lower.ensures
    ∙ tables_above (pos 0) t t (2 * t) X Y Z (λ i j h. above-upper t X Y i j h) (λ i j h. above_lower t X Y i j h)
    ∙ ap (λ (n : ℕ). table n (2 * t) Z) (sym twice)
