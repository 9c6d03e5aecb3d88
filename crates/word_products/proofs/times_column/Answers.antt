-- `word_products::times_column` meets its contract: `sum` is that of the first k products, modulo 2^64.
use mathlib.Core.Path.{◌≡◌, sym, ◌∙◌, ap}
use Prim.Native.Nat.{ℕ, ◌+◌, ◌*◌, ◌^◌, ◌<◌, ◌≤◌}
use native.Mathlib.Omega.{arith}
use native.Mathlib.Nat.{zero-mul, add-mul, one-mul}
use lib.IntN.{ℤ, pos, ◌+ℤ◌, ◌*ℤ◌}
use lib.ListN.{length, get_or}
use Rattle.integers.specs.Residues.{word}
use Rattle.integers.proofs.Sums.{sum-none_yet}
use Rattle.integers.proofs.Residues.{residue-small}
use Rattle.matrices.specs.Tables.{signed}
use Rattle.matrices.proofs.Tables.{row_within}
use Rattle.word_rows.specs.Rows.{row_times}
use Rattle.matrices.specs.Elements.{modulo}
use Rattle.matrices.proofs.Elements.{modulo-sums, sum-on}
use Rattle.word_rows.proofs.Rows.{read-on}
use Rattle.word_products.proofs.times_column.Goals as goal
use Rattle.word_products.proofs.times_column.Goals.{At-loop-word, In-loop-word, Start}

pub loop-word-init : goal.loop-word-init
loop-word-init c = (
  omega (arith, zero-mul c.args.cols),
  sym (ap word (sum-none_yet _) ∙ residue-small (2 ^ 64) 0 (omega arith)),
)

-- the function's entry, seen from the loop
abbrev start : At-loop-word → Start
start c = (goal.at.At-loop-word c).Start

-- the row that a turn reads from lies within s
within : (c : In-loop-word) →
    let a = (start (goal.at.In-loop-word c).At-loop-word).args in
    (c.loop-word.at < length a.s.now) × (a.cols ≤ length a.s.now)
within c =
    let s = start (goal.at.In-loop-word c).At-loop-word in
    let row = row_within (length s.args.x.now) s.args.cols c.loop-word.word-index c.loop-word-test.true in
    (omega (arith, row, c.loop-word.invariant.0, s.requires), omega (arith, row, s.requires.0))

pub loop-word-preserved : goal.loop-word-preserved
loop-word-preserved c =
    let l = (goal.at.loop-word-preserved c).At-loop-word in
    let a = (start l).args in
    let x : ℕ → ℕ = λ k. get_or a.x.now k 0 in
    let y : ℕ → ℤ = λ p. get_or a.s.now p (pos 0) in
    let k = l.loop-word.word-index in (
      omega (arith, l.loop-word.invariant.0, add-mul k 1 a.cols, one-mul a.cols),
      sum-on modulo modulo-sums k (λ k. pos (x k) *ℤ y (k * a.cols + a.j)) l.loop-word.invariant.1
          (read-on l.loop-word.sum (x k) (y l.loop-word.at) (record { sfits = omega arith }) c.add_signed_product-sum.ensures
          ∙ ap (λ (p : ℕ). word (pos l.loop-word.sum +ℤ pos (x k) *ℤ y p)) l.loop-word.invariant.0),
    )

pub returns : goal.returns
returns c =
    let a = (start (goal.at.returns c).At-loop-word).args in
    let e : c.loop-word.word-index ≡ length a.x.now = omega arith in
    c.loop-word.invariant.1 ∙ ap (λ (n : ℕ). word (row_times n a.x.now (signed a.cols a.s.now) a.j)) e
