-- `quadratic_forms::zeros_of` meets its contract: the form's first r rows are counted.
use mathlib.Core.Path.{◌≡◌, refl, sym, ap, subst, ◌∙◌}
use Prim.Native.Nat.{ℕ, ◌+◌, ◌<◌, ◌≤◌}
use native.Mathlib.Omega.{arith}
use native.Mathlib.Nat.{mul-le-mul}
use lib.IntN.{ℤ, pos, nat_abs}
use lib.ListN.{length, get_or, replicate}
use mir.Syntax.{w64}
use mir.Val.{to_z, of_z}
use Rattle.integers.proofs.Words.{read_back}
use Rattle.matrices.specs.Triangles.{triangular, mirrored}
use Rattle.matrices.proofs.Triangles.{triangular_mono}
use Rattle.lova.specs.Tests.{eq_Z}
use Rattle.quadratic_forms.specs.Forms.{Vector, tally, zeros_of, zeros}
use Rattle.quadratic_forms.specs.Counts.{largest_entry}
use Rattle.quadratic_forms.specs.Search.{number_limit, Terms}
use Rattle.quadratic_forms.proofs.Counts.{tally-small}
use Rattle.quadratic_forms.proofs.Search.{one-row, row-added}
use Rattle.quadratic_forms.proofs.InWords.{place, entry-small, count_small, chosen_terms, none-at, no_terms}
use Rattle.quadratic_forms.proofs.zeros_of.Goals as goal
use Rattle.quadratic_forms.proofs.zeros_of.Goals.{After-zeros_with-half, In-loop-r, Start}

-- a call with rows has an entry
entries : (s : Start) → 0 < length s.args.e.now
entries s = omega (arith, s.requires.long, triangular_mono 1 s.args.n s.requires.rows.0)

pub bounds-e-0 : goal.bounds-e-0
bounds-e-0 c = entries c

pub overflow_mul-total : goal.overflow_mul-total
overflow_mul-total c = omega (arith, tally-small _ _ c.tally_zero.ensures)

pub overflow_add-total : goal.overflow_add-total
overflow_add-total c = omega (arith, tally-small _ _ c.tally_zero.ensures)

pub loop-r-init : goal.loop-r-init
loop-r-init c =
    let s = (goal.at.loop-r-init c).Start in
    let e = s.args.e.now in (
      omega arith,
      s.requires.rows.0,
      one-row e c.tally_zero.result (c.tally_zero.ensures ∙ ap (λ (z : ℤ). tally (eq_Z z (pos 0))) (read_back w64 (get_or e 0 (pos 0)) (omega (arith, s.requires.entries 0 (entries s))))),
      refl,
    )

-- a turn, and the entry
abbrev start : In-loop-r → Start
start c = (goal.at.In-loop-r c).Start

-- the row that is next
below : (c : In-loop-r) → c.loop-r.r < (start c).args.n
below c = c.loop-r-test.true

terms : (c : In-loop-r) → Terms (start c).args.e.now (c.loop-r.r + 1) (replicate 12 (pos 0))
terms c = let s = start c in no_terms s.args.n s.args.e.now s.requires c.loop-r.r (below c)

diagonal : (c : In-loop-r) → triangular c.loop-r.r + c.loop-r.r < length (start c).args.e.now
diagonal c = place (start c).args.e.now c.loop-r.r (replicate 12 (pos 0)) (terms c) c.loop-r.r (omega arith)

pub choose-requires : goal.choose-requires
choose-requires c = let t = (goal.at.choose-requires c).In-loop-r in (omega arith, terms t, t.loop-r.invariant.3)

pub overflow_add-r : goal.overflow_add-r
overflow_add-r c = let t = (goal.at.overflow_add-r c).In-loop-r in omega (arith, below t, (start t).requires.rows.1)

pub overflow_mul-r : goal.overflow_mul-r
overflow_mul-r c =
    let t = (goal.at.overflow_mul-r c).In-loop-r in
    let low : t.loop-r.r ≤ 11 = omega (arith, below t, (start t).requires.rows.1) in
    let high : t.loop-r.r + 1 ≤ 12 = omega (arith, low) in
    record { fits = omega (arith, mul-le-mul low high) }

pub overflow_add-r-in-loop-r : goal.overflow_add-r-in-loop-r
overflow_add-r-in-loop-r c = let t = (goal.at.overflow_add-r-in-loop-r c).In-loop-r in omega (arith, diagonal t, (start t).well_formed)

pub offset_bounds-e-r : goal.offset_bounds-e-r
offset_bounds-e-r c = let t = (goal.at.offset_bounds-e-r c).In-loop-r in omega (arith, diagonal t, (start t).well_formed)

pub bounds-e-r : goal.bounds-e-r
bounds-e-r c = diagonal (goal.at.bounds-e-r c).In-loop-r

-- the diagonal entry
abbrev square : In-loop-r → ℤ
square t = get_or (start t).args.e.now (triangular t.loop-r.r + t.loop-r.r) (pos 0)

square-small : (t : In-loop-r) → nat_abs (square t) ≤ largest_entry
square-small t = entry-small (start t).args.e.now t.loop-r.r (replicate 12 (pos 0)) (terms t) t.loop-r.r (omega arith)

square-read : (t : In-loop-r) → to_z w64 (of_z w64 (square t)) ≡ square t
square-read t = read_back w64 (square t) (omega (arith, square-small t))

pub zeros_with-half-requires : goal.zeros_with-half-requires
zeros_with-half-requires c =
    let t = (goal.at.zeros_with-half-requires c).In-loop-r in
    let l = t.loop-r in
    let ch = c in (
      chosen_terms (start t).args.e.now l.r (replicate 12 (pos 0)) (terms t) (pos 1) (omega arith) l.invariant.0 ch.choose.new.chosen
          (ch.choose.auto.chosen ∙ l.invariant.3) ch.choose.ensures,
      subst (λ (z : ℤ). nat_abs z ≤ number_limit l.r) (sym (square-read t)) (omega (arith, square-small t, below t, (start t).requires.rows.1)),
    )

-- what a turn adds
abbrev counted : After-zeros_with-half → In-loop-r
counted c = (goal.at.After-zeros_with-half c).In-loop-r

small : (c : After-zeros_with-half) → ((counted c).loop-r.total ≤ 531441) × (c.zeros_with-half.result ≤ 531441)
small c =
    let t = counted c in
    let r = t.loop-r.r in
    let at_most : (x : ℕ) (f : Vector → ℤ) → x ≡ zeros_of r f → x ≤ 531441 =
    λ x f e. omega (arith, e, count_small r (omega (arith, below t, (start t).requires.rows.1)) f) in
    (at_most _ _ t.loop-r.invariant.2, at_most _ _ c.zeros_with-half.ensures)

pub overflow_mul-total-in-loop-r : goal.overflow_mul-total-in-loop-r
overflow_mul-total-in-loop-r c = omega (arith, (small c).1)

pub overflow_add-total-in-loop-r : goal.overflow_add-total-in-loop-r
overflow_add-total-in-loop-r c = omega (arith, (small c).0, (small c).1)

pub loop-r-preserved : goal.loop-r-preserved
loop-r-preserved c =
    let t = counted c in
    let l = t.loop-r in
    let ch = c in (
      omega arith,
      omega (arith, below t),
      row-added (start t).args.e.now l.r l.total _ (replicate 12 (pos 0)) ch.choose.new.chosen _ l.invariant.2 (square-read t)
          (λ j h. none-at j (omega (arith, h, below t, (start t).requires.rows.1))) ch.choose.ensures c.zeros_with-half.ensures,
      ch.choose.auto.chosen ∙ l.invariant.3,
    )

pub returns : goal.returns
returns c =
    let l = c.loop-r in
    let a = c.args in
    let same : l.r ≡ a.n = omega (arith, l.invariant.1, c.loop-r-test.false) in
    l.invariant.2 ∙ ap (λ (n : ℕ). zeros n (mirrored a.e.now)) same
