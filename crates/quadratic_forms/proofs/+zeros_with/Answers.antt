-- `quadratic_forms::zeros_with` meets its contract: its inner calls are for one coordinate less.
use mathlib.Core.Path.{◌≡◌, sym, ap, subst, ◌∙◌}
use mathlib.Core.List.{List}
use Prim.Native.Nat.{ℕ, suc, ◌+◌, ◌-◌, ◌≤◌}
use native.Mathlib.Omega.{arith}
use lib.IntN.{ℤ, pos, negsuc, nat_abs}
use lib.ListN.{get_or}
use mir.Syntax.{w64}
use mir.ValLaws.{to_z-of_z}
use Rattle.integers.proofs.Words.{read_back}
use Rattle.matrices.specs.Triangles.{triangular, mirrored}
use Rattle.quadratic_forms.specs.Forms.{Vector, zeros_of}
use Rattle.quadratic_forms.specs.Search.{value_at, terms_of, number_limit, Terms, Carried, LastCarried}
use Rattle.quadratic_forms.proofs.Search.{last_cong, one_left, three-counts}
use Rattle.quadratic_forms.proofs.InWords.{last_row, last-number, count_small, chosen_terms, same-terms, last_carried, less-small, more-small, Numbers, numbers}
use Rattle.quadratic_forms.proofs.+zeros_with.Goals as goal
use Rattle.quadratic_forms.proofs.+zeros_with.Goals.{After-zeros_with-above}

-- what a call rests on, with the last row's entries
module _ (e l : List ℤ) (i : ℕ) (q : ℤ) (h : Carried e i q l) where
  terms : Terms e (i - 1 + 1) l
  terms = last_row e i l h.0

  number : nat_abs q ≤ number_limit (i - 1 + 1)
  number = last-number i q h.0.some h.1

  carried : Numbers q (terms_of l (i - 1)) (get_or e (triangular (i - 1) + (i - 1)) (pos 0))
  carried = numbers _ _ _ (last_carried e (i - 1) l terms q number)

  next : suc (i - 1) ≡ i
  next = omega (arith, h.0.some)

  -- where three coordinates or more are left, two or more follow
  left : (i ≡ 1 → ⊥) → 1 ≤ i - 1
  left two = omega (arith, h.0.some, two)

  -- where one is left
  one-carried : i ≡ 1 → LastCarried q (terms_of l 0) (get_or e 0 (pos 0))
  one-carried one = let c = subst (λ (n : ℕ). Carried e n q l) one h in last_carried e 0 l c.0 q c.1

pub returns-then-i-eq1 : goal.returns-then-i-eq1
returns-then-i-eq1 t c =
    let a = c.args in
    let one = one-carried a.e.now a.linear.now a.i a.q c.requires c.if-i-eq1.true in
    c.last_zeros.ensures
    ∙ last_cong _ _ _ _ _ _ (to_z-of_z w64 a.q c.ranges.q)
    (read_back w64 (terms_of a.linear.now 0) (omega (arith, one.1)))
    (read_back w64 (get_or a.e.now 0 (pos 0)) (omega (arith, one.2)))
    ∙ one_left a.e.now (terms_of a.linear.now) a.q
    ∙ ap (λ (n : ℕ). zeros_of n (value_at n (mirrored a.e.now) (terms_of a.linear.now) a.q)) (sym c.if-i-eq1.true)

pub overflow_sub-squared : goal.overflow_sub-squared
overflow_sub-squared t c = let a = c.args in (carried a.e.now a.linear.now a.i a.q c.requires).less.fits

pub zeros_with-below-requires : goal.zeros_with-below-requires
zeros_with-below-requires t c =
    let a = c.args in
    let rows = terms a.e.now a.linear.now a.i a.q c.requires in (
      omega (arith, c.requires.0.some),
      (
        chosen_terms a.e.now (a.i - 1) a.linear.now rows (negsuc 0) (omega arith) (left a.e.now a.linear.now a.i a.q c.requires c.if-i-eq1.false)
            c.choose.new.chosen c.choose.auto.chosen c.choose.ensures,
        subst (λ (z : ℤ). nat_abs z ≤ number_limit (a.i - 1)) (sym (carried a.e.now a.linear.now a.i a.q c.requires).less.read)
            (less-small a.e.now (a.i - 1) a.linear.now rows a.q (number a.e.now a.linear.now a.i a.q c.requires)),
      ),
    )

pub zeros_with-at-requires : goal.zeros_with-at-requires
zeros_with-at-requires t c =
    let a = c.args in
    let rows = terms a.e.now a.linear.now a.i a.q c.requires in (
      omega (arith, c.requires.0.some),
      (
        same-terms a.e.now (a.i - 1) a.linear.now rows (left a.e.now a.linear.now a.i a.q c.requires c.if-i-eq1.false),
        subst (λ (z : ℤ). nat_abs z ≤ number_limit (a.i - 1)) (sym (to_z-of_z w64 a.q c.ranges.q)) (omega (arith, number a.e.now a.linear.now a.i a.q c.requires)),
      ),
    )

pub overflow_add-squared-4 : goal.overflow_add-squared-4
overflow_add-squared-4 t c = let a = c.args in (carried a.e.now a.linear.now a.i a.q c.requires).more.fits

pub zeros_with-above-requires : goal.zeros_with-above-requires
zeros_with-above-requires t c =
    let a = c.args in
    let rows = terms a.e.now a.linear.now a.i a.q c.requires in (
      omega (arith, c.requires.0.some),
      (
        chosen_terms a.e.now (a.i - 1) a.linear.now rows (pos 1) (omega arith) (left a.e.now a.linear.now a.i a.q c.requires c.if-i-eq1.false)
            c.choose-2.new.chosen c.choose-2.auto.chosen c.choose-2.ensures,
        subst (λ (z : ℤ). nat_abs z ≤ number_limit (a.i - 1)) (sym (carried a.e.now a.linear.now a.i a.q c.requires).more.read)
            (more-small a.e.now (a.i - 1) a.linear.now rows a.q (number a.e.now a.linear.now a.i a.q c.requires)),
      ),
    )

-- the three counts
counts-small : (t : ℕ) (c : After-zeros_with-above t) → (c.zeros_with-below.result ≤ 531441) × (c.zeros_with-at.result ≤ 531441) × (c.zeros_with-above.result ≤ 531441)
counts-small t c =
    let small : (x : ℕ) (f : Vector → ℤ) → x ≡ zeros_of (c.args.i - 1) f → x ≤ 531441 =
    λ x f e. omega (arith, e, count_small (c.args.i - 1) (omega (arith, c.requires.0.most)) f) in
    (small _ _ c.zeros_with-below.ensures, small _ _ c.zeros_with-at.ensures, small _ _ c.zeros_with-above.ensures)

pub overflow_add-result : goal.overflow_add-result
overflow_add-result t c = omega (arith, (counts-small t c).1, (counts-small t c).2)

pub overflow_add-result-2 : goal.overflow_add-result-2
overflow_add-result-2 t c = omega (arith, (counts-small t c).0, (counts-small t c).1, (counts-small t c).2)

pub returns : goal.returns
returns t c =
    let a = c.args in
    let made = carried a.e.now a.linear.now a.i a.q c.requires in
    three-counts a.e.now a.i (a.i - 1) (next a.e.now a.linear.now a.i a.q c.requires) (terms_of a.linear.now) a.q _ _ made.less.read made.more.read
    (terms_of c.choose.new.chosen) (terms_of c.choose-2.new.chosen) c.choose.ensures c.choose-2.ensures _ _ _
    c.zeros_with-below.ensures
    (c.zeros_with-at.ensures ∙ ap (λ (z : ℤ). zeros_of (a.i - 1) (value_at (a.i - 1) (mirrored a.e.now) (terms_of a.linear.now) z)) (to_z-of_z w64 a.q c.ranges.q))
    c.zeros_with-above.ensures
