-- Squares taken from a bound, one after the other: what has been taken and what is left make the bound.
use Rattle.std.proofs.Common.{◌≡◌, ℕ, ◌+◌, ◌-◌, ◌*◌, ◌<◌, ◌≤◌, Bool, true, false, leb, cond, ℤ, nat_abs, sym, refl, ap, ◌∙◌, ⊎_elim, lt_of_not-le, arith, le-leb}
use Rattle.std.specs.Prelude.{Option, Some, None}
use Rattle.std.specs.Option.{SomeIff}
use borrow.Author.Tests.{lt-leb}
use Rattle.integers.specs.Sums.{sum_ℕ}
use Rattle.integers.proofs.Sums.{sum_ℕ-none_yet, sum_ℕ-step, sum_ℕ_mono}
use Rattle.integers.proofs.Tests.{le_or_lt}
use Rattle.matrices.specs.Lengths.{less_square}

-- a square that is within what is left, and one above it
module _ (left w : ℕ) (x : ℤ) (is : w ≡ nat_abs x) where
  abbrev of : Bool → Option ℕ
  of c = cond c (Some (left - w * w)) None

  taken_is : less_square left x ≡ of (leb (w * w) left)
  taken_is = ap (λ (n : ℕ). cond (leb (n * n) left) (Some (left - n * n)) None) (sym is)

  pub square-within : w * w ≤ left → Some (left - w * w) ≡ less_square left x
  square-within h = ap of (sym (le-leb (w * w) left h)) ∙ sym taken_is

  pub square_above : left < w * w → None ≡ less_square left x
  square_above h = ap of (sym (lt-leb (w * w) left h)) ∙ sym taken_is

  -- the machine's difference, if there is one
  pub square-taken : (o : Option ℕ) → SomeIff o (w * w ≤ left) (left - w * w) → o ≡ less_square left x
  square-taken None none = square_above (lt_of_not-le none)
  square-taken (Some rest) some = ap Some some.1 ∙ square-within some.0

-- the squares f of a column with so many rows, `bound`, and what is left of it after those of the first i rows
module _ (rows : ℕ) (f : ℕ → ℕ) (bound : ℕ) where
  abbrev pub LeftAfter : ℕ → ℕ → Type 0
  LeftAfter i left = sum_ℕ i f + left ≡ bound

  pub none-taken : LeftAfter 0 bound
  none-taken = omega (arith, sum_ℕ-none_yet f)

  -- one row more: its square was taken from what was left
  module _ (i left : ℕ) (x : ℤ) (next : Option ℕ) (so_far : LeftAfter i left) (square : nat_abs x * nat_abs x ≡ f i) (taken : next ≡ less_square left x) where
    within-is : f i ≤ left → next ≡ Some (left - f i)
    within-is h = taken ∙ sym (square-within left (nat_abs x) x refl (rw square h)) ∙ ap (λ (n : ℕ). Some (left - n)) square

    above-is : left < f i → next ≡ None
    above-is h = taken ∙ sym (square_above left (nat_abs x) x refl (rw square h))

    -- it was within that
    pub one-taken : (rest : ℕ) → next ≡ Some rest → LeftAfter (i + 1) rest
    one-taken rest is = ⊎_elim
        (λ (h : f i ≤ left). let e : rest ≡ left - f i = cc (is, within-is h) in omega (arith, sum_ℕ-step i f, e))
        (λ (h : left < f i). cc (is, above-is h))
        (le_or_lt (f i) left)

    -- or above it, and then the whole sum is above the bound
    pub too_long : i < rows → next ≡ None → false ≡ leb (sum_ℕ rows f) bound
    too_long h is = ⊎_elim
        (λ (l : f i ≤ left). cc (is, within-is l))
        (λ (l : left < f i). sym (lt-leb (sum_ℕ rows f) bound (omega (arith, sum_ℕ-step i f, sum_ℕ_mono (i + 1) rows f (omega arith)))))
        (le_or_lt (f i) left)

  -- all rows are taken
  pub all-taken : (i left : ℕ) → rows ≤ i → LeftAfter i left → true ≡ leb (sum_ℕ rows f) bound
  all-taken i left h e = sym (le-leb (sum_ℕ rows f) bound (omega (arith, sum_ℕ_mono rows i f h)))
