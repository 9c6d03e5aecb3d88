-- The ways out of `lova_count_zeros`.
use mathlib.Core.Path.{◌≡◌, refl, sym, ap, ◌∙◌}
use mathlib.Core.Logic.{◌≢◌}
use mathlib.Core.Bool.{Bool, true, false, and-true, and-false}
use mathlib.Core.List.{List, [], ◌∷◌}
use Prim.Native.Nat.{ℕ}
use native.Mathlib.Omega.{arith}
use lib.IntN.{ℤ}
use lib.ListN.{length, set}
use borrow.Author.Tests.{eq-eqb, ne_eqb}
use Rattle.integers.specs.Ranges.{within}
use Rattle.settings.specs.Rules.{first_of}
use Rattle.codes.specs.Codes.{returned}
use Rattle.std.specs.Prelude.{Result, Ok, Err}
use Rattle.quadratic_forms.specs.Counts.{row_range, is_triangle, count_refusal, answer, count_zeros}
use Rattle.quadratic_forms_c.specs.Given.{fits, coded, count_given}

one_written : (xs : List ℕ) (n : ℕ) → length xs ≡ 1 → set xs 0 n ≡ n ∷ []
one_written [] n h = absurd (omega (arith, h))
one_written (x ∷ []) n h = refl
one_written (x ∷ (y ∷ ys)) n h = absurd (omega (arith, h))

module _ (N : ℕ) (e : List ℤ) (out : List ℕ) where
  pub rows-given : within row_range N ≡ false → returned 24 out ≡ count_given N e out
  unfolding answer count_refusal first_of coded
  rows-given r = rw r refl

  pub place-given : within row_range N ≡ true → length out ≢ 1 → returned 7 out ≡ count_given N e out
  unfolding answer count_refusal first_of coded
  place-given r n = rw (r, ne_eqb (length out) 1 n, and-false (is_triangle N e)) refl

  -- with one place the lengths fit where those of the library's call do
  module _ (one : length out ≡ 1) where
    by_answer : (m : Result ℕ ℕ) → m ≡ count_zeros N e → coded m out ≡ count_given N e out
    by_answer m a = ap (λ (x : Result ℕ ℕ). coded x out) a ∙ ap (λ (b : Bool). coded (answer N b e) out) same
      where
        same : is_triangle N e ≡ fits N e out
        same = rw (eq-eqb (length out) 1 one) (sym (and-true (is_triangle N e)))

    pub count-given : (n : ℕ) → Ok n ≡ count_zeros N e → returned 0 (set out 0 n) ≡ count_given N e out
    unfolding coded
    count-given n a = ap (returned 0) (one_written out n one) ∙ by_answer (Ok n) a

    pub refused-given : (r : ℕ) → Err r ≡ count_zeros N e → returned r out ≡ count_given N e out
    unfolding coded
    refused-given r a = by_answer (Err r) a
