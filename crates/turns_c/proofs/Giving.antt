-- The ways out of `lova_next_fold`.
use mathlib.Core.Path.{◌≡◌, refl, sym, ap, ◌∙◌}
use mathlib.Core.Logic.{◌≢◌}
use mathlib.Core.List.{List, [], ◌∷◌}
use Prim.Native.Nat.{ℕ}
use native.Mathlib.Omega.{arith}
use lib.ListN.{length, set}
use borrow.Author.Tests.{eq-eqb, ne_eqb}
use Rattle.turns.specs.declared.Turn.{Turn}
use Rattle.turns.specs.Turns.{Meaning, named, none, refused, finds, found, counts_after, one_less, Outcome, returns, next_fold}
use Rattle.turns.proofs.Finding.{counted}
use Rattle.turns.proofs.Answering.{none_keeps, refused_keeps}
use Rattle.codes.specs.Codes.{returned}
use Rattle.turns_c.specs.Given.{code_of, lent, turn_of, numbers_of, coded, next_given}

-- two numbers written, and read back
two-written : (xs : List ℕ) (a b : ℕ) → length xs ≡ 2 → set (set xs 0 a) 1 b ≡ a ∷ b ∷ []
two-written [] a b h = absurd (omega (arith, h))
two-written (x ∷ []) a b h = absurd (omega (arith, h))
two-written (x ∷ (y ∷ [])) a b h = refl
two-written (x ∷ (y ∷ (z ∷ zs))) a b h = absurd (omega (arith, h))

two-read : (xs : List ℕ) → length xs ≡ 2 → numbers_of (turn_of xs) ≡ xs
two-read [] h = absurd (omega (arith, h))
two-read (x ∷ []) h = absurd (omega (arith, h))
two-read (x ∷ (y ∷ [])) h = refl
two-read (x ∷ (y ∷ (z ∷ zs))) h = absurd (omega (arith, h))

module _ (w W xs : List ℕ) where
  -- 7 for each of the three lengths
  pub weights_seven : length w ≢ 8 → returned 7 (lent W xs) ≡ next_given w (lent W xs)
  unfolding next_given
  weights_seven n = rw (ne_eqb (length w) 8 n) refl

  module _ (eight : length w ≡ 8) where
    pub waiting_seven : length W ≢ 8 → returned 7 (lent W xs) ≡ next_given w (lent W xs)
    unfolding next_given
    waiting_seven n = rw (eq-eqb (length w) 8 eight, ne_eqb (length W) 8 n) refl

    module _ (counts : length W ≡ 8) where
      pub turn_seven : length xs ≢ 2 → returned 7 (lent W xs) ≡ next_given w (lent W xs)
      unfolding next_given
      turn_seven n = rw (eq-eqb (length w) 8 eight, eq-eqb (length W) 8 counts, ne_eqb (length xs) 2 n) refl

      -- where all lengths fit, each answer
      module _ (two : length xs ≡ 2) where
        all_fit : coded (next_fold w W (turn_of xs)) ≡ next_given w (lent W xs)
        unfolding next_given
        all_fit = rw (eq-eqb (length w) 8 eight, eq-eqb (length W) 8 counts, eq-eqb (length xs) 2 two) refl

        by-outcome : (o : Outcome) → o ≡ next_fold w W (turn_of xs) → coded o ≡ next_given w (lent W xs)
        by-outcome o e = ap coded e ∙ all_fit

        pub group-given : (g : ℕ) (next : Turn) → finds (named g) next ≡ found w W (turn_of xs)
            → returned 0 (lent (one_less W g) (set (set xs 0 next.group) 1 next.used)) ≡ next_given w (lent W xs)
        unfolding code_of counts_after
        group-given g next f =
            rw (two-written xs next.group next.used two) (by-outcome (returns (named g) next (one_less W g)) (counted w W (turn_of xs) (named g) next (one_less W g) f refl))

        -- none and a refusal leave all as it was
        as_it_was : (a : Meaning) → returns a (turn_of xs) W ≡ next_fold w W (turn_of xs) → returned (code_of a) (lent W xs) ≡ next_given w (lent W xs)
        as_it_was a e = ap (λ (ys : List ℕ). returned (code_of a) (lent W ys)) (sym (two-read xs two)) ∙ by-outcome (returns a (turn_of xs) W) e

        pub none-given : (next : Turn) → finds none next ≡ found w W (turn_of xs) → returned 104 (lent W xs) ≡ next_given w (lent W xs)
        unfolding code_of
        none-given next f = as_it_was none (sym (none_keeps w W (turn_of xs) (sym (ap (λ x. x.answer) f))).1)

        pub refused-given : (r : ℕ) (next : Turn) → finds (refused r) next ≡ found w W (turn_of xs) → returned r (lent W xs) ≡ next_given w (lent W xs)
        unfolding code_of counts_after
        refused-given r next f =
            let kept = refused_keeps w W (turn_of xs) r (sym (ap (λ x. x.answer) f)) in
            ap (λ (c : ℕ). returned c (lent W xs)) (ap code_of (ap (λ x. x.answer) f ∙ ap (λ (o : Outcome). o.answer) kept)) ∙ as_it_was (refused 20) (sym kept)
