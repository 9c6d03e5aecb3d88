-- Verdict: both instances, V, T~, D~, C to T', D'.
use Rattle.std.specs.Prelude.{Bool, not, cond, ◌&&◌, List, [], ◌∷◌, ℕ, ◌+◌, ◌*◌, ℤ}
use Rattle.integers.specs.Residues.{word}
use Rattle.matrices.specs.Matrices.{product, both_sides, Agree}
use Rattle.settings.specs.Rules.{Rule, ◌gives◌, first_of}
use Rattle.settings.specs.Settings.{Parameters, NOf, HOf}
use Rattle.lova.specs.declared.Profile.{Profile}
use Rattle.lova.specs.declared.Profile.TheVariants.{General}
use Rattle.lova.specs.Repeats.{repeated_counted, Matrices, meant_as}
use Rattle.lova.specs.Answers.{after_setting, «yes», long, norm, commitment, Outcome, ends, unless_refused}
use Rattle.lova.specs.Stored.{Stored, Instance, Counted, counted, Message, matrix_T, matrix_D, columns_of, sent_D~, read_C}
use Rattle.lova.specs.Tests.{counts_join, equal, equal_words, bounded, fits_instance, fits_right, fits_message_as, fits_C, are_ternary, diagonal_within}
use Rattle.lova.specs.Calls.{DiagonalWithin}
use Rattle.lova.specs.Fold.{beside_T, blocks_D, gadget}

-- after 1 to 6: 7 for a length; 15 for a leaf count of 0, or a sum above 2^32 − 1; 9 for a byte of C above 2; 10 for an entry of D~,
-- stored in this form, above H or below −H
unfoldable pub verdict_rules_as : Parameters → Profile → Stored ℤ → Counted → Counted → Message → List ℕ → Instance → List Rule
verdict_rules_as p f form J₁ J₂ M C out =
    (not (fits_instance p J₁.instance && fits_right p f J₂.instance && fits_message_as p f form M && fits_C p C && fits_instance p out) gives 7)
    ∷ (not (counts_join J₁.leaves J₂.leaves) gives 15)
    ∷ (not (are_ternary p C) gives 9)
    ∷ (not (bounded (columns_of p f) (columns_of p f) (HOf p) (form.read M.D~)) gives 10)
    ∷ []

abbrev pub verdict_rules : Parameters → Profile → Counted → Counted → Message → List ℕ → Instance → List Rule
verdict_rules p f J₁ J₂ M C out = verdict_rules_as p f (sent_D~ p f) J₁ J₂ M C out

module _ (p : Parameters) (I₁ I₂ : Instance) where
  -- no diagonal entry of D1 or D2 exceeds B
  abbrev pub Diagonals : Type 0
  Diagonals = DiagonalWithin p I₁.D × DiagonalWithin p I₂.D

  -- its test
  unfoldable pub diagonals_hold : Bool
  diagonals_hold = diagonal_within p I₁.D && diagonal_within p I₂.D

module _ (p : Parameters) (I₁ I₂ : Instance) (X : Matrices) where
  -- the first equation: D recomposed from D~ by G on both sides equals D in whole numbers
  abbrev pub FirstEquation : Type 0
  FirstEquation = Agree (2 * p.t) (2 * p.t) (both_sides (NOf p) (gadget p) X.D~) (blocks_D p I₁ I₂ X.«V»)

  -- the second equation: T~ G equals T modulo 2^64
  abbrev pub SecondEquation : Type 0
  SecondEquation = Agree p.n (2 * p.t) (λ i j. word (product (NOf p) X.T~ (gadget p) i j)) (λ i j. word (beside_T p I₁ I₂ i j))

  -- their tests
  unfoldable pub first_holds : Bool
  first_holds = equal (2 * p.t) (2 * p.t) (both_sides (NOf p) (gadget p) X.D~) (blocks_D p I₁ I₂ X.«V»)

  unfoldable pub second_holds : Bool
  second_holds = equal_words p.n (2 * p.t) (product (NOf p) X.T~ (gadget p)) (beside_T p I₁ I₂)

-- T' = T~ C modulo 2^64, D' = C-transposed D~ C
unfoldable pub folded_instance : Parameters → Matrices → List ℕ → Instance
folded_instance p X C = record {
  T = (matrix_T p).write (product (NOf p) X.T~ (read_C p C));
  D = (matrix_D p).write (both_sides (NOf p) (read_C p C) X.D~);
}

-- long where a diagonal entry exceeds B; else norm where the first equation fails, commitment where only the second fails, else
-- yes; T' and D' are written on yes alone
unfoldable pub verdict_by : Bool → Bool → Bool → Counted → Counted → Outcome Counted
verdict_by within first second before after =
    cond (not within) (ends long before)
    (cond (not first) (ends norm before) (cond (not second) (ends commitment before) (ends «yes» after)))

-- the leaf count is the sum on yes, else 0
unfoldable pub judged : Parameters → Counted → Counted → Matrices → List ℕ → Instance → Outcome Counted
judged p J₁ J₂ X C out =
    let I₁ = J₁.instance in
    let I₂ = J₂.instance in
    verdict_by (diagonals_hold p I₁ I₂) (first_holds p I₁ I₂ X) (second_holds p I₁ I₂ X) (counted out 0) (counted (folded_instance p X C) (J₁.leaves + J₂.leaves))

-- what is judged and folded is the general call's, with all that is fresh repeated
abbrev pub judged_as : Parameters → Profile → Stored ℤ → Counted → Counted → Message → List ℕ → Instance → Outcome Counted
judged_as p f form J₁ J₂ M C out = judged p J₁ (repeated_counted p f J₂) (meant_as p f form M) C out

unfoldable pub verdict_as : Parameters → Profile → Stored ℤ → Counted → Counted → Message → List ℕ → Instance → Outcome Counted
verdict_as p f form J₁ J₂ M C out =
    unless_refused (first_of (after_setting p (verdict_rules_as p f form J₁ J₂ M C out))) (counted out 0) (judged_as p f form J₁ J₂ M C out)

-- as it is sent: a triangle
abbrev pub judged_in : Parameters → Profile → Counted → Counted → Message → List ℕ → Instance → Outcome Counted
judged_in p f J₁ J₂ M C out = judged_as p f (sent_D~ p f) J₁ J₂ M C out

unfoldable pub verdict_in : Parameters → Profile → Counted → Counted → Message → List ℕ → Instance → Outcome Counted
verdict_in p f J₁ J₂ M C out = verdict_as p f (sent_D~ p f) J₁ J₂ M C out

abbrev pub verdict : Parameters → Counted → Counted → Message → List ℕ → Instance → Outcome Counted
verdict p J₁ J₂ M C out = verdict_in p General J₁ J₂ M C out
