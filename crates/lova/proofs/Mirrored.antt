-- D~ as a lower triangle and as the mirrored square: the same verdict, the same honest messages; and what a symmetric D~ means.
use mathlib.Core.Path.{◌≡◌, refl, sym, ◌∙◌, ap, ap₂}
use mathlib.Core.Bool.{Bool, not, ◌&&◌}
use mathlib.Core.List.{List, [], ◌∷◌}
use Prim.Native.Nat.{ℕ, ◌+◌, ◌*◌}
use native.Mathlib.Omega.{arith}
use lib.IntN.{ℤ, pos}
use Rattle.integers.proofs.Tests.{true-is}
use Rattle.matrices.specs.Matrices.{Matrix, gram, Agree, Symmetric}
use Rattle.matrices.proofs.Tables.{length-table, entry-table, table_cong}
use Rattle.matrices.proofs.Triangles.{mirrored-symmetric, mirrored-lower, gram-symmetric, both_sides-symmetric}
use Rattle.settings.specs.Rules.{◌gives◌, first_of}
use Rattle.settings.specs.Settings.{Parameters, NOf, HOf}
use Rattle.lova.specs.declared.Profile.{Profile}
use Rattle.lova.specs.declared.Profile.TheVariants.{General, Fresh}
use Rattle.lova.specs.Answers.{after_setting, Outcome, unless_refused}
use Rattle.lova.specs.Stored.{Instance, Counted, counted, Message, columns_of, matrix_S, matrix_D, right_S, sent_V, sent_T~, sent_D~}
use Rattle.lova.specs.Tests.{are_ternary, counts_join, bounded, fits, fits_instance, fits_right, fits_C}
use Rattle.lova.specs.Calls.{Fits}
use Rattle.lova.specs.Fold.{beside, blocks, digit_witness, gadget}
use Rattle.lova.specs.Repeats.{repeated_counted, Matrices, meant_as, meant}
use Rattle.lova.specs.Message.{prepared_as, prepared_in}
use Rattle.lova.specs.Verdict.{FirstEquation, verdict_rules_as, verdict_as, verdict_in}
use Rattle.lova.specs.Squares.{square_D~, mirrored_message, mirrored_prepared, square_prepared_in, square_verdict_in}
use Rattle.lova.proofs.Tests.{eqb_iff, same-bound}
use Rattle.lova.proofs.Blocks.{upper-left, lower-right}
use Rattle.lova.proofs.Judged.{Same, judged-same}
use Rattle.lova.proofs.Repeated.{place-bound}

-- ---- the verdict on a triangle is the verdict on its mirrored square

-- what is read of the mirrored square is what is read of the triangle
mirrored-entry : (p : Parameters) (f : Profile) (M : Message) → Agree (columns_of p f) (columns_of p f) ((sent_D~ p f).read M.D~) ((square_D~ p f).read (mirrored_message p f M).D~)
mirrored-entry p f M i j hi hj = sym (entry-table (pos 0) (columns_of p f) (columns_of p f) _ i j hi hj)

mirrored_means : (p : Parameters) (f : Profile) (M : Message) → Same p (meant p f M) (meant_as p f (square_D~ p f) (mirrored_message p f M))
mirrored_means p General M = record { same_V = λ i j hi hj. refl; same-T~ = λ i j hi hj. refl; same-D~ = mirrored-entry p General M }
mirrored_means p Fresh M = record {
  same_V = λ i j hi hj. refl;
  same-T~ = λ i j hi hj. refl;
  same-D~ = λ a c ha hc. mirrored-entry p Fresh M _ _ (place-bound p a) (place-bound p c);
}

module _ (p : Parameters) (f : Profile) where
  -- 10 for the triangle is 10 for the square
  bounded-same : (M : Message) → bounded (columns_of p f) (columns_of p f) (HOf p) ((sent_D~ p f).read M.D~) ≡ bounded (columns_of p f) (columns_of p f) (HOf p) ((square_D~ p f).read (mirrored_message p f M).D~)
  bounded-same M = same-bound (columns_of p f) (columns_of p f) (columns_of p f) (columns_of p f) (HOf p) ((sent_D~ p f).read M.D~) ((square_D~ p f).read (mirrored_message p f M).D~) (
    (λ h i j hi hj. rw (mirrored-entry p f M i j hi hj) (h i j hi hj)),
    (λ h i j hi hj. rw (sym (mirrored-entry p f M i j hi hj)) (h i j hi hj)),
  )

  -- a triangle of its length is a square of its length
  length-same : (M : Message) → Fits (sent_D~ p f) M.D~ → fits (sent_D~ p f) M.D~ ≡ fits (square_D~ p f) (mirrored_message p f M).D~
  length-same M l = true-is _ ((eqb_iff _ _).1 l) ∙ sym (true-is _ ((eqb_iff _ _).1 (length-table _ _ _)))

  pub verdict-mirrored : (J₁ J₂ : Counted) (M : Message) (C : List ℕ) (out : Instance) → Fits (sent_D~ p f) M.D~
      → verdict_in p f J₁ J₂ M C out ≡ square_verdict_in p f J₁ J₂ (mirrored_message p f M) C out
  unfolding verdict_in verdict_as verdict_rules_as
  verdict-mirrored J₁ J₂ M C out l =
      let I₁ = J₁.instance in
      let I₂ = J₂.instance in
      ap₂ (λ (r : ℕ) (o : Outcome Counted). unless_refused r (counted out 0) o)
      (ap₂ (λ (long small : Bool). first_of (after_setting p (
      (not (fits_instance p I₁ && fits_right p f I₂ && (fits (sent_V p f) M.«V» && fits (sent_T~ p f) M.T~ && long) && fits_C p C && fits_instance p out) gives 7)
      ∷ (not (counts_join J₁.leaves J₂.leaves) gives 15)
      ∷ (not (are_ternary p C) gives 9)
      ∷ (not small gives 10)
      ∷ [])))
      (length-same M l) (bounded-same M))
      (judged-same p (meant p f M) (meant_as p f (square_D~ p f) (mirrored_message p f M)) (mirrored_means p f M) J₁ (repeated_counted p f J₂) C out)

  -- ---- honest messages

  module _ (A : List ℕ) (S₁ S₂ : List ℤ) where
    abbrev Q : Matrix
    Q = digit_witness p (beside p.t ((matrix_S p).read S₁) ((right_S p f).read S₂))

    honest-entry : Agree (columns_of p f) (columns_of p f) ((sent_D~ p f).read (prepared_in p f A S₁ S₂).message.D~) (gram p.m Q)
    unfolding prepared_as
    honest-entry = mirrored-lower (columns_of p f) (gram p.m Q) (gram-symmetric p.m (columns_of p f) Q)

    -- with its D~ mirrored, an honest message is the honest message with a square D~
    pub messages_correspond : mirrored_prepared p f (prepared_in p f A S₁ S₂) ≡ square_prepared_in p f A S₁ S₂
    unfolding prepared_as
    messages_correspond = ap (λ (D : List ℤ). record {
      message = record { «V» = (prepared_in p f A S₁ S₂).message.«V»; T~ = (prepared_in p f A S₁ S₂).message.T~; D~ = D };
      S~ = (prepared_in p f A S₁ S₂).S~;
    }) (table_cong (pos 0) (columns_of p f) (columns_of p f) _ _ honest-entry)

    -- entry by entry
    pub entries_correspond : Agree (columns_of p f) (columns_of p f) ((sent_D~ p f).read (prepared_in p f A S₁ S₂).message.D~) ((square_D~ p f).read (square_prepared_in p f A S₁ S₂).message.D~)
    unfolding prepared_as
    entries_correspond i j hi hj = honest-entry i j hi hj ∙ sym (entry-table (pos 0) (columns_of p f) (columns_of p f) (gram p.m Q) i j hi hj)

-- ---- a message's D~ is symmetric

pub meant-symmetric : (p : Parameters) (f : Profile) (M : Message) → Symmetric (NOf p) (meant p f M).D~
meant-symmetric p General M i j hi hj = mirrored-symmetric M.D~ i j
meant-symmetric p Fresh M i j hi hj = mirrored-symmetric M.D~ _ _

-- so the first equation holds only for symmetric D1 and D2
module _ (p : Parameters) (I₁ I₂ : Instance) (X : Matrices) (sides : Symmetric (NOf p) X.D~) (first : FirstEquation p I₁ I₂ X) where
  abbrev D₁ : Matrix
  D₁ = (matrix_D p).read I₁.D

  abbrev D₂ : Matrix
  D₂ = (matrix_D p).read I₂.D

  joined-symmetric : Symmetric (2 * p.t) (blocks p.t D₁ X.«V» D₂)
  joined-symmetric i j hi hj = sym (first i j hi hj) ∙ both_sides-symmetric (NOf p) (gadget p) X.D~ i j sides ∙ first j i hj hi

  first_block : Agree p.t p.t (blocks p.t D₁ X.«V» D₂) D₁
  first_block = upper-left p.t D₁ X.«V» D₂

  last_block : (i j : ℕ) → blocks p.t D₁ X.«V» D₂ (p.t + i) (p.t + j) ≡ D₂ i j
  last_block i j = lower-right p.t D₁ X.«V» D₂ (p.t + i) (p.t + j) (omega arith) (omega arith) ∙ ap₂ D₂ (omega arith) (omega arith)

  pub first-symmetric : Symmetric p.t D₁ × Symmetric p.t D₂
  first-symmetric = (
    (λ i j hi hj. sym (first_block i j hi hj) ∙ joined-symmetric i j (omega arith) (omega arith) ∙ first_block j i hj hi),
    (λ i j hi hj. sym (last_block i j) ∙ joined-symmetric (p.t + i) (p.t + j) (omega arith) (omega arith) ∙ last_block j i),
  )
