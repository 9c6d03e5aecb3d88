-- What is judged and made of all that is fresh, repeated, as the code computes it: by each column once, in either profile.
use mathlib.Core.Path.{◌≡◌, refl, sym, ◌∙◌, ap, ap₂}
use mathlib.Core.Bool.{Bool, true, false, ◌&&◌}
use mathlib.Core.List.{List}
use Prim.Native.Nat.{ℕ, ◌+◌, ◌*◌, ◌≤◌}
use native.Mathlib.Omega.{arith}
use lib.IntN.{ℤ, pos}
use lib.Signed.{le_z}
use Rattle.integers.specs.Residues.{word}
use Rattle.integers.proofs.Tests.{same_test, all_true, all_elim}
use Rattle.integers.specs.Tests.{all}
use Rattle.matrices.specs.Matrices.{Matrix, product, both_sides, contracted}
use Rattle.matrices.specs.Tables.{table}
use Rattle.matrices.proofs.Matrices.{product_cong, both_sides_cong}
use Rattle.matrices.proofs.Contracted.{contracted-once}
use Rattle.matrices.proofs.Tables.{entry-table, table_cong}
use Rattle.settings.specs.Settings.{Parameters, k_of, NOf}
use Rattle.lova.specs.declared.Profile.{Profile}
use Rattle.lova.specs.declared.Profile.TheVariants.{General, Fresh}
use Rattle.lova.specs.Answers.{Outcome, ends, «yes», long, norm, commitment}
use Rattle.lova.specs.Stored.{Instance, Counted, counted, Message, right_of, columns_of, matrix_T, matrix_D, matrix_S~, right_T, right_D, sent_V, sent_S~, sent_T~, sent_D~, read_C}
use Rattle.lova.specs.Tests.{equal, equal_words, diagonal_within}
use Rattle.lova.specs.Fold.{beside, blocks, gadget}
use Rattle.lova.specs.Repeats.{challenge_in, repeated_instance, repeated_S~, meant}
use Rattle.lova.specs.Verdict.{diagonals_hold, first_holds, second_holds, folded_instance, verdict_by, judged, judged_in}
use Rattle.lova.specs.Witness.{folded_witness}
use Rattle.lova.proofs.FreshTests as FreshTests
use Rattle.lova.proofs.Repeated as Repeated
use Rattle.lova.proofs.Widths.{columns-are}

-- the challenge as it is sent, and contracted
challenge_general : (p : Parameters) (C : List ℕ) (c j : ℕ) → read_C p C c j ≡ challenge_in p General C c j
challenge_general p C c j = sym (contracted-once (p.t * k_of p) (p.t * k_of p) (read_C p C) c j)

challenge_fresh : (p : Parameters) (C : List ℕ) → contracted (p.t * k_of p) (k_of p) p.t (read_C p C) ≡ challenge_in p Fresh C
challenge_fresh p C = ap (λ (block : ℕ). contracted (p.t * k_of p) block p.t (read_C p C)) (omega arith)

-- [T1 T2] and [D1 V; V-transposed D2] of what is lent
abbrev pub beside_in : Parameters → Profile → Instance → Instance → Matrix
beside_in p f I₁ I₂ = beside p.t ((matrix_T p).read I₁.T) ((right_T p f).read I₂.T)

abbrev pub blocks_in : Parameters → Profile → Instance → Instance → List ℤ → Matrix
blocks_in p f I₁ I₂ «V» = blocks p.t ((matrix_D p).read I₁.D) ((sent_V p f).read «V») ((right_D p f).read I₂.D)

-- the verdict's three tests on what is lent
module _ (p : Parameters) (f : Profile) (I₁ I₂ : Instance) where
  abbrev pub diagonals_once : Bool
  diagonals_once = diagonal_within p I₁.D && all (right_of p f) (λ i. le_z ((right_D p f).read I₂.D i i) (pos p.bound))

  abbrev pub first_once : Message → Bool
  first_once M = equal (p.t + right_of p f) (p.t + right_of p f) (both_sides (columns_of p f) (gadget p) ((sent_D~ p f).read M.D~)) (blocks_in p f I₁ I₂ M.«V»)

  abbrev pub second_once : Message → Bool
  second_once M = equal_words p.n (p.t + right_of p f) (product (columns_of p f) ((sent_T~ p f).read M.T~) (gadget p)) (beside_in p f I₁ I₂)

-- they are the tests on what is repeated
pub within-once : (p : Parameters) (f : Profile) (I₁ I₂ : Instance) → 1 ≤ p.t → diagonals_hold p I₁ (repeated_instance p f I₂) ≡ diagonals_once p f I₁ I₂
unfolding diagonals_hold diagonal_within
within-once p General I₁ I₂ low = refl
within-once p Fresh I₁ I₂ low = ap (λ (c : Bool). diagonal_within p I₁.D && c) (same_test (all p.t repeated) (all 1 lent)
    (λ h. all_true 1 lent (λ i hi. let z : i ≡ 0 = omega arith in rw z (rw (entry-table (pos 0) p.t p.t _ 0 0 (omega arith) (omega arith)) at (all_elim p.t repeated h 0 (omega arith)))))
    (λ h. all_true p.t repeated (λ i hi. rw (entry-table (pos 0) p.t p.t (λ i j. (right_D p Fresh).read I₂.D 0 0) i i hi hi) (all_elim 1 lent h 0 (omega arith)))))
  where
    repeated : ℕ → Bool
    repeated i = le_z ((matrix_D p).read (repeated_instance p Fresh I₂).D i i) (pos p.bound)

    lent : ℕ → Bool
    lent i = le_z ((right_D p Fresh).read I₂.D i i) (pos p.bound)

pub first-once : (p : Parameters) (f : Profile) (I₁ I₂ : Instance) (M : Message) → 1 ≤ p.t
    → first_holds p I₁ (repeated_instance p f I₂) (meant p f M) ≡ first_once p f I₁ I₂ M
unfolding first_holds
first-once p General I₁ I₂ M low = ap (λ (w : ℕ). equal w w (both_sides (NOf p) (gadget p) ((sent_D~ p General).read M.D~)) (blocks_in p General I₁ I₂ M.«V»)) (omega arith)
first-once p Fresh I₁ I₂ M low =
    FreshTests.first-once p low I₁ I₂ M
    ∙ ap (λ (n : ℕ). equal (p.t + 1) (p.t + 1) (both_sides n (gadget p) ((sent_D~ p Fresh).read M.D~)) (blocks_in p Fresh I₁ I₂ M.«V»)) (sym (columns-are p Fresh))

pub second-once : (p : Parameters) (f : Profile) (I₁ I₂ : Instance) (M : Message) → 1 ≤ p.t
    → second_holds p I₁ (repeated_instance p f I₂) (meant p f M) ≡ second_once p f I₁ I₂ M
unfolding second_holds
second-once p General I₁ I₂ M low = ap (λ (w : ℕ). equal_words p.n w (product (NOf p) ((sent_T~ p General).read M.T~) (gadget p)) (beside_in p General I₁ I₂)) (omega arith)
second-once p Fresh I₁ I₂ M low =
    FreshTests.second-once p low I₁ I₂ M
    ∙ ap (λ (n : ℕ). equal_words p.n (p.t + 1) (product n ((sent_T~ p Fresh).read M.T~) (gadget p)) (beside_in p Fresh I₁ I₂)) (sym (columns-are p Fresh))

-- T' and D'
pub folded-once : (p : Parameters) (f : Profile) (M : Message) (C : List ℕ) → folded_instance p (meant p f M) C ≡ record {
  T = (matrix_T p).write (product (columns_of p f) ((sent_T~ p f).read M.T~) (challenge_in p f C));
  D = (matrix_D p).write (both_sides (columns_of p f) (challenge_in p f C) ((sent_D~ p f).read M.D~));
}
unfolding folded_instance
folded-once p General M C = ap₂ (λ (t : List ℕ) (d : List ℤ). record { T = t; D = d })
    (table_cong 0 p.n p.t _ _ (λ i j hi hj. ap word (
    product_cong (NOf p) ((sent_T~ p General).read M.T~) ((sent_T~ p General).read M.T~) (read_C p C) (challenge_in p General C) i j (λ c h. refl) (λ c h. challenge_general p C c j))))
    (table_cong (pos 0) p.t p.t _ _ (λ i j hi hj.
    both_sides_cong (NOf p) (read_C p C) (challenge_in p General C) ((sent_D~ p General).read M.D~) ((sent_D~ p General).read M.D~) i j
    (λ c h. challenge_general p C c i) (λ c h. challenge_general p C c j) (λ a c ha hc. refl)))
folded-once p Fresh M C = Repeated.folded-once p M C ∙ ap (λ (K : Matrix). record {
  T = table p.n p.t (λ i j. word (product (columns_of p Fresh) ((sent_T~ p Fresh).read M.T~) K i j));
  D = table p.t p.t (both_sides (columns_of p Fresh) K ((sent_D~ p Fresh).read M.D~));
}) (challenge_fresh p C)

-- the folded witness
pub witness-once : (p : Parameters) (f : Profile) (S~ : List ℤ) (C : List ℕ)
    → folded_witness p ((matrix_S~ p).read (repeated_S~ p f S~)) C ≡ table p.m p.t (product (columns_of p f) ((sent_S~ p f).read S~) (challenge_in p f C))
unfolding folded_witness
witness-once p General S~ C = table_cong (pos 0) p.m p.t _ _ (λ i j hi hj.
    product_cong (NOf p) ((sent_S~ p General).read S~) ((sent_S~ p General).read S~) (read_C p C) (challenge_in p General C) i j (λ c h. refl) (λ c h. challenge_general p C c j))
witness-once p Fresh S~ C = Repeated.witness-once p S~ C ∙ ap (λ (K : Matrix). table p.m p.t (product (columns_of p Fresh) ((sent_S~ p Fresh).read S~) K)) (challenge_fresh p C)

-- the verdict's answers, by the tests that the code makes one after the other
module _ (p : Parameters) (f : Profile) (J₁ J₂ : Counted) (M : Message) (C : List ℕ) (out : Instance) (low : 1 ≤ p.t) where
  abbrev result : Outcome Counted
  result = judged_in p f J₁ J₂ M C out

  abbrev within : Bool
  within = diagonals_once p f J₁.instance J₂.instance

  abbrev first : Bool
  first = first_once p f J₁.instance J₂.instance M

  abbrev second : Bool
  second = second_once p f J₁.instance J₂.instance M

  -- the folded instance with its leaf count
  abbrev folded : Instance → Counted
  folded I = counted I (J₁.leaves + J₂.leaves)

  by_tests : result ≡ verdict_by within first second (counted out 0) (folded (folded_instance p (meant p f M) C))
  unfolding judged
  by_tests =
      let I₁ = J₁.instance in
      let I₂ = J₂.instance in
      rw (within-once p f I₁ I₂ low, first-once p f I₁ I₂ M low, second-once p f I₁ I₂ M low) refl

  pub long-answer : within ≡ false → ends long (counted out 0) ≡ result
  unfolding verdict_by
  long-answer w = sym (by_tests ∙ rw w refl)

  pub norm-answer : within ≡ true → first ≡ false → ends norm (counted out 0) ≡ result
  unfolding verdict_by
  norm-answer w a = sym (by_tests ∙ rw (w, a) refl)

  pub commitment-answer : within ≡ true → first ≡ true → second ≡ false → ends commitment (counted out 0) ≡ result
  unfolding verdict_by
  commitment-answer w a b = sym (by_tests ∙ rw (w, a, b) refl)

  pub yes_answer : within ≡ true → first ≡ true → second ≡ true → (T' : List ℕ) (D' : List ℤ)
      → T' ≡ (matrix_T p).write (product (columns_of p f) ((sent_T~ p f).read M.T~) (challenge_in p f C))
      → D' ≡ (matrix_D p).write (both_sides (columns_of p f) (challenge_in p f C) ((sent_D~ p f).read M.D~))
      → ends «yes» (folded (record { T = T'; D = D' })) ≡ result
  unfolding verdict_by
  yes_answer w a b T' D' t d =
      ap₂ (λ (x : List ℕ) (y : List ℤ). ends «yes» (folded (record { T = x; D = y }))) t d
      ∙ sym (by_tests ∙ rw (w, a, b) (ap (λ (I : Instance). ends «yes» (folded I)) (folded-once p f M C)))
