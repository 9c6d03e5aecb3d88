-- What each answer means: exactly when a proper call gives it.
use mathlib.Core.Path.{◌≡◌, refl, sym, ◌∙◌, ap, subst}
use mathlib.Core.Logic.{◌↔◌, ◌⊎◌, inl, inr}
use mathlib.Core.Bool.{Bool, true, false}
use mathlib.Core.List.{List}
use Prim.Native.Nat.{ℕ, zero, suc, ◌+◌, ◌<◌, ◌≤◌}
use native.Mathlib.Omega.{arith}
use lib.Dec.{T, leb→le, le→leb}
use lib.IntN.{ℤ, pos}
use lib.Signed.{◌≤ℤ◌}
use Rattle.matrices.specs.Matrices.{gram, squared_length}
use Rattle.matrices.proofs.Bounds.{gram-diagonal}
use Rattle.settings.specs.Rules.{first_of}
use Rattle.settings.specs.Settings.{Parameters}
use Rattle.lova.specs.Answers.{after_setting, unless_refused, done, «yes», norm, commitment, long, products, member, refused, Outcome, ends}
use Rattle.lova.specs.declared.Profile.{Profile}
use Rattle.lova.specs.declared.Profile.TheVariants.{General}
use Rattle.lova.specs.Stored.{Instance, Counted, counted, Message, matrix_S, matrix_D}
use Rattle.lova.specs.Repeats.{repeated_instance, Matrices, meant}
use Rattle.lova.specs.Tests.{short}
use Rattle.lova.specs.Calls.{CountsOn, Short, ProperRelation, ProperVerdict}
use Rattle.lova.specs.Relation.{Related, ProductsAgree, CommitmentAgrees, products_hold, commitment_holds, member_word, relation}
use Rattle.lova.specs.Verdict.{Diagonals, FirstEquation, SecondEquation, diagonals_hold, first_holds, second_holds, verdict_rules, folded_instance, verdict_by, judged, judged_in, verdict_as, verdict_in}
use Rattle.lova.proofs.Tests.{equal_iff, equal-words_iff, short_iff, diagonals_iff}
use Rattle.lova.proofs.Refusals.{Ended, ends_so, untouched, relation-proper, verdict-proper}
use Rattle.lova.proofs.ThreeTests.{answer_by, rank_of, apart, first-fails, second-fails, third-fails, none-fails, answer-ended}

-- norm and products are the second answers of their tests, yes and member the fourth
norm-second : rank_of norm ≡ 2
unfolding rank_of
norm-second = refl

yes_fourth : rank_of «yes» ≡ 4
unfolding rank_of
yes_fourth = refl

products-second : rank_of products ≡ 2
unfolding rank_of
products-second = refl

member-fourth : rank_of member ≡ 4
unfolding rank_of
member-fourth = refl

-- ---- the verdict

module _ (before after : Counted) where
  verdict-word : (a b c : Bool) → (verdict_by a b c before after).answer ≡ answer_by norm «yes» a b c
  unfolding verdict_by
  verdict-word true true true = refl
  verdict-word true true false = refl
  verdict-word true false c = refl
  verdict-word false b c = refl

  -- the answer is yes and the outputs are the folded instance, or the outputs are what they were
  outputs-by : (a b c : Bool) → (verdict_by a b c before after ≡ ends «yes» after) ⊎ ((verdict_by a b c before after).outputs ≡ before)
  unfolding verdict_by
  outputs-by true true true = inl refl
  outputs-by true true false = inr refl
  outputs-by true false c = inr refl
  outputs-by false b c = inr refl

  -- the leaf count is the folded instance's on yes, else what it was
  leaves_by : (a b c : Bool) (r : ℕ) → before.leaves ≡ 0 → CountsOn «yes» after.leaves (unless_refused r before (verdict_by a b c before after))
  unfolding verdict_by unless_refused rank_of
  leaves_by a b c (suc r) none = (apart (refused (suc r)) «yes» (λ e. omega arith), (λ h. none))
  leaves_by true true true zero none = ((λ e. refl), (λ h. absurd (h refl)))
  leaves_by true true false zero none = (apart commitment «yes» (λ e. omega arith), (λ h. none))
  leaves_by true false c zero none = (apart norm «yes» (λ e. omega arith), (λ h. none))
  leaves_by false b c zero none = (apart long «yes» (λ e. omega arith), (λ h. none))

  -- so for commit and join
  pub done-leaves : (r : ℕ) → before.leaves ≡ 0 → CountsOn done after.leaves (unless_refused r before (ends done after))
  unfolding unless_refused rank_of
  done-leaves (suc r) none = (apart (refused (suc r)) done (λ e. omega arith), (λ h. none))
  done-leaves zero none = ((λ e. refl), (λ h. absurd (h refl)))

module _ (p : Parameters) (f : Profile) (J₁ J₂ : Counted) (M : Message) where
  -- the instances, the second with what is fresh repeated, and what the message stands for
  abbrev I₁ : Instance
  I₁ = J₁.instance

  abbrev R₂ : Instance
  R₂ = repeated_instance p f J₂.instance

  abbrev R : Matrices
  R = meant p f M

  -- the three tests
  abbrev diagonals : Bool
  diagonals = diagonals_hold p I₁ R₂

  abbrev first : Bool
  first = first_holds p I₁ R₂ R

  abbrev second : Bool
  second = second_holds p I₁ R₂ R

  first_iff : T first ↔ FirstEquation p I₁ R₂ R
  unfolding first_holds
  first_iff = equal_iff _ _ _ _

  second_iff : T second ↔ SecondEquation p I₁ R₂ R
  unfolding second_holds
  second_iff = equal-words_iff _ _ _ _

  module _ (C : List ℕ) (out : Instance) where
    -- what the outputs are without a yes, and with one
    abbrev before : Counted
    before = counted out 0

    abbrev after : Counted
    after = counted (folded_instance p R C) (J₁.leaves + J₂.leaves)

    -- what the verdict ends with where no rule applies
    abbrev result : Outcome Counted
    result = verdict_by diagonals first second before after

    pub verdict-ended : Ended (judged_in p f J₁ J₂ M C out).answer
    unfolding judged
    verdict-ended r e = answer-ended norm «yes» norm-second yes_fourth diagonals first second r (sym (verdict-word before after diagonals first second) ∙ e)

    -- whenever the answer is not yes, T' and D' are what they were and the leaf count is 0; where it is, they are the folded
    -- instance and the count is the sum
    pub verdict-outputs : (verdict_in p f J₁ J₂ M C out ≡ ends «yes» after) ⊎ ((verdict_in p f J₁ J₂ M C out).outputs ≡ before)
    unfolding verdict_in verdict_as judged
    verdict-outputs = go (untouched before _ (first_of (after_setting p (verdict_rules p f J₁ J₂ M C out))))
      where
        go : (verdict_in p f J₁ J₂ M C out ≡ result) ⊎ ((verdict_in p f J₁ J₂ M C out).outputs ≡ before)
            → (verdict_in p f J₁ J₂ M C out ≡ ends «yes» after) ⊎ ((verdict_in p f J₁ J₂ M C out).outputs ≡ before)
        go (inl e) = rw e (outputs-by before after diagonals first second)
        go (inr e) = inr e

    pub verdict-leaves : CountsOn «yes» (J₁.leaves + J₂.leaves) (verdict_in p f J₁ J₂ M C out)
    unfolding verdict_in verdict_as judged
    verdict-leaves = leaves_by before after diagonals first second (first_of (after_setting p (verdict_rules p f J₁ J₂ M C out))) refl

    module _ (proper : ProperVerdict p f J₁ J₂ M C out) where
      says : (verdict_in p f J₁ J₂ M C out).answer ≡ answer_by norm «yes» diagonals first second
      unfolding verdict_in verdict_as judged
      says =
          ap (λ (o : Outcome Counted). o.answer) (ends_so before _ _ ((verdict-proper p f J₁ J₂ M C out).1 proper))
          ∙ verdict-word before after diagonals first second

      pub yes_exactly : ((verdict_in p f J₁ J₂ M C out).answer ≡ «yes») ↔ (Diagonals p I₁ R₂ × FirstEquation p I₁ R₂ R × SecondEquation p I₁ R₂ R)
      yes_exactly = rw says (none-fails norm «yes» norm-second yes_fourth diagonals first second (diagonals_iff p I₁ R₂) first_iff second_iff)

      pub long-exactly : ((verdict_in p f J₁ J₂ M C out).answer ≡ long) ↔ (Diagonals p I₁ R₂ → ⊥)
      long-exactly = rw says (first-fails norm «yes» norm-second yes_fourth diagonals first second (diagonals_iff p I₁ R₂))

      pub norm-exactly : ((verdict_in p f J₁ J₂ M C out).answer ≡ norm) ↔ (Diagonals p I₁ R₂ × (FirstEquation p I₁ R₂ R → ⊥))
      norm-exactly = rw says (second-fails norm «yes» norm-second yes_fourth diagonals first second (diagonals_iff p I₁ R₂) first_iff)

      pub commitment-exactly : ((verdict_in p f J₁ J₂ M C out).answer ≡ commitment) ↔ (Diagonals p I₁ R₂ × FirstEquation p I₁ R₂ R × (SecondEquation p I₁ R₂ R → ⊥))
      commitment-exactly = rw says (third-fails norm «yes» norm-second yes_fourth diagonals first second (diagonals_iff p I₁ R₂) first_iff second_iff)

-- ---- the relation test

module _ (p : Parameters) (A : List ℕ) (I : Instance) (S : List ℤ) where
  -- the other two tests
  abbrev products_are : Bool
  products_are = products_hold p I S

  abbrev commitment_is : Bool
  commitment_is = commitment_holds p A I S

  products_iff : T products_are ↔ ProductsAgree p A I S
  unfolding products_hold
  products_iff = equal_iff _ _ _ _

  commitment_iff : T commitment_is ↔ CommitmentAgrees p A I S
  unfolding commitment_holds
  commitment_iff = equal-words_iff _ _ _ _

  pub relation-ended : Ended (member_word (short p S) products_are commitment_is)
  unfolding member_word
  relation-ended = answer-ended products member products-second member-fourth (short p S) products_are commitment_is

  -- document 01's three clauses are the paper's: where D is S-transposed S, its diagonal is the columns' squared lengths
  pub related_iff : (Short p S × ProductsAgree p A I S × CommitmentAgrees p A I S) ↔ Related p A I S
  related_iff = (
    (λ h. record {
      commitment = h.2;
      products = λ i j hi hj. sym (h.1 i j hi hj);
      norm = λ i hi. rw (← h.1 i i hi hi, gram-diagonal p.m ((matrix_S p).read S) i) (record { le = le→leb _ _ (h.0 i hi) });
    }),
    (λ r. (
      (λ j hj. diagonal j hj (r.products j j hj hj) (r.norm j hj)),
      (λ i j hi hj. sym (r.products i j hi hj)),
      r.commitment,
    )),
  )
    where
      diagonal : (j : ℕ) → j < p.t → (matrix_D p).read I.D j j ≡ gram p.m ((matrix_S p).read S) j j → (matrix_D p).read I.D j j ≤ℤ pos p.bound → squared_length p.m ((matrix_S p).read S) j ≤ p.bound
      diagonal j hj e h = leb→le _ _ (subst (λ (z : ℤ). z ≤ℤ pos p.bound) (e ∙ gram-diagonal p.m ((matrix_S p).read S) j) h).le

  module _ (proper : ProperRelation p A I S) where
    answers : (relation p A I S).answer ≡ answer_by products member (short p S) products_are commitment_is
    unfolding relation member_word
    answers = ap (λ (o : Outcome (Unit {0})). o.answer) (ends_so tt _ _ ((relation-proper p A I S).1 proper))

    -- member if and only if relation (1) holds
    pub member-exactly : ((relation p A I S).answer ≡ member) ↔ Related p A I S
    member-exactly = rw answers (
        let b = none-fails products member products-second member-fourth (short p S) products_are commitment_is (short_iff p General S) products_iff commitment_iff in
        ((λ e. related_iff.0 (b.0 e)), (λ r. b.1 (related_iff.1 r)))
        )

    pub relation-long-exactly : ((relation p A I S).answer ≡ long) ↔ (Short p S → ⊥)
    relation-long-exactly = rw answers (first-fails products member products-second member-fourth (short p S) products_are commitment_is (short_iff p General S))

    pub products-exactly : ((relation p A I S).answer ≡ products) ↔ (Short p S × (ProductsAgree p A I S → ⊥))
    products-exactly = rw answers (second-fails products member products-second member-fourth (short p S) products_are commitment_is (short_iff p General S) products_iff)

    pub relation-commitment-exactly : ((relation p A I S).answer ≡ commitment) ↔ (Short p S × ProductsAgree p A I S × (CommitmentAgrees p A I S → ⊥))
    relation-commitment-exactly = rw answers (third-fails products member products-second member-fourth (short p S) products_are commitment_is (short_iff p General S) products_iff commitment_iff)
