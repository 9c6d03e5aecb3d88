-- What the library promises, in one place. These are theorems about the definitions of specs/, and each operation's contract is
-- the equation with the same definition, for all inputs.
use mathlib.Core.Path.{◌≡◌, refl, ap}
use mathlib.Core.Logic.{◌↔◌, ◌⊎◌, ◌≢◌}
use mathlib.Core.Bool.{cond}
use mathlib.Core.List.{List}
use Prim.Native.Nat.{ℕ, ◌+◌, ◌*◌, ◌/◌, ◌%◌, ◌<◌, ◌≤◌}
use native.Mathlib.Omega.{arith}
use lib.Dec.{leb}
use lib.IntN.{ℤ, pos, nat_abs, ◌-ℤ◌}
use lib.ListN.{length, get_or}
use Rattle.matrices.specs.Matrices.{Agree, Symmetric}
use Rattle.matrices.proofs.Triangles.{mirrored-symmetric, mirrored_bounds}
use Rattle.settings.specs.Settings.{Parameters, h_of, HOf, setting_refusal}
use Rattle.settings.proofs.Accepted.{accepted}
use Rattle.digits.specs.Digits.{step_of, carry_of}
use Rattle.digits.proofs.Steps.{by_arithmetic, by_carry}
use Rattle.lova.specs.Answers.{after_setting, done, «yes», norm, commitment, long, products, member, refused, ends}
use Rattle.lova.specs.declared.Profile.{Profile}
use Rattle.lova.specs.declared.Profile.TheVariants.{General, Fresh}
use Rattle.lova.specs.Stored.{Instance, Counted, counted, most_leaves, Message, Prepared, Witnesses, matrix_A, matrix_D, matrix_S~, columns_of, sent_S~, sent_D~}
use Rattle.lova.specs.Repeats.{repeated_S, repeated_instance, repeated_counted, repeated_message, repeated_V, repeated_S~, repeated_witnesses, repeated_prepared, Matrices, meant, expanded}
use Rattle.lova.specs.Calls.{CommitLengths, RelationLengths, JoinLengths, MessageLengths, VerdictLengths, WitnessLengths, RecomposeLengths, Fits, FitsPrepared, Short, ShortRight, DiagonalWithin, DiagonalLong, Ternary, CountsJoin, Bounded, ShortRecomposed, FollowsRule, Decided, CountsOn, ProperCommit, ProperRelation, ProperJoin, ProperMessage, ProperVerdict, ProperWitness, ProperRecompose}
use Rattle.lova.specs.Tests.{short}
use Rattle.lova.specs.Commit.{commit_rules, instance_in, commit_in}
use Rattle.lova.specs.Relation.{Related, relation_rules, ProductsAgree, CommitmentAgrees, member_word, products_hold, commitment_holds, relation}
use Rattle.lova.specs.Join.{join_rules, joined_instance, join_in}
use Rattle.lova.specs.Message.{message_rules, prepared_in, message_in}
use Rattle.lova.specs.Verdict.{Diagonals, FirstEquation, SecondEquation, verdict_rules_as, verdict_rules, folded_instance, judged_in, verdict_as, verdict_in}
use Rattle.lova.specs.Squares.{square_D~, mirrored_message, mirrored_prepared, square_prepared_in, square_verdict_in}
use Rattle.lova.specs.Witness.{witness_rules, folded_witness, witness_in}
use Rattle.lova.specs.Recompose.{recompose_rules, witnesses_of, recompose_in}
use Rattle.lova.specs.Trees.{Tree, leaves_of, Proper, seen, view_of, Held, HeldFits, Honest}
use Rattle.lova.proofs.Tests.{long_iff}
use Rattle.lova.proofs.Refusals as Refusals
use Rattle.lova.proofs.Refusals.{refused-by, done-ended, decides, commit-proper, relation-proper, join-proper, message-proper, verdict-proper, witness-proper, recompose-proper}
use Rattle.lova.proofs.Exact as Exact
use Rattle.lova.proofs.FreshOutcomes as FreshOutcomes
use Rattle.lova.proofs.Mirrored as Mirrored
use Rattle.lova.proofs.Mirrored.{meant-symmetric, first-symmetric}
use Rattle.lova.proofs.Honest.{honest, lent}
use Rattle.lova.proofs.Undone as Undone

via : {A B C : Type 0} → A ↔ B → B ↔ C → A ↔ C
via f g = ((λ x. g.0 (f.0 x)), (λ x. f.1 (g.1 x)))

module _ (p : Parameters) (f : Profile) where
  -- ---- demand 1: a proper call ends with its whole answer, every other is refused with the first number that applies

  pub commit_decided : (A : List ℕ) (S : List ℤ) (out : Instance)
      → Decided (commit_in p f A S out) (counted out 0) (ends done (counted (instance_in p f A S) 1)) (after_setting p (commit_rules p f A S out)) (ProperCommit p f A S out)
  unfolding commit_in commit_rules
  commit_decided A S out = decides (counted out 0) _ _ _ tt done-ended (commit-proper p f A S out)

  pub join_decided : (J₁ J₂ : Counted) («V» : List ℤ) (out : Instance)
      → Decided (join_in p f J₁ J₂ «V» out) (counted out 0) (ends done (counted (joined_instance p J₁.instance (repeated_instance p f J₂.instance) (repeated_V p f «V»)) (J₁.leaves + J₂.leaves)))
      (after_setting p (join_rules p f J₁ J₂ «V» out)) (ProperJoin p f J₁ J₂ «V» out)
  unfolding join_in join_rules
  join_decided J₁ J₂ «V» out = decides (counted out 0) _ _ _ tt done-ended (join-proper p f J₁ J₂ «V» out)

  pub message_decided : (A : List ℕ) (S₁ S₂ : List ℤ) (out : Prepared)
      → Decided (message_in p f A S₁ S₂ out) out (ends done (prepared_in p f A S₁ S₂)) (after_setting p (message_rules p f A S₁ S₂ out)) (ProperMessage p f A S₁ S₂ out)
  unfolding message_in message_rules
  message_decided A S₁ S₂ out = decides out _ _ _ tt done-ended (message-proper p f A S₁ S₂ out)

  pub verdict_decided : (J₁ J₂ : Counted) (M : Message) (C : List ℕ) (out : Instance)
      → Decided (verdict_in p f J₁ J₂ M C out) (counted out 0) (judged_in p f J₁ J₂ M C out)
      (after_setting p (verdict_rules p f J₁ J₂ M C out)) (ProperVerdict p f J₁ J₂ M C out)
  unfolding verdict_in verdict_as verdict_rules_as
  verdict_decided J₁ J₂ M C out = decides (counted out 0) _ _ _ tt (Exact.verdict-ended p f J₁ J₂ M C out) (verdict-proper p f J₁ J₂ M C out)

  pub witness_decided : (S~ : List ℤ) (C : List ℕ) (out : List ℤ)
      → Decided (witness_in p f S~ C out) out (ends done (folded_witness p ((matrix_S~ p).read (repeated_S~ p f S~)) C)) (after_setting p (witness_rules p f S~ C out)) (ProperWitness p f S~ C out)
  unfolding witness_in witness_rules
  witness_decided S~ C out = decides out _ _ _ tt done-ended (witness-proper p f S~ C out)

  pub recompose_decided : (S~ : List ℤ) (out : Witnesses)
      → Decided (recompose_in p f S~ out) out (ends done (witnesses_of p f S~)) (after_setting p (recompose_rules p f S~ out)) (ProperRecompose p f S~ out)
  unfolding recompose_in recompose_rules
  recompose_decided S~ out = decides out _ _ _ tt done-ended (recompose-proper p f S~ out)

  -- ---- demand 1: each number of an operation's own, in the order of document 01. A refused setting gives its own number before these

  pub commit_7 : (A : List ℕ) (S : List ℤ) (out : Instance) → ((commit_in p f A S out).answer ≡ refused 7) ↔ ((setting_refusal p ≡ 0) × (CommitLengths p f A S out → ⊥))
  unfolding commit_in
  commit_7 A S out = via (refused-by (counted out 0) _ done-ended _ 7 (λ z. omega arith)) (Refusals.commit_7 p f A S out)

  pub commit_8 : (A : List ℕ) (S : List ℤ) (out : Instance) → ((commit_in p f A S out).answer ≡ refused 8) ↔ ((setting_refusal p ≡ 0) × CommitLengths p f A S out × (ShortRight p f S → ⊥))
  unfolding commit_in
  commit_8 A S out = via (refused-by (counted out 0) _ done-ended _ 8 (λ z. omega arith)) (Refusals.commit_8 p f A S out)

  pub join_7 : (J₁ J₂ : Counted) («V» : List ℤ) (out : Instance) → ((join_in p f J₁ J₂ «V» out).answer ≡ refused 7) ↔ ((setting_refusal p ≡ 0) × (JoinLengths p f J₁.instance J₂.instance «V» out → ⊥))
  unfolding join_in
  join_7 J₁ J₂ «V» out = via (refused-by (counted out 0) _ done-ended _ 7 (λ z. omega arith)) (Refusals.join_7 p f J₁ J₂ «V» out)

  pub join_15 : (J₁ J₂ : Counted) («V» : List ℤ) (out : Instance) → ((join_in p f J₁ J₂ «V» out).answer ≡ refused 15) ↔ ((setting_refusal p ≡ 0) × JoinLengths p f J₁.instance J₂.instance «V» out × (CountsJoin J₁.leaves J₂.leaves → ⊥))
  unfolding join_in
  join_15 J₁ J₂ «V» out = via (refused-by (counted out 0) _ done-ended _ 15 (λ z. omega arith)) (Refusals.join_15 p f J₁ J₂ «V» out)

  pub message_7 : (A : List ℕ) (S₁ S₂ : List ℤ) (out : Prepared) → ((message_in p f A S₁ S₂ out).answer ≡ refused 7) ↔ ((setting_refusal p ≡ 0) × (MessageLengths p f A S₁ S₂ out → ⊥))
  unfolding message_in
  message_7 A S₁ S₂ out = via (refused-by out _ done-ended _ 7 (λ z. omega arith)) (Refusals.message_7 p f A S₁ S₂ out)

  pub message_8 : (A : List ℕ) (S₁ S₂ : List ℤ) (out : Prepared) → ((message_in p f A S₁ S₂ out).answer ≡ refused 8) ↔ ((setting_refusal p ≡ 0) × MessageLengths p f A S₁ S₂ out × ((Short p S₁ × ShortRight p f S₂) → ⊥))
  unfolding message_in
  message_8 A S₁ S₂ out = via (refused-by out _ done-ended _ 8 (λ z. omega arith)) (Refusals.message_8 p f A S₁ S₂ out)

  pub verdict_7 : (J₁ J₂ : Counted) (M : Message) (C : List ℕ) (out : Instance) → ((verdict_in p f J₁ J₂ M C out).answer ≡ refused 7) ↔ ((setting_refusal p ≡ 0) × (VerdictLengths p f J₁.instance J₂.instance M C out → ⊥))
  unfolding verdict_in verdict_as
  verdict_7 J₁ J₂ M C out = via (refused-by (counted out 0) _ (Exact.verdict-ended p f J₁ J₂ M C out) _ 7 (λ z. omega arith)) (Refusals.verdict_7 p f J₁ J₂ M C out)

  pub verdict_15 : (J₁ J₂ : Counted) (M : Message) (C : List ℕ) (out : Instance) → ((verdict_in p f J₁ J₂ M C out).answer ≡ refused 15) ↔ ((setting_refusal p ≡ 0) × VerdictLengths p f J₁.instance J₂.instance M C out × (CountsJoin J₁.leaves J₂.leaves → ⊥))
  unfolding verdict_in verdict_as
  verdict_15 J₁ J₂ M C out = via (refused-by (counted out 0) _ (Exact.verdict-ended p f J₁ J₂ M C out) _ 15 (λ z. omega arith)) (Refusals.verdict_15 p f J₁ J₂ M C out)

  pub verdict_9 : (J₁ J₂ : Counted) (M : Message) (C : List ℕ) (out : Instance) → ((verdict_in p f J₁ J₂ M C out).answer ≡ refused 9) ↔ ((setting_refusal p ≡ 0) × VerdictLengths p f J₁.instance J₂.instance M C out × CountsJoin J₁.leaves J₂.leaves × (Ternary p C → ⊥))
  unfolding verdict_in verdict_as
  verdict_9 J₁ J₂ M C out = via (refused-by (counted out 0) _ (Exact.verdict-ended p f J₁ J₂ M C out) _ 9 (λ z. omega arith)) (Refusals.verdict_9 p f J₁ J₂ M C out)

  pub verdict_10 : (J₁ J₂ : Counted) (M : Message) (C : List ℕ) (out : Instance) → ((verdict_in p f J₁ J₂ M C out).answer ≡ refused 10) ↔ ((setting_refusal p ≡ 0) × VerdictLengths p f J₁.instance J₂.instance M C out × CountsJoin J₁.leaves J₂.leaves × Ternary p C × (Bounded (columns_of p f) (columns_of p f) (HOf p) ((sent_D~ p f).read M.D~) → ⊥))
  unfolding verdict_in verdict_as
  verdict_10 J₁ J₂ M C out = via (refused-by (counted out 0) _ (Exact.verdict-ended p f J₁ J₂ M C out) _ 10 (λ z. omega arith)) (Refusals.verdict_10 p f J₁ J₂ M C out)

  pub witness_7 : (S~ : List ℤ) (C : List ℕ) (out : List ℤ) → ((witness_in p f S~ C out).answer ≡ refused 7) ↔ ((setting_refusal p ≡ 0) × (WitnessLengths p f S~ C out → ⊥))
  unfolding witness_in
  witness_7 S~ C out = via (refused-by out _ done-ended _ 7 (λ z. omega arith)) (Refusals.witness_7 p f S~ C out)

  pub witness_9 : (S~ : List ℤ) (C : List ℕ) (out : List ℤ) → ((witness_in p f S~ C out).answer ≡ refused 9) ↔ ((setting_refusal p ≡ 0) × WitnessLengths p f S~ C out × (Ternary p C → ⊥))
  unfolding witness_in
  witness_9 S~ C out = via (refused-by out _ done-ended _ 9 (λ z. omega arith)) (Refusals.witness_9 p f S~ C out)

  pub witness_11 : (S~ : List ℤ) (C : List ℕ) (out : List ℤ) → ((witness_in p f S~ C out).answer ≡ refused 11) ↔ ((setting_refusal p ≡ 0) × WitnessLengths p f S~ C out × Ternary p C × (Bounded p.m (columns_of p f) (h_of p) ((sent_S~ p f).read S~) → ⊥))
  unfolding witness_in
  witness_11 S~ C out = via (refused-by out _ done-ended _ 11 (λ z. omega arith)) (Refusals.witness_11 p f S~ C out)

  pub recompose_7 : (S~ : List ℤ) (out : Witnesses) → ((recompose_in p f S~ out).answer ≡ refused 7) ↔ ((setting_refusal p ≡ 0) × (RecomposeLengths p f S~ out → ⊥))
  unfolding recompose_in
  recompose_7 S~ out = via (refused-by out _ done-ended _ 7 (λ z. omega arith)) (Refusals.recompose_7 p f S~ out)

  pub recompose_11 : (S~ : List ℤ) (out : Witnesses) → ((recompose_in p f S~ out).answer ≡ refused 11) ↔ ((setting_refusal p ≡ 0) × RecomposeLengths p f S~ out × (Bounded p.m (columns_of p f) (h_of p) ((sent_S~ p f).read S~) → ⊥))
  unfolding recompose_in
  recompose_11 S~ out = via (refused-by out _ done-ended _ 11 (λ z. omega arith)) (Refusals.recompose_11 p f S~ out)

  pub recompose_8 : (S~ : List ℤ) (out : Witnesses) → ((recompose_in p f S~ out).answer ≡ refused 8) ↔ ((setting_refusal p ≡ 0) × RecomposeLengths p f S~ out × Bounded p.m (columns_of p f) (h_of p) ((sent_S~ p f).read S~) × (ShortRecomposed p f S~ → ⊥))
  unfolding recompose_in
  recompose_8 S~ out = via (refused-by out _ done-ended _ 8 (λ z. omega arith)) (Refusals.recompose_8 p f S~ out)

  pub recompose_16 : (S~ : List ℤ) (out : Witnesses) → ((recompose_in p f S~ out).answer ≡ refused 16) ↔ ((setting_refusal p ≡ 0) × RecomposeLengths p f S~ out × Bounded p.m (columns_of p f) (h_of p) ((sent_S~ p f).read S~) × ShortRecomposed p f S~ × (FollowsRule p f S~ → ⊥))
  unfolding recompose_in
  recompose_16 S~ out = via (refused-by out _ done-ended _ 16 (λ z. omega arith)) (Refusals.recompose_16 p f S~ out)

  -- ---- demand 2: the verdict on a message from anyone, for a proper call

  module _ (J₁ J₂ : Counted) (M : Message) (C : List ℕ) (out : Instance) where
    -- the two instances, all that is fresh repeated, and what the message stands for
    abbrev I₁ : Instance
    I₁ = J₁.instance

    abbrev R₂ : Instance
    R₂ = repeated_instance p f J₂.instance

    abbrev R : Matrices
    R = meant p f M

    -- whenever the answer is not yes, T' and D' are what they were and the leaf count is 0; where it is yes, they are the folded
    -- instance and the count is the sum
    pub verdict_writes : (verdict_in p f J₁ J₂ M C out ≡ ends «yes» (counted (folded_instance p R C) (J₁.leaves + J₂.leaves))) ⊎ ((verdict_in p f J₁ J₂ M C out).outputs ≡ counted out 0)
    verdict_writes = Exact.verdict-outputs p f J₁ J₂ M C out

    -- request 5: the count is the sum with a yes, and 0 without
    pub verdict-leaves : CountsOn «yes» (J₁.leaves + J₂.leaves) (verdict_in p f J₁ J₂ M C out)
    verdict-leaves = Exact.verdict-leaves p f J₁ J₂ M C out

    module _ (proper : ProperVerdict p f J₁ J₂ M C out) where
      -- yes if and only if the diagonals are within B and both equations hold
      pub verdict_yes : ((verdict_in p f J₁ J₂ M C out).answer ≡ «yes») ↔ (Diagonals p I₁ R₂ × FirstEquation p I₁ R₂ R × SecondEquation p I₁ R₂ R)
      verdict_yes = Exact.yes_exactly p f J₁ J₂ M C out proper

      -- long if and only if they are not, that is, if and only if a diagonal entry of D1 or D2 exceeds B
      pub verdict-long : ((verdict_in p f J₁ J₂ M C out).answer ≡ long) ↔ (Diagonals p I₁ R₂ → ⊥)
      verdict-long = Exact.long-exactly p f J₁ J₂ M C out proper

      pub verdict-long-entry : ((verdict_in p f J₁ J₂ M C out).answer ≡ long) ↔ (DiagonalLong p I₁.D ⊎ DiagonalLong p R₂.D)
      verdict-long-entry = via verdict-long (long_iff p I₁ R₂)

      -- norm if and only if the diagonals are within B and the first equation fails
      pub verdict-norm : ((verdict_in p f J₁ J₂ M C out).answer ≡ norm) ↔ (Diagonals p I₁ R₂ × (FirstEquation p I₁ R₂ R → ⊥))
      verdict-norm = Exact.norm-exactly p f J₁ J₂ M C out proper

      -- commitment if and only if only the second fails
      pub verdict-commitment : ((verdict_in p f J₁ J₂ M C out).answer ≡ commitment) ↔ (Diagonals p I₁ R₂ × FirstEquation p I₁ R₂ R × (SecondEquation p I₁ R₂ R → ⊥))
      verdict-commitment = Exact.commitment-exactly p f J₁ J₂ M C out proper

      -- instances that have witnesses in relation (1) are never long
      pub related-never-long : (A : List ℕ) (S₁ S₂ : List ℤ) → Related p A I₁ S₁ → Related p A R₂ S₂ → (verdict_in p f J₁ J₂ M C out).answer ≢ long
      related-never-long A S₁ S₂ r₁ r₂ e = verdict-long.0 e (r₁.norm, r₂.norm)

  -- ---- request 5: the leaf count is 1 from commit and the sum from join

  pub commit-leaves : (A : List ℕ) (S : List ℤ) (out : Instance) → CountsOn done 1 (commit_in p f A S out)
  unfolding commit_in
  commit-leaves A S out = Exact.done-leaves (counted out 0) (counted (instance_in p f A S) 1) _ refl

  pub join-leaves : (J₁ J₂ : Counted) («V» : List ℤ) (out : Instance) → CountsOn done (J₁.leaves + J₂.leaves) (join_in p f J₁ J₂ «V» out)
  unfolding join_in
  join-leaves J₁ J₂ «V» out = Exact.done-leaves (counted out 0) (counted (joined_instance p J₁.instance (repeated_instance p f J₂.instance) (repeated_V p f «V»)) (J₁.leaves + J₂.leaves)) _ refl

-- ---- request 2: each outcome of a fresh call is the general call's, with all that is fresh repeated t times

module _ (p : Parameters) where
  pub commit_repeats : (A : List ℕ) (v : List ℤ) (out : Instance) → CommitLengths p Fresh A v out
      → expanded (repeated_counted p Fresh) (commit_in p Fresh A v out) ≡ commit_in p General A (repeated_S p Fresh v) (repeated_instance p Fresh out)
  commit_repeats A v out lengths = FreshOutcomes.commit_repeats p A v out lengths

  pub join_repeats : (J₁ J₂ : Counted) («V» : List ℤ) (out : Instance) → JoinLengths p Fresh J₁.instance J₂.instance «V» out
      → join_in p Fresh J₁ J₂ «V» out ≡ join_in p General J₁ (repeated_counted p Fresh J₂) (repeated_V p Fresh «V») out
  join_repeats J₁ J₂ «V» out lengths = FreshOutcomes.join_repeats p J₁ J₂ «V» out lengths

  pub message_repeats : (A : List ℕ) (S₁ v : List ℤ) (out : Prepared) → MessageLengths p Fresh A S₁ v out
      → expanded (repeated_prepared p Fresh) (message_in p Fresh A S₁ v out) ≡ message_in p General A S₁ (repeated_S p Fresh v) (repeated_prepared p Fresh out)
  message_repeats A S₁ v out lengths = FreshOutcomes.message_repeats p A S₁ v out lengths

  pub verdict_repeats : (J₁ J₂ : Counted) (M : Message) (C : List ℕ) (out : Instance) → VerdictLengths p Fresh J₁.instance J₂.instance M C out
      → verdict_in p Fresh J₁ J₂ M C out ≡ verdict_in p General J₁ (repeated_counted p Fresh J₂) (repeated_message p Fresh M) C out
  verdict_repeats J₁ J₂ M C out lengths = FreshOutcomes.verdict_repeats p J₁ J₂ M C out lengths

  pub witness_repeats : (S~ : List ℤ) (C : List ℕ) (out : List ℤ) → WitnessLengths p Fresh S~ C out
      → witness_in p Fresh S~ C out ≡ witness_in p General (repeated_S~ p Fresh S~) C out
  witness_repeats S~ C out lengths = FreshOutcomes.witness_repeats p S~ C out lengths

  pub recompose_repeats : (S~ : List ℤ) (out : Witnesses) → RecomposeLengths p Fresh S~ out
      → expanded (repeated_witnesses p Fresh) (recompose_in p Fresh S~ out) ≡ recompose_in p General (repeated_S~ p Fresh S~) (repeated_witnesses p Fresh out)
  recompose_repeats S~ out lengths = FreshOutcomes.recompose_repeats p S~ out lengths

-- ---- request 3: D~ as a lower triangle is equal to the square form

module _ (p : Parameters) (f : Profile) where
  -- the verdict on a triangle is the verdict on its mirrored square, whatever else is lent: the answer, the refusals and the outputs
  pub verdict-mirrored : (J₁ J₂ : Counted) (M : Message) (C : List ℕ) (out : Instance) → Fits (sent_D~ p f) M.D~
      → verdict_in p f J₁ J₂ M C out ≡ square_verdict_in p f J₁ J₂ (mirrored_message p f M) C out
  verdict-mirrored J₁ J₂ M C out fits = Mirrored.verdict-mirrored p f J₁ J₂ M C out fits

  -- honest messages correspond: as a whole, and D~ entry by entry
  pub messages_correspond : (A : List ℕ) (S₁ S₂ : List ℤ) → mirrored_prepared p f (prepared_in p f A S₁ S₂) ≡ square_prepared_in p f A S₁ S₂
  messages_correspond A S₁ S₂ = Mirrored.messages_correspond p f A S₁ S₂

  pub entries_correspond : (A : List ℕ) (S₁ S₂ : List ℤ)
      → Agree (columns_of p f) (columns_of p f) ((sent_D~ p f).read (prepared_in p f A S₁ S₂).message.D~) ((square_D~ p f).read (square_prepared_in p f A S₁ S₂).message.D~)
  entries_correspond A S₁ S₂ = Mirrored.entries_correspond p f A S₁ S₂

  -- a message's D~ is always symmetric
  pub D~-symmetric : (M : Message) (i j : ℕ) → (sent_D~ p f).read M.D~ i j ≡ (sent_D~ p f).read M.D~ j i
  D~-symmetric M i j = mirrored-symmetric M.D~ i j

  -- 10 over the stored entries is 10 over the square
  pub stored_bounds : (D : List ℤ) → Fits (sent_D~ p f) D
      → Bounded (columns_of p f) (columns_of p f) (HOf p) ((sent_D~ p f).read D) ↔ ((x : ℕ) → x < length D → nat_abs (get_or D x (pos 0)) ≤ HOf p)
  stored_bounds D fits = rw fits (mirrored_bounds (columns_of p f) (HOf p) D)

  -- so where D1 or D2 is not symmetric, and no diagonal entry exceeds B, the answer is norm
  pub unsymmetric_is-norm : (J₁ J₂ : Counted) (M : Message) (C : List ℕ) (out : Instance) → ProperVerdict p f J₁ J₂ M C out → Diagonals p J₁.instance (repeated_instance p f J₂.instance)
      → ((Symmetric p.t ((matrix_D p).read J₁.instance.D) × Symmetric p.t ((matrix_D p).read (repeated_instance p f J₂.instance).D)) → ⊥)
      → (verdict_in p f J₁ J₂ M C out).answer ≡ norm
  unsymmetric_is-norm J₁ J₂ M C out proper within uneven =
      (Exact.norm-exactly p f J₁ J₂ M C out proper).1 (within, λ first. uneven (first-symmetric p J₁.instance (repeated_instance p f J₂.instance) (meant p f M) (meant-symmetric p f M) first))

-- ---- request 4: the digit and what the rule adds, by arithmetic

module _ (p : Parameters) (ok : setting_refusal p ≡ 0) where
  -- for every accepted b and every d below b: the carry is the 1 that the rule adds, or 0, and d less b times the carry is the rule's digit
  pub digit_by_arithmetic : (d : ℕ) → d < p.b
      → (carry_of p.b d ≡ cond (leb d (h_of p)) 0 1) × (pos d -ℤ pos (p.b * carry_of p.b d) ≡ cond (leb d (h_of p)) (pos d) (pos d -ℤ pos p.b))
  digit_by_arithmetic d below = by_arithmetic p.b d (accepted p ok).b-low below

  -- so the rule's step for a size w, with d = w modulo b
  pub step-by_arithmetic : (w : ℕ)
      → step_of p.b w ≡ record { digit = pos (w % p.b) -ℤ pos (p.b * carry_of p.b (w % p.b)); rest = w / p.b + carry_of p.b (w % p.b) }
  step-by_arithmetic w = by_carry p.b w (accepted p ok).b-low

-- ---- request 6: recomposition succeeds exactly on digit witnesses that the message operation can produce, and undoes it

module _ (p : Parameters) (f : Profile) where
  -- it is done if and only if S~ is what message gives for some S1 and S2 (or v), which message takes only within B; whatever A is
  pub recompose-exactly : (A : List ℕ) (S~ : List ℤ) (out : Witnesses) (before : Prepared)
      → RecomposeLengths p f S~ out → Fits (matrix_A p) A → FitsPrepared p f before
      → ((recompose_in p f S~ out).answer ≡ done)
      ↔ ((S₁ : List ℤ) × (S₂ : List ℤ) × ((message_in p f A S₁ S₂ before).answer ≡ done) × ((message_in p f A S₁ S₂ before).outputs.S~ ≡ S~))
  recompose-exactly A S~ out before lengths size_A fits = Undone.exactly p f A S~ out before lengths size_A fits

  -- of what message gives for S1 and S2 (or v) it gives these back
  pub recompose-undoes : (A : List ℕ) (S₁ S₂ : List ℤ) (before : Prepared) (out : Witnesses)
      → ProperMessage p f A S₁ S₂ before → RecomposeLengths p f (message_in p f A S₁ S₂ before).outputs.S~ out
      → recompose_in p f (message_in p f A S₁ S₂ before).outputs.S~ out ≡ ends done (record { S₁ = S₁; S₂ = S₂ })
  recompose-undoes A S₁ S₂ before out proper lengths = Undone.undoes p f A S₁ S₂ before out proper lengths

  -- and of what it gives for S~, message gives S~ again
  pub recompose-returns : (A : List ℕ) (S~ : List ℤ) (out : Witnesses) (before : Prepared)
      → ProperRecompose p f S~ out → Fits (matrix_A p) A → FitsPrepared p f before
      → (message_in p f A (witnesses_of p f S~).S₁ (witnesses_of p f S~).S₂ before).outputs.S~ ≡ S~
  recompose-returns A S~ out before proper size_A fits = Undone.returns p f A S~ out before size_A fits proper

-- ---- the relation test and the trees

module _ (p : Parameters) where
  pub relation_decided : (A : List ℕ) (I : Instance) (S : List ℤ)
      → Decided (relation p A I S) tt (ends (member_word (short p S) (products_hold p I S) (commitment_holds p A I S)) tt) (after_setting p (relation_rules p A I S)) (ProperRelation p A I S)
  unfolding relation relation_rules
  relation_decided A I S = decides tt _ _ _ tt (Exact.relation-ended p A I S) (relation-proper p A I S)

  pub relation_7 : (A : List ℕ) (I : Instance) (S : List ℤ) → ((relation p A I S).answer ≡ refused 7) ↔ ((setting_refusal p ≡ 0) × (RelationLengths p A I S → ⊥))
  unfolding relation
  relation_7 A I S = via (refused-by tt _ (Exact.relation-ended p A I S) _ 7 (λ z. omega arith)) (Refusals.relation_7 p A I S)

  -- ---- demand 2: the relation test, for a proper call

  module _ (A : List ℕ) (I : Instance) (S : List ℤ) (proper : ProperRelation p A I S) where
    -- member if and only if the paper's relation (1) holds
    pub relation-member : ((relation p A I S).answer ≡ member) ↔ Related p A I S
    relation-member = Exact.member-exactly p A I S proper

    -- long if and only if a column is above B
    pub relation-long : ((relation p A I S).answer ≡ long) ↔ (Short p S → ⊥)
    relation-long = Exact.relation-long-exactly p A I S proper

    -- products if and only if no column is, and S-transposed S is not D
    pub relation-products : ((relation p A I S).answer ≡ products) ↔ (Short p S × (ProductsAgree p A I S → ⊥))
    relation-products = Exact.products-exactly p A I S proper

    -- commitment if and only if only A S is not T
    pub relation-commitment : ((relation p A I S).answer ≡ commitment) ↔ (Short p S × ProductsAgree p A I S × (CommitmentAgrees p A I S → ⊥))
    relation-commitment = Exact.relation-commitment-exactly p A I S proper

  -- relation (1) bounds the diagonal by B, as the verdict does
  pub related-within : (A : List ℕ) (I : Instance) (S : List ℤ) → Related p A I S → DiagonalWithin p I.D
  related-within A I S r = r.norm

  -- ---- demand 3: every honest tree of folds

  -- for every tree of short leaf witnesses and ternary challenges with at most 2^32 − 1 leaves, whatever the lent outputs of its
  -- calls held before
  pub every-tree-is-honest : (A : List ℕ) (t : Tree) (held : Held t) → setting_refusal p ≡ 0 → Fits (matrix_A p) A → Proper p t → leaves_of t ≤ most_leaves → HeldFits p t held → Honest p A t held
  every-tree-is-honest A t held ok size_A proper few fits = honest p A ok size_A t held proper few fits

  -- the leaf count that the verifier works out is the number of the tree's leaves
  pub tree-leaves : (A : List ℕ) (t : Tree) (held : Held t) → setting_refusal p ≡ 0 → Fits (matrix_A p) A → Proper p t → leaves_of t ≤ most_leaves → HeldFits p t held → (seen p (view_of p A t held)).leaves ≡ leaves_of t
  tree-leaves A t held ok size_A proper few fits = ap (λ (J : Counted). J.leaves) (honest p A ok size_A t held proper few fits).verifier

  -- such outputs can be lent for every tree, so that this speaks of every tree
  pub outputs_exist : (t : Tree) → (held : Held t) × HeldFits p t held
  outputs_exist t = lent p t
