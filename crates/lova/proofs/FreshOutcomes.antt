-- Each outcome of a fresh call is the general call's, with all that is fresh repeated t times: answers, refusals and outputs.
use mathlib.Core.Path.{◌≡◌, refl, sym, ◌∙◌, ap, ap₂}
use mathlib.Core.Bool.{Bool, true, false, not, ◌&&◌}
use mathlib.Core.Logic.{◌↔◌}
use mathlib.Core.List.{List, [], ◌∷◌}
use Prim.Native.Nat.{ℕ, ◌+◌, zero, suc}
use native.Mathlib.Omega.{arith}
use lib.Dec.{T}
use lib.IntN.{ℤ}
use Rattle.integers.proofs.Tests.{same_test}
use Rattle.matrices.proofs.Tables.{length-table}
use Rattle.matrices.proofs.Triangles.{length-lower}
use Rattle.settings.specs.Rules.{Rule, ◌gives◌, first_of}
use Rattle.settings.specs.Settings.{Parameters, setting_refusal, h_of, HOf}
use Rattle.settings.proofs.Accepted.{accepted}
use Rattle.lova.specs.declared.Profile.TheVariants.{General, Fresh}
use Rattle.lova.specs.Answers.{after_setting, done, Outcome, ends, unless_refused}
use Rattle.lova.specs.Stored.{Instance, Counted, counted, Message, Prepared, Witnesses, columns_of, sent_S~, sent_D~, matrix_S~, matrix_D~}
use Rattle.lova.specs.Tests.{short_right, are_ternary, counts_join, bounded}
use Rattle.lova.specs.Calls.{CommitLengths, JoinLengths, MessageLengths, VerdictLengths, WitnessLengths, RecomposeLengths}
use Rattle.lova.specs.Repeats.{repeated_S, repeated_instance, repeated_counted, repeated_V, repeated_message, repeated_S~, repeated_witnesses, repeated_prepared, expanded, meant}
use Rattle.lova.specs.Commit.{commit_rules, commit_in}
use Rattle.lova.specs.Join.{join_rules, joined_instance, join_in}
use Rattle.lova.specs.Message.{message_rules, message_in}
use Rattle.lova.specs.Verdict.{verdict_rules_as, verdict_rules, verdict_as, verdict_in}
use Rattle.lova.specs.Witness.{witness_rules, folded_witness, witness_in}
use Rattle.lova.specs.Recompose.{short_recomposed, follows_rule, recompose_rules, recompose_in}
use Rattle.lova.proofs.Tests.{short_iff, same-bound, recomposed_iff, rule_iff}
use Rattle.lova.proofs.Refusals.{setting-decides, own-decides, commit_lens, join_lens, message_lens, verdict_lens, witness_lens, recompose_lens}
use Rattle.lova.proofs.FreshRecomposed.{short_repeats, rule_repeats, witnesses_repeat}
use Rattle.lova.proofs.Judged.{judged-same}
use Rattle.lova.proofs.Repeated as Repeated
use Rattle.lova.proofs.BothProfiles as BothProfiles

-- a call whose outputs are made anew
expands : {X Y : Type 0} (g : X → Y) (r : ℕ) (before : X) (result : Outcome X) → expanded g (unless_refused r before result) ≡ unless_refused r (g before) (expanded g result)
unfolding unless_refused
expands g zero before result = refl
expands g (suc r) before result = refl

-- a rule whose test passes is passed over
skips : (c : Bool) (n : ℕ) (rs : List Rule) → T c → first_of ((not c gives n) ∷ rs) ≡ first_of rs
unfolding first_of
skips true n rs h = refl
skips false n rs h = absurd h

-- two tests of what holds alike
same_by : {P Q : Type 0} (a b : Bool) → T a ↔ P → T b ↔ Q → P ↔ Q → a ≡ b
same_by a b f g h = same_test a b (λ x. g.1 (h.0 (f.0 x))) (λ x. f.1 (h.1 (g.0 x)))

-- own rules that agree for an accepted setting give the same number
same_number : (p : Parameters) (own own' : List Rule) → (setting_refusal p ≡ 0 → first_of own ≡ first_of own') → first_of (after_setting p own) ≡ first_of (after_setting p own')
same_number p own own' h = by (setting_refusal p) refl
  where
    by : (r : ℕ) → setting_refusal p ≡ r → first_of (after_setting p own) ≡ first_of (after_setting p own')
    by zero e = own-decides p own e ∙ h e ∙ sym (own-decides p own' e)
    by (suc r) e = let ne : setting_refusal p ≡ 0 → ⊥ = λ z. omega (arith, e, z) in setting-decides p own ne ∙ sym (setting-decides p own' ne)

module _ (p : Parameters) where
  -- 8 for v is 8 for v repeated
  short-same : setting_refusal p ≡ 0 → (v : List ℤ) → short_right p Fresh v ≡ short_right p General (repeated_S p Fresh v)
  short-same ok v =
      let r = Repeated.repeated-short p v (accepted p ok).t-low in
      same_test _ _
      (λ h. (short_iff p General (repeated_S p Fresh v)).1 (r.1 ((short_iff p Fresh v).0 h 0 (omega arith))))
      (λ h. (short_iff p Fresh v).1 (λ j hj. let z : j ≡ 0 = omega arith in rw z (r.0 ((short_iff p General (repeated_S p Fresh v)).0 h))))

  pub commit_repeats : (A : List ℕ) (v : List ℤ) (out : Instance) → CommitLengths p Fresh A v out
      → expanded (repeated_counted p Fresh) (commit_in p Fresh A v out) ≡ commit_in p General A (repeated_S p Fresh v) (repeated_instance p Fresh out)
  unfolding commit_in commit_rules
  commit_repeats A v out l =
      expands (repeated_counted p Fresh) _ (counted out 0) _
      ∙ ap₂ (λ (r : ℕ) (I : Instance). unless_refused r (counted (repeated_instance p Fresh out) 0) (ends done (counted I 1)))
      (same_number p (commit_rules p Fresh A v out) (commit_rules p General A (repeated_S p Fresh v) (repeated_instance p Fresh out)) (λ ok.
      skips (commit_lens p Fresh A v out).test 7 _ ((commit_lens p Fresh A v out).says.1 l)
      ∙ ap (λ (c : Bool). first_of ((not c gives 8) ∷ [])) (short-same ok v)
      ∙ sym (skips (commit_lens p General A (repeated_S p Fresh v) (repeated_instance p Fresh out)).test 7 _
      ((commit_lens p General A (repeated_S p Fresh v) (repeated_instance p Fresh out)).says.1 (l.0, length-table _ _ _, (length-table _ _ _, length-table _ _ _))))))
      (BothProfiles.instance_repeats p A Fresh v)

  pub join_repeats : (J₁ J₂ : Counted) («V» : List ℤ) (out : Instance) → JoinLengths p Fresh J₁.instance J₂.instance «V» out
      → join_in p Fresh J₁ J₂ «V» out ≡ join_in p General J₁ (repeated_counted p Fresh J₂) (repeated_V p Fresh «V») out
  unfolding join_in join_rules
  join_repeats J₁ J₂ «V» out l =
      let I₁ = J₁.instance in
      let R₂ = repeated_instance p Fresh J₂.instance in
      ap (λ (r : ℕ). unless_refused r (counted out 0) (ends done (counted (joined_instance p I₁ R₂ (repeated_V p Fresh «V»)) (J₁.leaves + J₂.leaves))))
      (same_number p (join_rules p Fresh J₁ J₂ «V» out) (join_rules p General J₁ (repeated_counted p Fresh J₂) (repeated_V p Fresh «V») out) (λ ok.
      skips (join_lens p Fresh I₁ J₂.instance «V» out).test 7 _ ((join_lens p Fresh I₁ J₂.instance «V» out).says.1 l)
      ∙ sym (skips (join_lens p General I₁ R₂ (repeated_V p Fresh «V») out).test 7 _
      ((join_lens p General I₁ R₂ (repeated_V p Fresh «V») out).says.1 (l.0, (length-table _ _ _, length-table _ _ _), length-table _ _ _, l.3)))))

  pub message_repeats : (A : List ℕ) (S₁ v : List ℤ) (out : Prepared) → MessageLengths p Fresh A S₁ v out
      → expanded (repeated_prepared p Fresh) (message_in p Fresh A S₁ v out) ≡ message_in p General A S₁ (repeated_S p Fresh v) (repeated_prepared p Fresh out)
  unfolding message_in message_rules
  message_repeats A S₁ v out l =
      expands (repeated_prepared p Fresh) _ out _
      ∙ ap₂ (λ (r : ℕ) (o : Prepared). unless_refused r (repeated_prepared p Fresh out) (ends done o))
      (same_number p (message_rules p Fresh A S₁ v out) (message_rules p General A S₁ (repeated_S p Fresh v) (repeated_prepared p Fresh out)) (λ ok.
      skips (message_lens p Fresh A S₁ v out).test 7 _ ((message_lens p Fresh A S₁ v out).says.1 l)
      ∙ ap (λ (c : Bool). first_of ((not (short_right p General S₁ && c) gives 8) ∷ [])) (short-same ok v)
      ∙ sym (skips (message_lens p General A S₁ (repeated_S p Fresh v) (repeated_prepared p Fresh out)).test 7 _
      ((message_lens p General A S₁ (repeated_S p Fresh v) (repeated_prepared p Fresh out)).says.1 (l.0, l.1, length-table _ _ _, ((length-table _ _ _, length-table _ _ _, length-lower _ _), length-table _ _ _))))))
      (ap₂ (λ (M : Message) (S~ : List ℤ). record { message = M; S~ = S~ }) (BothProfiles.message_repeats p A Fresh S₁ v) (BothProfiles.witness_repeats p A Fresh S₁ v))

  pub verdict_repeats : (J₁ J₂ : Counted) (M : Message) (C : List ℕ) (out : Instance) → VerdictLengths p Fresh J₁.instance J₂.instance M C out
      → verdict_in p Fresh J₁ J₂ M C out ≡ verdict_in p General J₁ (repeated_counted p Fresh J₂) (repeated_message p Fresh M) C out
  unfolding verdict_in verdict_as verdict_rules_as
  verdict_repeats J₁ J₂ M C out l =
      let I₁ = J₁.instance in
      let I₂ = J₂.instance in
      let R₂ = repeated_instance p Fresh I₂ in
      let R = repeated_message p Fresh M in
      ap₂ (λ (r : ℕ) (o : Outcome Counted). unless_refused r (counted out 0) o)
      (same_number p (verdict_rules p Fresh J₁ J₂ M C out) (verdict_rules p General J₁ (repeated_counted p Fresh J₂) R C out) (λ ok.
      skips (verdict_lens p Fresh I₁ I₂ M C out).test 7 _ ((verdict_lens p Fresh I₁ I₂ M C out).says.1 l)
      ∙ ap (λ (c : Bool). first_of ((not (counts_join J₁.leaves J₂.leaves) gives 15) ∷ (not (are_ternary p C) gives 9) ∷ (not c gives 10) ∷ []))
      (same-bound _ _ _ _ (HOf p) ((sent_D~ p Fresh).read M.D~) ((matrix_D~ p).read R.D~) (Repeated.D~_bounds p (accepted p ok).t-low (HOf p) M))
      ∙ sym (skips (verdict_lens p General I₁ R₂ R C out).test 7 _
      ((verdict_lens p General I₁ R₂ R C out).says.1 (l.0, (length-table _ _ _, length-table _ _ _), (length-table _ _ _, length-table _ _ _, length-lower _ _), l.3, l.4)))))
      (sym (judged-same p (meant p General R) (meant p Fresh M) (Repeated.repeated_means p M) J₁ (repeated_counted p Fresh J₂) C out))

  pub witness_repeats : (S~ : List ℤ) (C : List ℕ) (out : List ℤ) → WitnessLengths p Fresh S~ C out
      → witness_in p Fresh S~ C out ≡ witness_in p General (repeated_S~ p Fresh S~) C out
  unfolding witness_in witness_rules
  witness_repeats S~ C out l =
      ap (λ (r : ℕ). unless_refused r out (ends done (folded_witness p ((matrix_S~ p).read (repeated_S~ p Fresh S~)) C)))
      (same_number p (witness_rules p Fresh S~ C out) (witness_rules p General (repeated_S~ p Fresh S~) C out) (λ ok.
      skips (witness_lens p Fresh S~ C out).test 7 _ ((witness_lens p Fresh S~ C out).says.1 l)
      ∙ ap (λ (c : Bool). first_of ((not (are_ternary p C) gives 9) ∷ (not c gives 11) ∷ [])) (same-bound _ _ _ _ (h_of p) ((sent_S~ p Fresh).read S~) ((matrix_S~ p).read (repeated_S~ p Fresh S~)) (Repeated.S~_bounds p (accepted p ok).t-low (h_of p) S~))
      ∙ sym (skips (witness_lens p General (repeated_S~ p Fresh S~) C out).test 7 _ ((witness_lens p General (repeated_S~ p Fresh S~) C out).says.1 (length-table _ _ _, l.1, l.2)))))

  pub recompose_repeats : (S~ : List ℤ) (out : Witnesses) → RecomposeLengths p Fresh S~ out
      → expanded (repeated_witnesses p Fresh) (recompose_in p Fresh S~ out) ≡ recompose_in p General (repeated_S~ p Fresh S~) (repeated_witnesses p Fresh out)
  unfolding recompose_in recompose_rules
  recompose_repeats S~ out l =
      let R = repeated_S~ p Fresh S~ in
      let put = repeated_witnesses p Fresh out in
      expands (repeated_witnesses p Fresh) _ out _
      ∙ ap₂ (λ (r : ℕ) (o : Witnesses). unless_refused r put (ends done o))
      (same_number p (recompose_rules p Fresh S~ out) (recompose_rules p General R put) (λ ok.
      let low = (accepted p ok).t-low in
      skips (recompose_lens p Fresh S~ out).test 7 _ ((recompose_lens p Fresh S~ out).says.1 l)
      ∙ ap (λ (c : Bool). first_of ((not c gives 11) ∷ (not (short_recomposed p Fresh S~) gives 8) ∷ (not (follows_rule p Fresh S~) gives 16) ∷ []))
      (same-bound _ _ _ _ (h_of p) ((sent_S~ p Fresh).read S~) ((matrix_S~ p).read R) (Repeated.S~_bounds p low (h_of p) S~))
      ∙ ap₂ (λ (x y : Bool). first_of ((not (bounded p.m (columns_of p General) (h_of p) ((matrix_S~ p).read R)) gives 11) ∷ (not x gives 8) ∷ (not y gives 16) ∷ []))
      (same_by (short_recomposed p Fresh S~) (short_recomposed p General R) (recomposed_iff p Fresh S~) (recomposed_iff p General R) (short_repeats p S~ low))
      (same_by (follows_rule p Fresh S~) (follows_rule p General R) (rule_iff p Fresh S~) (rule_iff p General R) (rule_repeats p S~ low))
      ∙ sym (skips (recompose_lens p General R put).test 7 _ ((recompose_lens p General R put).says.1 (length-table _ _ _, l.1, length-table _ _ _)))))
      (witnesses_repeat p S~)
