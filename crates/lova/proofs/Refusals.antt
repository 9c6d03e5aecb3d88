-- When a call is refused, with which number, and when it is proper.
use mathlib.Core.Path.{◌≡◌, refl, sym, ◌∙◌, ap, subst}
use mathlib.Core.Logic.{◌≢◌, ◌↔◌, ◌⊎◌, inl, inr}
use mathlib.Core.Bool.{Bool, true, false, not, ◌&&◌, true≢false}
use mathlib.Core.List.{List, [], ◌∷◌, ◌++◌}
use Prim.Native.Nat.{ℕ, zero, suc}
use native.Mathlib.Omega.{arith}
use lib.Dec.{T}
use lib.IntN.{ℤ}
use Rattle.integers.proofs.Tests.{and_fst, and_snd, and_both}
use Rattle.matrices.specs.Matrices.{Matrix}
use Rattle.settings.specs.Rules.{Rule, ◌gives◌, first_of, NoneApplies, First}
use Rattle.settings.specs.Settings.{Parameters, limits, setting_rules, setting_refusal, h_of, HOf}
use Rattle.settings.proofs.Rules.{Numbered, first-applies, none-applies, none_append, skip_all, stop-all, stop, distinct, rule-first}
use Rattle.lova.specs.Answers.{after_setting, Meaning, done, refused, Outcome, ends, unless_refused}
use Rattle.lova.specs.declared.Profile.{Profile}
use Rattle.lova.specs.declared.Profile.TheVariants.{General}
use Rattle.lova.specs.Stored.{Stored, Instance, Counted, Message, Prepared, Witnesses, columns_of, matrix_A, matrix_S, right_S, right_T, right_D, sent_V, sent_S~, sent_T~, sent_D~, matrix_T, matrix_D, joined_T, joined_D}
use Rattle.lova.specs.Tests.{counts_join, fits, fits_C, short_right, are_ternary, bounded}
use Rattle.lova.specs.Recompose.{short_recomposed, follows_rule, recompose_rules}
use Rattle.lova.specs.Calls.{CountsJoin, Decided, CommitLengths, RelationLengths, JoinLengths, MessageLengths, VerdictLengths, WitnessLengths, RecomposeLengths, Fits, FitsInstance, FitsRight, FitsJoined, FitsMessage, FitsPrepared, FitsC, Short, ShortRight, Ternary, Bounded, ShortRecomposed, FollowsRule, ProperCommit, ProperRelation, ProperJoin, ProperMessage, ProperVerdict, ProperWitness, ProperRecompose}
use Rattle.lova.specs.Commit.{commit_rules}
use Rattle.lova.specs.Relation.{relation_rules}
use Rattle.lova.specs.Join.{join_rules}
use Rattle.lova.specs.Message.{message_rules}
use Rattle.lova.specs.Verdict.{verdict_rules_as, verdict_rules}
use Rattle.lova.specs.Witness.{witness_rules}
use Rattle.lova.proofs.Tests.{counts_iff, eqb_iff, short_iff, ternary_iff, bounded_iff, recomposed_iff, rule_iff}

-- ---- of any call, by its rules and by what it ends with where none applies

-- an answer that is no refusal
abbrev pub Ended : Meaning → Type 0
Ended a = (r : ℕ) → a ≢ refused r

pub done-ended : Ended done
done-ended r e = let z : ◌≡◌ {A = ℕ} 0 1 = cc in omega arith

module _ {X : Type 0} (before : X) (result : Outcome X) where
  -- where no rule applies the call ends with its result
  pub ends_so : (r : ℕ) → r ≡ 0 → unless_refused r before result ≡ result
  unfolding unless_refused
  ends_so zero e = refl
  ends_so (suc r) e = absurd (omega arith)

  -- a refusal gives the number, and its outputs are what they were
  pub refuses_so : (r : ℕ) → r ≢ 0 → unless_refused r before result ≡ ends (refused r) before
  unfolding unless_refused
  refuses_so zero ne = absurd (ne refl)
  refuses_so (suc r) ne = refl

  -- where the call ends with an answer that is no refusal, no rule applies
  pub none-refused : (r : ℕ) → Ended (unless_refused r before result).answer → r ≡ 0
  unfolding unless_refused
  none-refused zero end = refl
  none-refused (suc r) end = absurd (end (suc r) refl)

  -- either the call ends with its result or its outputs are what they were
  pub untouched : (r : ℕ) → (unless_refused r before result ≡ result) ⊎ ((unless_refused r before result).outputs ≡ before)
  unfolding unless_refused
  untouched zero = inl refl
  untouched (suc r) = inr refl

  number_is : Ended result.answer → (q r : ℕ) → (unless_refused q before result).answer ≡ refused r → (q ≡ r) × (r ≢ 0)
  unfolding unless_refused
  number_is end zero r e = absurd (end r e)
  number_is end (suc q) r e = let n : suc q ≡ r = cc in (n, λ z. omega arith)

  -- the answer is a refusal with r if and only if r is the number of a rule that applies and none before it does
  pub refused-exactly : Ended result.answer → (rules : List Rule) → Numbered rules → (r : ℕ) → ((unless_refused (first_of rules) before result).answer ≡ refused r) ↔ First rules r
  refused-exactly end rules numbered r = (
    (λ e. let n = number_is end (first_of rules) r e in (first-applies rules r n.1).0 n.0),
    (λ f. let ne : r ≢ 0 = never-zero f in ap (λ (o : Outcome X). o.answer) (refuses_so (first_of rules) (λ z. ne (sym ((first-applies rules r ne).1 f) ∙ z))) ∙ ap refused ((first-applies rules r ne).1 f)),
  )
    where
      never-zero : First rules r → r ≢ 0
      never-zero f z =
          let zero_is : first_of rules ≡ 0 = ap first_of f.splits ∙ skip_all f.before (f.rule ∷ f.after) f.none_before ∙ stop f.rule f.after f.applies ∙ f.numbered ∙ z in
          let none : NoneApplies (f.before ++ (f.rule ∷ f.after)) = subst NoneApplies f.splits ((none-applies rules numbered).0 zero_is) in
          let not_so : f.rule.applies ≡ false = ((none_append f.before (f.rule ∷ f.after)).0 none).1.0 in
          true≢false (sym f.applies ∙ not_so)

-- a call is refused with a number exactly where that is the first rule's
pub refused-by : {X : Type 0} (before : X) (result : Outcome X) → Ended result.answer → (q r : ℕ) → r ≢ 0 → ((unless_refused q before result).answer ≡ refused r) ↔ (q ≡ r)
refused-by before result end q r ne = (
  (λ e. (number_is before result end q r e).0),
  (λ e. ap (λ (o : Outcome _). o.answer) (refuses_so before result q (λ z. ne (sym e ∙ z))) ∙ ap refused e),
)

-- demand 1, of any call that goes by rules: it is proper exactly where no rule applies
pub decides : {X : Type 0} (before : X) (result : Outcome X) (rules : List Rule) (P : Type 0) → Numbered rules → Ended result.answer → (first_of rules ≡ 0) ↔ P
    → Decided (unless_refused (first_of rules) before result) before result rules P
decides before result rules P numbered end iff = record {
  proper = λ x. ends_so before result (first_of rules) (iff.1 x);
  others = λ f. let ne : first_of rules ≢ 0 = λ e. f (iff.0 e) in (first_of rules, refuses_so before result (first_of rules) ne, (first-applies rules (first_of rules) ne).0 refl);
  refuses = refused-exactly before result end rules numbered;
}

-- ---- proper calls: no rule of the setting applies, and none of the operation's own

of-setting : (p : Parameters) (own : List Rule) → Numbered own → (first_of (after_setting p own) ≡ 0) ↔ ((setting_refusal p ≡ 0) × NoneApplies own)
unfolding setting_refusal
of-setting p own h = (
  (λ e. let n = (none_append (setting_rules limits p) own).0 ((none-applies (setting_rules limits p ++ own) h).0 e) in ((none-applies (setting_rules limits p) tt).1 n.0, n.1)),
  (λ c. (none-applies (setting_rules limits p ++ own) h).1 ((none_append (setting_rules limits p) own).1 ((none-applies (setting_rules limits p) tt).0 c.0, c.1))),
)

-- what stands before an operation's own rule: an accepted setting, and own rules that do not apply
after-setting : (p : Parameters) (xs : List Rule) → NoneApplies (setting_rules limits p ++ xs) ↔ ((setting_refusal p ≡ 0) × NoneApplies xs)
unfolding setting_refusal
after-setting p xs = (
  (λ n. let s = (none_append (setting_rules limits p) xs).0 n in ((none-applies (setting_rules limits p) tt).1 s.0, s.1)),
  (λ c. (none_append (setting_rules limits p) xs).1 ((none-applies (setting_rules limits p) tt).0 c.0, c.1)),
)

-- a refused setting refuses every operation, with the setting's number
pub setting-decides : (p : Parameters) (own : List Rule) → setting_refusal p ≢ 0 → first_of (after_setting p own) ≡ setting_refusal p
unfolding setting_refusal
setting-decides p own ne = stop-all (setting_rules limits p) own ne

-- an accepted setting leaves it to the operation's own rules
pub own-decides : (p : Parameters) (own : List Rule) → setting_refusal p ≡ 0 → first_of (after_setting p own) ≡ first_of own
unfolding setting_refusal
own-decides p own ok = skip_all (setting_rules limits p) own ((none-applies (setting_rules limits p) tt).0 ok)

-- the three ways out of an operation, for the proofs of the code
module _ {X : Type 0} (p : Parameters) (own : List Rule) (before : X) (result : Outcome X) (r : ℕ) where
  pub refused-by-setting : r ≡ setting_refusal p → r ≢ 0 → ends (refused r) before ≡ unless_refused (first_of (after_setting p own)) before result
  refused-by-setting e ne =
      let is : first_of (after_setting p own) ≡ r = setting-decides p own (λ z. ne (e ∙ z)) ∙ sym e in
      sym (rw is (refuses_so before result r ne))

  pub refused-by-own : setting_refusal p ≡ 0 → r ≡ first_of own → r ≢ 0 → ends (refused r) before ≡ unless_refused (first_of (after_setting p own)) before result
  refused-by-own ok e ne =
      let is : first_of (after_setting p own) ≡ r = own-decides p own ok ∙ sym e in
      sym (rw is (refuses_so before result r ne))

  pub ends-by-own : setting_refusal p ≡ 0 → r ≡ first_of own → r ≡ 0 → result ≡ unless_refused (first_of (after_setting p own)) before result
  ends-by-own ok e z = sym (ends_so before result (first_of (after_setting p own)) (own-decides p own ok ∙ sym e ∙ z))

-- a rule `not c` passes where c does
passes : (c : Bool) → (not c ≡ false) ↔ T c
passes true = ((λ e. tt), (λ h. refl))
passes false = ((λ e. absurd (true≢false e)), (λ h. absurd h))

-- and applies where c does not hold
applies : (c : Bool) → (not c ≡ true) ↔ (T c → ⊥)
applies true = ((λ e. absurd (true≢false (sym e))), (λ h. absurd (h tt)))
applies false = ((λ e h. h), (λ h. refl))

-- a test together with what it says, and such tests joined by &&
pub record Decides (P : Type 0) : Type 0 where
  pub test : Bool
  pub says : T test ↔ P

abbrev pub both : {P Q : Type 0} → Decides P → Decides Q → Decides (P × Q)
both a b = record {
  test = a.test && b.test;
  says = (
    (λ h. (a.says.0 (and_fst a.test b.test h), b.says.0 (and_snd a.test b.test h))),
    (λ h. and_both a.test b.test (a.says.1 h.0) (b.says.1 h.1)),
  );
}

abbrev pub three : {P Q R : Type 0} → Decides P → Decides Q → Decides R → Decides (P × Q × R)
three a b c =
    let l = both (both a b) c in
    record { test = l.test; says = ((λ h. let x = l.says.0 h in (x.0.0, x.0.1, x.1)), (λ h. l.says.1 ((h.0, h.1), h.2))) }

abbrev pub four : {P Q R S : Type 0} → Decides P → Decides Q → Decides R → Decides S → Decides (P × Q × R × S)
four a b c d =
    let l = both (three a b c) d in
    record { test = l.test; says = ((λ h. let x = l.says.0 h in (x.0.0, x.0.1, x.0.2, x.1)), (λ h. l.says.1 ((h.0, h.1, h.2), h.3))) }

abbrev pub five : {P Q R S U : Type 0} → Decides P → Decides Q → Decides R → Decides S → Decides U → Decides (P × Q × R × S × U)
five a b c d e =
    let l = both (four a b c d) e in
    record { test = l.test; says = ((λ h. let x = l.says.0 h in (x.0.0, x.0.1, x.0.2, x.0.3, x.1)), (λ h. l.says.1 ((h.0, h.1, h.2, h.3), h.4))) }

-- a rule that applies where a test fails
module _ {P : Type 0} (d : Decides P) where
  open_rule : not d.test ≡ false → P
  open_rule e = d.says.0 ((passes d.test).0 e)

  shut_rule : P → not d.test ≡ false
  shut_rule x = (passes d.test).1 (d.says.1 x)

  failed : not d.test ≡ true → P → ⊥
  failed e x = (applies d.test).0 e (d.says.1 x)

  fail : (P → ⊥) → not d.test ≡ true
  fail f = (applies d.test).1 (λ h. f (d.says.0 h))

module _ (p : Parameters) where
  -- the tests of lengths and of values
  abbrev pub dec_fits : {E : Type 0} (s : Stored E) (xs : List E) → Decides (Fits s xs)
  dec_fits s xs = record { test = fits s xs; says = eqb_iff _ _ }

  abbrev pub dec_instance : (I : Instance) → Decides (FitsInstance p I)
  dec_instance I = both (dec_fits (matrix_T p) I.T) (dec_fits (matrix_D p) I.D)

  abbrev pub dec_joined : (I : Instance) → Decides (FitsJoined p I)
  dec_joined I = both (dec_fits (joined_T p) I.T) (dec_fits (joined_D p) I.D)

  abbrev pub dec_C : (C : List ℕ) → Decides (FitsC p C)
  dec_C C = record { test = fits_C p C; says = eqb_iff _ _ }

  abbrev pub dec_ternary : (C : List ℕ) → Decides (Ternary p C)
  dec_ternary C = record { test = are_ternary p C; says = ternary_iff p C }

  abbrev pub dec_counts : (a b : ℕ) → Decides (CountsJoin a b)
  dec_counts a b = record { test = counts_join a b; says = counts_iff a b }

  abbrev pub dec_bounded : (rows cols M : ℕ) (X : Matrix) → Decides (Bounded rows cols M X)
  dec_bounded rows cols M X = record { test = bounded rows cols M X; says = bounded_iff rows cols M X }

  pub relation-proper : (A : List ℕ) (I : Instance) (S : List ℤ) → (first_of (after_setting p (relation_rules p A I S)) ≡ 0) ↔ ProperRelation p A I S
  unfolding relation_rules
  relation-proper A I S =
      let s = of-setting p _ tt in
      let l = three (dec_fits (matrix_A p) A) (dec_instance I) (dec_fits (matrix_S p) S) in (
        (λ e. let h = s.0 e in record { setting = h.0; lengths = open_rule l h.1.0 }),
        (λ c. s.1 (c.setting, (shut_rule l c.lengths, tt))),
      )

  -- a rule that applies where a test fails, after the setting's rules and `earlier` ones
  own-number : {P : Type 0} (earlier : List Rule) (d : Decides P) (r : ℕ) (later : List Rule)
      → Numbered ((setting_rules limits p ++ earlier) ++ ((not d.test gives r) ∷ later)) → T (distinct ((setting_rules limits p ++ earlier) ++ ((not d.test gives r) ∷ later)))
      → (first_of ((setting_rules limits p ++ earlier) ++ ((not d.test gives r) ∷ later)) ≡ r) ↔ ((setting_refusal p ≡ 0) × NoneApplies earlier × (P → ⊥))
  own-number earlier d r later n u =
      let f = rule-first (setting_rules limits p ++ earlier) (not d.test gives r) later n u in
      let a = after-setting p earlier in (
        (λ e. let x = f.0 e in let s = a.0 x.0 in (s.0, s.1, failed d x.1)),
        (λ h. f.1 (a.1 (h.0, h.1), fail d h.2)),
      )

  abbrev pub relation_lens : (A : List ℕ) (I : Instance) (S : List ℤ) → Decides (RelationLengths p A I S)
  relation_lens A I S = three (dec_fits (matrix_A p) A) (dec_instance I) (dec_fits (matrix_S p) S)

  pub relation_7 : (A : List ℕ) (I : Instance) (S : List ℤ) → (first_of (after_setting p (relation_rules p A I S)) ≡ 7) ↔ ((setting_refusal p ≡ 0) × (RelationLengths p A I S → ⊥))
  unfolding relation_rules
  relation_7 A I S =
      let f = own-number ([]) (relation_lens A I S) 7 ([]) tt tt in (
        (λ e. let x = f.0 e in (x.0, x.2)),
        (λ h. f.1 (h.0, tt, h.1)),
      )

module _ (p : Parameters) (f : Profile) where
  abbrev pub dec_right : (I : Instance) → Decides (FitsRight p f I)
  dec_right I = both (dec_fits p (right_T p f) I.T) (dec_fits p (right_D p f) I.D)

  abbrev pub dec_message : (M : Message) → Decides (FitsMessage p f M)
  dec_message M = three (dec_fits p (sent_V p f) M.«V») (dec_fits p (sent_T~ p f) M.T~) (dec_fits p (sent_D~ p f) M.D~)

  abbrev pub dec_prepared : (o : Prepared) → Decides (FitsPrepared p f o)
  dec_prepared o = both (dec_message o.message) (dec_fits p (sent_S~ p f) o.S~)

  abbrev pub dec_short : (g : Profile) (S : List ℤ) → Decides (ShortRight p g S)
  dec_short g S = record { test = short_right p g S; says = short_iff p g S }

  -- for each operation: no rule applies if and only if the call is proper
  pub commit-proper : (A : List ℕ) (S : List ℤ) (out : Instance) → (first_of (after_setting p (commit_rules p f A S out)) ≡ 0) ↔ ProperCommit p f A S out
  unfolding commit_rules
  commit-proper A S out =
      let s = of-setting p _ tt in
      let l = three (dec_fits p (matrix_A p) A) (dec_fits p (right_S p f) S) (dec_right out) in (
        (λ e. let h = s.0 e in record { setting = h.0; lengths = open_rule l h.1.0; columns = open_rule (dec_short f S) h.1.1.0 }),
        (λ c. s.1 (c.setting, (shut_rule l c.lengths, (shut_rule (dec_short f S) c.columns, tt)))),
      )

  pub join-proper : (J₁ J₂ : Counted) («V» : List ℤ) (out : Instance) → (first_of (after_setting p (join_rules p f J₁ J₂ «V» out)) ≡ 0) ↔ ProperJoin p f J₁ J₂ «V» out
  unfolding join_rules
  join-proper J₁ J₂ «V» out =
      let s = of-setting p _ tt in
      let l = four (dec_instance p J₁.instance) (dec_right J₂.instance) (dec_fits p (sent_V p f) «V») (dec_joined p out) in
      let n = dec_counts p J₁.leaves J₂.leaves in (
        (λ e. let h = s.0 e in record { setting = h.0; lengths = open_rule l h.1.0; counts = open_rule n h.1.1.0 }),
        (λ c. s.1 (c.setting, (shut_rule l c.lengths, (shut_rule n c.counts, tt)))),
      )

  pub message-proper : (A : List ℕ) (S₁ S₂ : List ℤ) (out : Prepared) → (first_of (after_setting p (message_rules p f A S₁ S₂ out)) ≡ 0) ↔ ProperMessage p f A S₁ S₂ out
  unfolding message_rules
  message-proper A S₁ S₂ out =
      let s = of-setting p _ tt in
      let l = four (dec_fits p (matrix_A p) A) (dec_fits p (matrix_S p) S₁) (dec_fits p (right_S p f) S₂) (dec_prepared out) in
      let w = both (dec_short General S₁) (dec_short f S₂) in (
        (λ e. let h = s.0 e in record { setting = h.0; lengths = open_rule l h.1.0; columns = open_rule w h.1.1.0 }),
        (λ c. s.1 (c.setting, (shut_rule l c.lengths, (shut_rule w c.columns, tt)))),
      )

  pub verdict-proper : (J₁ J₂ : Counted) (M : Message) (C : List ℕ) (out : Instance) → (first_of (after_setting p (verdict_rules p f J₁ J₂ M C out)) ≡ 0) ↔ ProperVerdict p f J₁ J₂ M C out
  unfolding verdict_rules_as
  verdict-proper J₁ J₂ M C out =
      let s = of-setting p _ tt in
      let l = five (dec_instance p J₁.instance) (dec_right J₂.instance) (dec_message M) (dec_C p C) (dec_instance p out) in
      let n = dec_counts p J₁.leaves J₂.leaves in
      let d = dec_bounded p (columns_of p f) (columns_of p f) (HOf p) ((sent_D~ p f).read M.D~) in (
        (λ e. let h = s.0 e in record { setting = h.0; lengths = open_rule l h.1.0; counts = open_rule n h.1.1.0; bytes = open_rule (dec_ternary p C) h.1.1.1.0; entries = open_rule d h.1.1.1.1.0 }),
        (λ c. s.1 (c.setting, (shut_rule l c.lengths, (shut_rule n c.counts, (shut_rule (dec_ternary p C) c.bytes, (shut_rule d c.entries, tt)))))),
      )

  pub witness-proper : (S~ : List ℤ) (C : List ℕ) (out : List ℤ) → (first_of (after_setting p (witness_rules p f S~ C out)) ≡ 0) ↔ ProperWitness p f S~ C out
  unfolding witness_rules
  witness-proper S~ C out =
      let s = of-setting p _ tt in
      let l = three (dec_fits p (sent_S~ p f) S~) (dec_C p C) (dec_fits p (matrix_S p) out) in
      let d = dec_bounded p p.m (columns_of p f) (h_of p) ((sent_S~ p f).read S~) in (
        (λ e. let h = s.0 e in record { setting = h.0; lengths = open_rule l h.1.0; bytes = open_rule (dec_ternary p C) h.1.1.0; entries = open_rule d h.1.1.1.0 }),
        (λ c. s.1 (c.setting, (shut_rule l c.lengths, (shut_rule (dec_ternary p C) c.bytes, (shut_rule d c.entries, tt))))),
      )

  abbrev pub commit_lens : (A : List ℕ) (S : List ℤ) (out : Instance) → Decides (CommitLengths p f A S out)
  commit_lens A S out = three (dec_fits p (matrix_A p) A) (dec_fits p (right_S p f) S) (dec_right out)

  abbrev pub join_lens : (I₁ I₂ : Instance) («V» : List ℤ) (out : Instance) → Decides (JoinLengths p f I₁ I₂ «V» out)
  join_lens I₁ I₂ «V» out = four (dec_instance p I₁) (dec_right I₂) (dec_fits p (sent_V p f) «V») (dec_joined p out)

  abbrev pub message_lens : (A : List ℕ) (S₁ S₂ : List ℤ) (out : Prepared) → Decides (MessageLengths p f A S₁ S₂ out)
  message_lens A S₁ S₂ out = four (dec_fits p (matrix_A p) A) (dec_fits p (matrix_S p) S₁) (dec_fits p (right_S p f) S₂) (dec_prepared out)

  abbrev pub verdict_lens : (I₁ I₂ : Instance) (M : Message) (C : List ℕ) (out : Instance) → Decides (VerdictLengths p f I₁ I₂ M C out)
  verdict_lens I₁ I₂ M C out = five (dec_instance p I₁) (dec_right I₂) (dec_message M) (dec_C p C) (dec_instance p out)

  abbrev pub witness_lens : (S~ : List ℤ) (C : List ℕ) (out : List ℤ) → Decides (WitnessLengths p f S~ C out)
  witness_lens S~ C out = three (dec_fits p (sent_S~ p f) S~) (dec_C p C) (dec_fits p (matrix_S p) out)

  pub commit_7 : (A : List ℕ) (S : List ℤ) (out : Instance) → (first_of (after_setting p (commit_rules p f A S out)) ≡ 7) ↔ ((setting_refusal p ≡ 0) × (CommitLengths p f A S out → ⊥))
  unfolding commit_rules
  commit_7 A S out =
      let f = own-number p ([]) (commit_lens A S out) 7 ((not (dec_short f S).test gives 8) ∷ []) tt tt in (
        (λ e. let x = f.0 e in (x.0, x.2)),
        (λ h. f.1 (h.0, tt, h.1)),
      )

  pub commit_8 : (A : List ℕ) (S : List ℤ) (out : Instance) → (first_of (after_setting p (commit_rules p f A S out)) ≡ 8) ↔ ((setting_refusal p ≡ 0) × CommitLengths p f A S out × (ShortRight p f S → ⊥))
  unfolding commit_rules
  commit_8 A S out =
      let f = own-number p ((not (commit_lens A S out).test gives 7) ∷ []) (dec_short f S) 8 ([]) tt tt in (
        (λ e. let x = f.0 e in (x.0, open_rule (commit_lens A S out) x.1.0, x.2)),
        (λ h. f.1 (h.0, (shut_rule (commit_lens A S out) h.1, tt), h.2)),
      )

  pub join_7 : (J₁ J₂ : Counted) («V» : List ℤ) (out : Instance) → (first_of (after_setting p (join_rules p f J₁ J₂ «V» out)) ≡ 7) ↔ ((setting_refusal p ≡ 0) × (JoinLengths p f J₁.instance J₂.instance «V» out → ⊥))
  unfolding join_rules
  join_7 J₁ J₂ «V» out =
      let f = own-number p ([]) (join_lens J₁.instance J₂.instance «V» out) 7 ((not (dec_counts p J₁.leaves J₂.leaves).test gives 15) ∷ []) tt tt in (
        (λ e. let x = f.0 e in (x.0, x.2)),
        (λ h. f.1 (h.0, tt, h.1)),
      )

  pub join_15 : (J₁ J₂ : Counted) («V» : List ℤ) (out : Instance) → (first_of (after_setting p (join_rules p f J₁ J₂ «V» out)) ≡ 15) ↔ ((setting_refusal p ≡ 0) × JoinLengths p f J₁.instance J₂.instance «V» out × (CountsJoin J₁.leaves J₂.leaves → ⊥))
  unfolding join_rules
  join_15 J₁ J₂ «V» out =
      let l = join_lens J₁.instance J₂.instance «V» out in
      let f = own-number p ((not l.test gives 7) ∷ []) (dec_counts p J₁.leaves J₂.leaves) 15 ([]) tt tt in (
        (λ e. let x = f.0 e in (x.0, open_rule l x.1.0, x.2)),
        (λ h. f.1 (h.0, (shut_rule l h.1, tt), h.2)),
      )

  pub message_7 : (A : List ℕ) (S₁ S₂ : List ℤ) (out : Prepared) → (first_of (after_setting p (message_rules p f A S₁ S₂ out)) ≡ 7) ↔ ((setting_refusal p ≡ 0) × (MessageLengths p f A S₁ S₂ out → ⊥))
  unfolding message_rules
  message_7 A S₁ S₂ out =
      let f = own-number p ([]) (message_lens A S₁ S₂ out) 7 ((not (both (dec_short General S₁) (dec_short f S₂)).test gives 8) ∷ []) tt tt in (
        (λ e. let x = f.0 e in (x.0, x.2)),
        (λ h. f.1 (h.0, tt, h.1)),
      )

  pub message_8 : (A : List ℕ) (S₁ S₂ : List ℤ) (out : Prepared) → (first_of (after_setting p (message_rules p f A S₁ S₂ out)) ≡ 8) ↔ ((setting_refusal p ≡ 0) × MessageLengths p f A S₁ S₂ out × ((Short p S₁ × ShortRight p f S₂) → ⊥))
  unfolding message_rules
  message_8 A S₁ S₂ out =
      let f = own-number p ((not (message_lens A S₁ S₂ out).test gives 7) ∷ []) (both (dec_short General S₁) (dec_short f S₂)) 8 ([]) tt tt in (
        (λ e. let x = f.0 e in (x.0, open_rule (message_lens A S₁ S₂ out) x.1.0, x.2)),
        (λ h. f.1 (h.0, (shut_rule (message_lens A S₁ S₂ out) h.1, tt), h.2)),
      )

  module _ (J₁ J₂ : Counted) (M : Message) (C : List ℕ) (out : Instance) where
    -- the verdict's own tests, in the order of its rules
    abbrev lens : Decides (VerdictLengths p f J₁.instance J₂.instance M C out)
    lens = verdict_lens J₁.instance J₂.instance M C out

    abbrev counts : Decides (CountsJoin J₁.leaves J₂.leaves)
    counts = dec_counts p J₁.leaves J₂.leaves

    abbrev bytes : Decides (Ternary p C)
    bytes = dec_ternary p C

    abbrev entries : Decides (Bounded (columns_of p f) (columns_of p f) (HOf p) ((sent_D~ p f).read M.D~))
    entries = dec_bounded p (columns_of p f) (columns_of p f) (HOf p) ((sent_D~ p f).read M.D~)

    pub verdict_7 : (first_of (after_setting p (verdict_rules p f J₁ J₂ M C out)) ≡ 7) ↔ ((setting_refusal p ≡ 0) × (VerdictLengths p f J₁.instance J₂.instance M C out → ⊥))
    unfolding verdict_rules_as
    verdict_7 =
        let f = own-number p ([]) lens 7 ((not counts.test gives 15) ∷ (not bytes.test gives 9) ∷ (not entries.test gives 10) ∷ []) tt tt in (
          (λ e. let x = f.0 e in (x.0, x.2)),
          (λ h. f.1 (h.0, tt, h.1)),
        )

    pub verdict_15 : (first_of (after_setting p (verdict_rules p f J₁ J₂ M C out)) ≡ 15) ↔ ((setting_refusal p ≡ 0) × VerdictLengths p f J₁.instance J₂.instance M C out × (CountsJoin J₁.leaves J₂.leaves → ⊥))
    unfolding verdict_rules_as
    verdict_15 =
        let f = own-number p ((not lens.test gives 7) ∷ []) counts 15 ((not bytes.test gives 9) ∷ (not entries.test gives 10) ∷ []) tt tt in (
          (λ e. let x = f.0 e in (x.0, open_rule lens x.1.0, x.2)),
          (λ h. f.1 (h.0, (shut_rule lens h.1, tt), h.2)),
        )

    pub verdict_9 : (first_of (after_setting p (verdict_rules p f J₁ J₂ M C out)) ≡ 9) ↔ ((setting_refusal p ≡ 0) × VerdictLengths p f J₁.instance J₂.instance M C out × CountsJoin J₁.leaves J₂.leaves × (Ternary p C → ⊥))
    unfolding verdict_rules_as
    verdict_9 =
        let f = own-number p ((not lens.test gives 7) ∷ (not counts.test gives 15) ∷ []) bytes 9 ((not entries.test gives 10) ∷ []) tt tt in (
          (λ e. let x = f.0 e in (x.0, open_rule lens x.1.0, open_rule counts x.1.1.0, x.2)),
          (λ h. f.1 (h.0, (shut_rule lens h.1, (shut_rule counts h.2, tt)), h.3)),
        )

    pub verdict_10 : (first_of (after_setting p (verdict_rules p f J₁ J₂ M C out)) ≡ 10) ↔ ((setting_refusal p ≡ 0) × VerdictLengths p f J₁.instance J₂.instance M C out × CountsJoin J₁.leaves J₂.leaves × Ternary p C × (Bounded (columns_of p f) (columns_of p f) (HOf p) ((sent_D~ p f).read M.D~) → ⊥))
    unfolding verdict_rules_as
    verdict_10 =
        let f = own-number p ((not lens.test gives 7) ∷ (not counts.test gives 15) ∷ (not bytes.test gives 9) ∷ []) entries 10 ([]) tt tt in (
          (λ e. let x = f.0 e in (x.0, open_rule lens x.1.0, open_rule counts x.1.1.0, open_rule bytes x.1.1.1.0, x.2)),
          (λ h. f.1 (h.0, (shut_rule lens h.1, (shut_rule counts h.2, (shut_rule bytes h.3, tt))), h.4)),
        )

  pub witness_7 : (S~ : List ℤ) (C : List ℕ) (out : List ℤ) → (first_of (after_setting p (witness_rules p f S~ C out)) ≡ 7) ↔ ((setting_refusal p ≡ 0) × (WitnessLengths p f S~ C out → ⊥))
  unfolding witness_rules
  witness_7 S~ C out =
      let f = own-number p ([]) (witness_lens S~ C out) 7 ((not (dec_ternary p C).test gives 9) ∷ (not (dec_bounded p p.m (columns_of p f) (h_of p) ((sent_S~ p f).read S~)).test gives 11) ∷ []) tt tt in (
        (λ e. let x = f.0 e in (x.0, x.2)),
        (λ h. f.1 (h.0, tt, h.1)),
      )

  pub witness_9 : (S~ : List ℤ) (C : List ℕ) (out : List ℤ) → (first_of (after_setting p (witness_rules p f S~ C out)) ≡ 9) ↔ ((setting_refusal p ≡ 0) × WitnessLengths p f S~ C out × (Ternary p C → ⊥))
  unfolding witness_rules
  witness_9 S~ C out =
      let f = own-number p ((not (witness_lens S~ C out).test gives 7) ∷ []) (dec_ternary p C) 9 ((not (dec_bounded p p.m (columns_of p f) (h_of p) ((sent_S~ p f).read S~)).test gives 11) ∷ []) tt tt in (
        (λ e. let x = f.0 e in (x.0, open_rule (witness_lens S~ C out) x.1.0, x.2)),
        (λ h. f.1 (h.0, (shut_rule (witness_lens S~ C out) h.1, tt), h.2)),
      )

  pub witness_11 : (S~ : List ℤ) (C : List ℕ) (out : List ℤ) → (first_of (after_setting p (witness_rules p f S~ C out)) ≡ 11) ↔ ((setting_refusal p ≡ 0) × WitnessLengths p f S~ C out × Ternary p C × (Bounded p.m (columns_of p f) (h_of p) ((sent_S~ p f).read S~) → ⊥))
  unfolding witness_rules
  witness_11 S~ C out =
      let f = own-number p ((not (witness_lens S~ C out).test gives 7) ∷ (not (dec_ternary p C).test gives 9) ∷ []) (dec_bounded p p.m (columns_of p f) (h_of p) ((sent_S~ p f).read S~)) 11 ([]) tt tt in (
        (λ e. let x = f.0 e in (x.0, open_rule (witness_lens S~ C out) x.1.0, open_rule (dec_ternary p C) x.1.1.0, x.2)),
        (λ h. f.1 (h.0, (shut_rule (witness_lens S~ C out) h.1, (shut_rule (dec_ternary p C) h.2, tt)), h.3)),
      )

  module _ (S~ : List ℤ) (out : Witnesses) where
    -- recomposition's own tests, in the order of its rules
    abbrev pub recompose_lens : Decides (RecomposeLengths p f S~ out)
    recompose_lens = three (dec_fits p (sent_S~ p f) S~) (dec_fits p (matrix_S p) out.S₁) (dec_fits p (right_S p f) out.S₂)

    abbrev within : Decides (Bounded p.m (columns_of p f) (h_of p) ((sent_S~ p f).read S~))
    within = dec_bounded p p.m (columns_of p f) (h_of p) ((sent_S~ p f).read S~)

    abbrev columns : Decides (ShortRecomposed p f S~)
    columns = record { test = short_recomposed p f S~; says = recomposed_iff p f S~ }

    abbrev rule : Decides (FollowsRule p f S~)
    rule = record { test = follows_rule p f S~; says = rule_iff p f S~ }

    pub recompose-proper : (first_of (after_setting p (recompose_rules p f S~ out)) ≡ 0) ↔ ProperRecompose p f S~ out
    unfolding recompose_rules
    recompose-proper =
        let s = of-setting p _ tt in (
          (λ e. let h = s.0 e in record { setting = h.0; lengths = open_rule recompose_lens h.1.0; entries = open_rule within h.1.1.0; columns = open_rule columns h.1.1.1.0; digits = open_rule rule h.1.1.1.1.0 }),
          (λ c. s.1 (c.setting, (shut_rule recompose_lens c.lengths, (shut_rule within c.entries, (shut_rule columns c.columns, (shut_rule rule c.digits, tt)))))),
        )

    pub recompose_7 : (first_of (after_setting p (recompose_rules p f S~ out)) ≡ 7) ↔ ((setting_refusal p ≡ 0) × (RecomposeLengths p f S~ out → ⊥))
    unfolding recompose_rules
    recompose_7 =
        let f = own-number p ([]) recompose_lens 7 ((not within.test gives 11) ∷ (not columns.test gives 8) ∷ (not rule.test gives 16) ∷ []) tt tt in (
          (λ e. let x = f.0 e in (x.0, x.2)),
          (λ h. f.1 (h.0, tt, h.1)),
        )

    pub recompose_11 : (first_of (after_setting p (recompose_rules p f S~ out)) ≡ 11) ↔ ((setting_refusal p ≡ 0) × RecomposeLengths p f S~ out × (Bounded p.m (columns_of p f) (h_of p) ((sent_S~ p f).read S~) → ⊥))
    unfolding recompose_rules
    recompose_11 =
        let f = own-number p ((not recompose_lens.test gives 7) ∷ []) within 11 ((not columns.test gives 8) ∷ (not rule.test gives 16) ∷ []) tt tt in (
          (λ e. let x = f.0 e in (x.0, open_rule recompose_lens x.1.0, x.2)),
          (λ h. f.1 (h.0, (shut_rule recompose_lens h.1, tt), h.2)),
        )

    pub recompose_8 : (first_of (after_setting p (recompose_rules p f S~ out)) ≡ 8) ↔ ((setting_refusal p ≡ 0) × RecomposeLengths p f S~ out × Bounded p.m (columns_of p f) (h_of p) ((sent_S~ p f).read S~) × (ShortRecomposed p f S~ → ⊥))
    unfolding recompose_rules
    recompose_8 =
        let f = own-number p ((not recompose_lens.test gives 7) ∷ (not within.test gives 11) ∷ []) columns 8 ((not rule.test gives 16) ∷ []) tt tt in (
          (λ e. let x = f.0 e in (x.0, open_rule recompose_lens x.1.0, open_rule within x.1.1.0, x.2)),
          (λ h. f.1 (h.0, (shut_rule recompose_lens h.1, (shut_rule within h.2, tt)), h.3)),
        )

    pub recompose_16 : (first_of (after_setting p (recompose_rules p f S~ out)) ≡ 16) ↔ ((setting_refusal p ≡ 0) × RecomposeLengths p f S~ out × Bounded p.m (columns_of p f) (h_of p) ((sent_S~ p f).read S~) × ShortRecomposed p f S~ × (FollowsRule p f S~ → ⊥))
    unfolding recompose_rules
    recompose_16 =
        let f = own-number p ((not recompose_lens.test gives 7) ∷ (not within.test gives 11) ∷ (not columns.test gives 8) ∷ []) rule 16 ([]) tt tt in (
          (λ e. let x = f.0 e in (x.0, open_rule recompose_lens x.1.0, open_rule within x.1.1.0, open_rule columns x.1.1.1.0, x.2)),
          (λ h. f.1 (h.0, (shut_rule recompose_lens h.1, (shut_rule within h.2, (shut_rule columns h.3, tt))), h.4)),
        )
