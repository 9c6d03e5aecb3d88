-- A code tells the answer: no operation has two answers with the same code.
use borrow.Author.Tests.{ne_eqb}
use mathlib.Core.Path.{◌≡◌, refl}
use mathlib.Core.Logic.{◌≢◌}
use mathlib.Core.Bool.{Bool, true, false, cond}
use mathlib.Core.List.{List, [], ◌∷◌}
use Prim.Native.Nat.{ℕ, zero, suc, ◌+◌, ◌<◌}
use native.Mathlib.Omega.{arith}
use lib.IntN.{ℤ}
use lib.Dec.{T, ltb, ltb→lt}
use Rattle.integers.specs.Lists.{every}
use Rattle.integers.proofs.Tests.{and_fst, and_snd}
use Rattle.settings.specs.Rules.{Rule, first_of}
use Rattle.settings.specs.Settings.{Parameters}
use Rattle.lova.specs.Answers.{Meaning, done, «yes», member, refused, after_setting, Outcome, ends, unless_refused}
use Rattle.lova.specs.declared.Profile.{Profile}
use Rattle.lova.specs.Stored.{Instance, Counted, counted, Message, Prepared, matrix_S~}
use Rattle.lova.specs.Repeats.{repeated_instance, repeated_V, repeated_S~}
use Rattle.lova.specs.Commit.{commit_rules, instance_in, commit_in}
use Rattle.lova.specs.Message.{message_rules, prepared_in, message_in}
use Rattle.lova.specs.Witness.{witness_rules, folded_witness, witness_in}
use Rattle.lova.specs.Join.{join_rules, joined_instance, join_in}
use Rattle.lova.specs.Verdict.{verdict_rules_as, verdict_rules, verdict_by, judged, judged_in, verdict_as, verdict_in}
use Rattle.lova.specs.Tests.{short}
use Rattle.lova.specs.Relation.{relation_rules, products_hold, commitment_holds, member_word, relation}
use Rattle.codes.specs.Codes.{code_of, meaning_of}

-- an answer comes back from its code, where 0 stands for the word
abbrev pub Told : Meaning → Meaning → Type 0
Told word a = meaning_of word (code_of a) ≡ a

-- no rule has a word's code for its number
abbrev below : Rule → Bool
below r = ltb r.number 100

cond_below : (c : Bool) (x y : ℕ) → x < 100 → y < 100 → cond c x y < 100
cond_below true x y h k = h
cond_below false x y h k = k

first_below : (rs : List Rule) → T (every below rs) → first_of rs < 100
unfolding first_of
first_below [] t = omega arith
first_below (r ∷ rs) t =
    cond_below r.applies r.number (first_of rs) (ltb→lt r.number 100 (and_fst (below r) (every below rs) t)) (first_below rs (and_snd (below r) (every below rs) t))

refused_told : (word : Meaning) (r : ℕ) → r ≢ 0 → r < 100 → Told word (refused r)
unfolding code_of meaning_of
refused_told word r n h =
    rw (ne_eqb r 0 n, ne_eqb r 100 (λ e. omega arith), ne_eqb r 101 (λ e. omega arith), ne_eqb r 102 (λ e. omega arith), ne_eqb r 103 (λ e. omega arith)) refl

-- an operation's answer, where its result's is told
module _ {X : Type 0} (word : Meaning) (before : X) (result : Outcome X) (ok : Told word result.answer) where
  by_number : (r : ℕ) → r < 100 → Told word (unless_refused r before result).answer
  unfolding unless_refused
  by_number zero h = ok
  by_number (suc r) h = refused_told word (suc r) (λ e. omega arith) h

  call_told : (rules : List Rule) → T (every below rules) → Told word (unless_refused (first_of rules) before result).answer
  call_told rules t = by_number (first_of rules) (first_below rules t)

done_told : Told done done
unfolding code_of meaning_of
done_told = refl

module _ (p : Parameters) (f : Profile) (A : List ℕ) (S : List ℤ) (out : Instance) where
  pub commit_told : Told done (commit_in p f A S out).answer
  unfolding commit_in commit_rules
  commit_told = call_told done (counted out 0) (ends done (counted (instance_in p f A S) 1)) done_told (after_setting p (commit_rules p f A S out)) tt

module _ (p : Parameters) (f : Profile) (A : List ℕ) (S₁ S₂ : List ℤ) (out : Prepared) where
  pub message_told : Told done (message_in p f A S₁ S₂ out).answer
  unfolding message_in message_rules
  message_told = call_told done out (ends done (prepared_in p f A S₁ S₂)) done_told (after_setting p (message_rules p f A S₁ S₂ out)) tt

module _ (p : Parameters) (f : Profile) (S~ : List ℤ) (C : List ℕ) (out : List ℤ) where
  pub witness_told : Told done (witness_in p f S~ C out).answer
  unfolding witness_in witness_rules
  witness_told = call_told done out (ends done (folded_witness p ((matrix_S~ p).read (repeated_S~ p f S~)) C)) done_told (after_setting p (witness_rules p f S~ C out)) tt

module _ (p : Parameters) (f : Profile) (J₁ J₂ : Counted) («V» : List ℤ) (out : Instance) where
  pub join_told : Told done (join_in p f J₁ J₂ «V» out).answer
  unfolding join_in join_rules
  join_told =
      let joined = joined_instance p J₁.instance (repeated_instance p f J₂.instance) (repeated_V p f «V») in
      call_told done (counted out 0) (ends done (counted joined (J₁.leaves + J₂.leaves))) done_told (after_setting p (join_rules p f J₁ J₂ «V» out)) tt

verdict-words : (within first second : Bool) (before after : Counted) → Told «yes» (verdict_by within first second before after).answer
unfolding verdict_by code_of meaning_of
verdict-words false first second before after = refl
verdict-words true false second before after = refl
verdict-words true true false before after = refl
verdict-words true true true before after = refl

module _ (p : Parameters) (f : Profile) (J₁ J₂ : Counted) (M : Message) (C : List ℕ) (out : Instance) where
  judged_told : Told «yes» (judged_in p f J₁ J₂ M C out).answer
  unfolding judged
  judged_told = verdict-words _ _ _ (counted out 0) _

  pub verdict_told : Told «yes» (verdict_in p f J₁ J₂ M C out).answer
  unfolding verdict_in verdict_as verdict_rules_as
  verdict_told = call_told «yes» (counted out 0) (judged_in p f J₁ J₂ M C out) judged_told (after_setting p (verdict_rules p f J₁ J₂ M C out)) tt

member-words : (isShort holdsD holds_t : Bool) → Told member (member_word isShort holdsD holds_t)
unfolding member_word code_of meaning_of
member-words false holdsD holds_t = refl
member-words true false holds_t = refl
member-words true true false = refl
member-words true true true = refl

module _ (p : Parameters) (A : List ℕ) (I : Instance) (S : List ℤ) where
  pub relation_told : Told member (relation p A I S).answer
  unfolding relation relation_rules
  relation_told =
      let holds = member-words (short p S) (products_hold p I S) (commitment_holds p A I S) in
      call_told member tt (ends (member_word (short p S) (products_hold p I S) (commitment_holds p A I S)) tt) holds (after_setting p (relation_rules p A I S)) tt
