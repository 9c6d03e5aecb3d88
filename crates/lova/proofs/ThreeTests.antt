-- Three tests, one after the other, as the verdict and the relation test make them: exactly when each answer is given.
use mathlib.Core.Path.{◌≡◌, refl, ap}
use mathlib.Core.Logic.{◌↔◌}
use mathlib.Core.Bool.{Bool, true, false, not, cond}
use Prim.Native.Nat.{ℕ}
use native.Mathlib.Omega.{arith}
use lib.Dec.{T}
use Rattle.lova.specs.Answers.{Meaning, done, «yes», norm, commitment, long, products, member, refused}
use Rattle.lova.proofs.Refusals.{Ended}

-- long where the first test fails, else `middle` where the second fails, commitment where only the third fails, else `last`
abbrev pub answer_by : Meaning → Meaning → Bool → Bool → Bool → Meaning
answer_by middle last a b c = cond (not a) long (cond (not b) middle (cond (not c) commitment last))

-- the rank of an answer among the four
unfoldable pub rank_of : Meaning → ℕ
rank_of long = 1
rank_of norm = 2
rank_of products = 2
rank_of commitment = 3
rank_of «yes» = 4
rank_of member = 4
rank_of done = 5
rank_of (refused r) = 6

-- two answers of different ranks are not the same
pub apart : {A : Type 0} (x y : Meaning) → (rank_of x ≡ rank_of y → ⊥) → x ≡ y → A
apart x y f e = absurd (f (ap rank_of e))

module _ (middle last : Meaning) (second : rank_of middle ≡ 2) (fourth : rank_of last ≡ 4) where
  -- the tests are those of P, Q and R
  pub first-fails : {P : Type 0} (a b c : Bool) → T a ↔ P → (answer_by middle last a b c ≡ long) ↔ (P → ⊥)
  unfolding rank_of
  first-fails true true true p = (apart last long (λ e. omega (arith, fourth)), (λ h. absurd (h (p.0 tt))))
  first-fails true true false p = (apart commitment long (λ e. omega arith), (λ h. absurd (h (p.0 tt))))
  first-fails true false c p = (apart middle long (λ e. omega (arith, second)), (λ h. absurd (h (p.0 tt))))
  first-fails false b c p = ((λ e h. p.1 h), (λ h. refl))

  pub second-fails : {P Q : Type 0} (a b c : Bool) → T a ↔ P → T b ↔ Q → (answer_by middle last a b c ≡ middle) ↔ (P × (Q → ⊥))
  unfolding rank_of
  second-fails true true true p q = (apart last middle (λ e. omega (arith, second, fourth)), (λ h. absurd (h.1 (q.0 tt))))
  second-fails true true false p q = (apart commitment middle (λ e. omega (arith, second)), (λ h. absurd (h.1 (q.0 tt))))
  second-fails true false c p q = ((λ e. (p.0 tt, (λ h. q.1 h))), (λ h. refl))
  second-fails false b c p q = (apart long middle (λ e. omega (arith, second)), (λ h. absurd (p.1 h.0)))

  pub third-fails : {P Q R : Type 0} (a b c : Bool) → T a ↔ P → T b ↔ Q → T c ↔ R → (answer_by middle last a b c ≡ commitment) ↔ (P × Q × (R → ⊥))
  unfolding rank_of
  third-fails true true true p q r = (apart last commitment (λ e. omega (arith, fourth)), (λ h. absurd (h.2 (r.0 tt))))
  third-fails true true false p q r = ((λ e. (p.0 tt, q.0 tt, (λ h. r.1 h))), (λ h. refl))
  third-fails true false c p q r = (apart middle commitment (λ e. omega (arith, second)), (λ h. absurd (q.1 h.1)))
  third-fails false b c p q r = (apart long commitment (λ e. omega arith), (λ h. absurd (p.1 h.0)))

  pub none-fails : {P Q R : Type 0} (a b c : Bool) → T a ↔ P → T b ↔ Q → T c ↔ R → (answer_by middle last a b c ≡ last) ↔ (P × Q × R)
  unfolding rank_of
  none-fails true true true p q r = ((λ e. (p.0 tt, q.0 tt, r.0 tt)), (λ h. refl))
  none-fails true true false p q r = (apart commitment last (λ e. omega (arith, fourth)), (λ h. absurd (r.1 h.2)))
  none-fails true false c p q r = (apart middle last (λ e. omega (arith, second, fourth)), (λ h. absurd (q.1 h.1)))
  none-fails false b c p q r = (apart long last (λ e. omega (arith, fourth)), (λ h. absurd (p.1 h.0)))

  -- and none of the four is a refusal
  pub answer-ended : (a b c : Bool) → Ended (answer_by middle last a b c)
  unfolding rank_of
  answer-ended true true true r = apart last (refused r) (λ e. omega (arith, fourth))
  answer-ended true true false r = apart commitment (refused r) (λ e. omega arith)
  answer-ended true false c r = apart middle (refused r) (λ e. omega (arith, second))
  answer-ended false b c r = apart long (refused r) (λ e. omega arith)
