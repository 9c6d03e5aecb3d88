-- Tests, and what follows from their outcome.
use Rattle.std.proofs.Common.{◌≡◌, ℕ, zero, suc, ◌+◌, ◌<◌, ◌≤◌, Bool, true, false, cond, not, ◌&&◌, T, leb, ◌⊎◌, ◌↔◌, sym, refl, ◌∙◌, subst, inl, inr, ⊎_elim, le_of_suc-le-suc, eq-or-lt_of_le, lt_of_not-le, add-one, arith, le→leb, leb→le, le-leb}
use native.Mathlib.Decide.{dec_le}
use borrow.Author.Tests.{lt-leb}
use Rattle.integers.specs.Tests.{all}
use Rattle.integers.specs.Ranges.{Range, within, In}

-- a choice by a test, shown for each outcome
pub cond_ind : {A : Type 0} (c : Bool) (x y : A) (P : A → Type 0) → (T c → P x) → (T (not c) → P y) → P (cond c x y)
cond_ind true x y P f g = f tt
cond_ind false x y P f g = g tt

pub cond_yes : {A : Type 0} (c : Bool) (x y : A) → T c → cond c x y ≡ x
cond_yes true x y h = refl
cond_yes false x y h = absurd h

pub cond_no : {A : Type 0} (c : Bool) (x y : A) → T (not c) → cond c x y ≡ y
cond_no true x y h = absurd h
cond_no false x y h = refl

pub true-is : (c : Bool) → T c → c ≡ true
true-is true h = refl
true-is false h = absurd h

pub false-is : (c : Bool) → T (not c) → c ≡ false
false-is true h = absurd h
false-is false h = refl

-- both of two tests
pub and_fst : (a b : Bool) → T (a && b) → T a
and_fst true b h = tt
and_fst false b h = h

pub and_snd : (a b : Bool) → T (a && b) → T b
and_snd true b h = h
and_snd false b h = absurd h

pub and_both : (a b : Bool) → T a → T b → T (a && b)
and_both true b h k = k
and_both false b h k = h

-- of two numbers one is the smaller or they are equal
pub le_or_lt : (a b : ℕ) → (a ≤ b) ⊎ (b < a)
le_or_lt a b = go (dec_le a b)
  where
    go : Dec (a ≤ b) → (a ≤ b) ⊎ (b < a)
    go (yes h) = inl h
    go (no f) = inr (lt_of_not-le f)

-- tests of equivalent orders are equal
pub leb-same : (a b c d : ℕ) → (a ≤ b) ↔ (c ≤ d) → leb a b ≡ leb c d
leb-same a b c d e = go (dec_le a b)
  where
    go : Dec (a ≤ b) → leb a b ≡ leb c d
    go (yes h) = le-leb a b h ∙ sym (le-leb c d (e.0 h))
    go (no f) = lt-leb a b (lt_of_not-le f) ∙ sym (lt-leb c d (lt_of_not-le (λ h. f (e.1 h))))

-- equivalent tests are equal
pub same_test : (a b : Bool) → (T a → T b) → (T b → T a) → a ≡ b
same_test true true f g = refl
same_test true false f g = absurd (f tt)
same_test false true f g = absurd (g tt)
same_test false false f g = refl

-- of two tests one fails
pub one-fails : (a b : Bool) → T (not (a && b)) → T (not a) ⊎ T (not b)
one-fails true b h = inr h
one-fails false b h = inl tt

-- each number below n passes
pub all_true : (n : ℕ) (P : ℕ → Bool) → ((i : ℕ) → i < n → T (P i)) → T (all n P)
unfolding all
all_true zero P h = tt
all_true (suc n) P h = and_both (all n P) (P n) (all_true n P (λ i l. h i (omega arith))) (h n (omega arith))

pub all_elim : (n : ℕ) (P : ℕ → Bool) → T (all n P) → (i : ℕ) → i < n → T (P i)
unfolding all
all_elim zero P h i l = absurd (omega arith)
all_elim (suc n) P h i l = ⊎_elim
    (λ (e : i ≡ n). rw e (and_snd (all n P) (P n) h))
    (λ (k : i < n). all_elim n P (and_fst (all n P) (P n) h) i k)
    (eq-or-lt_of_le (le_of_suc-le-suc l))

-- no number yet, and one more, at the code's n + 1
pub all_none : (P : ℕ → Bool) → all 0 P ≡ true
unfolding all
all_none P = refl

pub all_more : (n : ℕ) (P : ℕ → Bool) → all (n + 1) P ≡ (all n P && P n)
unfolding all
all_more n P = rw (add-one n) refl

-- tests that agree below n agree as a whole
pub all_cong : (n : ℕ) (P Q : ℕ → Bool) → ((i : ℕ) → i < n → P i ≡ Q i) → all n P ≡ all n Q
all_cong n P Q e = same_test (all n P) (all n Q)
    (λ h. all_true n Q (λ i l. subst T (e i l) (all_elim n P h i l)))
    (λ h. all_true n P (λ i l. subst T (sym (e i l)) (all_elim n Q h i l)))

-- some number below n fails
pub all-fails : (n : ℕ) (P : ℕ → Bool) → T (not (all n P)) → (i : ℕ) × (i < n) × T (not (P i))
unfolding all
all-fails zero P h = absurd h
all-fails (suc n) P h = ⊎_elim
    (λ (u : T (not (all n P))). let r = all-fails n P u in (r.0, omega (arith, r.1), r.2))
    (λ (u : T (not (P n))). (n, omega arith, u))
    (one-fails (all n P) (P n) h)

-- both of two tests, each of which says when it holds
pub both : (a b : Bool) (P Q : Type 0) → T a ↔ P → T b ↔ Q → T (a && b) ↔ (P × Q)
both a b P Q e f = (λ t. (e.0 (and_fst a b t), f.0 (and_snd a b t)), λ h. and_both a b (e.1 h.0) (f.1 h.1))

-- of two numbers the first is at most the second
pub at_most : (a b : ℕ) → T (leb a b) ↔ (a ≤ b)
at_most a b = (leb→le a b, le→leb a b)

-- a number is in a range
pub within_in : (r : Range) (x : ℕ) → T (within r x) ↔ In r x
within_in r x = both (leb r.low x) (leb x r.high) (r.low ≤ x) (x ≤ r.high) (at_most r.low x) (at_most x r.high)
