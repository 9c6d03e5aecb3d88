-- Tests of many numbers, over a list of them and over a matrix.
use mathlib.Core.Path.{◌≡◌, refl, sym, ap, ap₂, ◌∙◌}
use mathlib.Core.Bool.{Bool, true, ◌&&◌, and_assoc, and-true}
use mathlib.Core.List.{List, [], ◌∷◌}
use Prim.Native.Nat.{ℕ, zero, suc, ◌+◌, ◌*◌, ◌<◌}
use native.Mathlib.Omega.{arith}
use native.Mathlib.Nat.{zero-mul, suc-mul, add-zero, add-suc}
use lib.ListN.{length, get_or}
use Rattle.std.specs.List.{list_all, range_with_len}
use Rattle.std.proofs.lemmas.List.FromFn.{length-range_with_len, get_or-range_with_len}
use Rattle.integers.specs.Tests.{all}
use Rattle.lova.specs.Tests.{every}

all_split : (a b : ℕ) (P : ℕ → Bool) → all (a + b) P ≡ (all a P && all b (λ j. P (a + j)))
unfolding all
all_split a zero P = rw add-zero (sym (and-true (all a P)))
all_split a (suc b) P = rw (add-suc, all_split a b P) (and_assoc (all a P) _ _)

all_one : (P : ℕ → Bool) → all 1 P ≡ P 0
unfolding all
all_one P = refl

all_none : (P : ℕ → Bool) → all 0 P ≡ true
unfolding all
all_none P = refl

all_first : (n : ℕ) (P : ℕ → Bool) → all (suc n) P ≡ (all 1 P && all n (λ j. P (1 + j)))
all_first n P = let next : suc n ≡ 1 + n = omega arith in ap (λ k. all k P) next ∙ all_split 1 n P

-- a test of each element of a list is one of each place
pub all-places : {B : Type 0} (test : B → Bool) (d : B) (xs : List B) (n : ℕ) (P : ℕ → Bool) → length xs ≡ n → ((i : ℕ) → i < n → test (get_or xs i d) ≡ P i) → list_all test xs ≡ all n P
all-places test d [] zero P e is = sym (all_none P)
all-places test d [] (suc n) P e is = absurd (omega arith)
all-places test d (x ∷ xs) zero P e is = absurd (omega arith)
all-places test d (x ∷ xs) (suc n) P e is =
    ap₂ (λ a b. a && b) (is 0 (omega arith) ∙ sym (all_one P))
    (all-places test d xs n (λ j. P (1 + j)) (omega arith) (λ i l. let next : suc i ≡ 1 + i = omega arith in is (suc i) (omega arith) ∙ ap P next))
    ∙ sym (all_first n P)

-- a list of the stated length holds each entry of a matrix once: a test of all its places is one of every entry
pub all-entries : (n rows cols : ℕ) (P : ℕ → Bool) → n ≡ rows * cols → all n P ≡ every rows cols (λ i j. P (i * cols + j))
unfolding all every
all-entries n zero cols P e = rw (e, zero-mul cols) refl
all-entries n (suc rows) cols P e = rw (e, suc-mul rows cols, all_split (rows * cols) cols P, all-entries (rows * cols) rows cols P refl) refl

-- and of the numbers below n, one of each of them
pub all-range : (n : ℕ) (P : ℕ → Bool) → list_all P (range_with_len 0 n) ≡ all n P
all-range n P = all-places P 0 (range_with_len 0 n) n P (length-range_with_len 0 n) (λ i l. ap P (get_or-range_with_len 0 n i 0 l ∙ omega arith))
