-- A slice that is being filled with what is drawn: one law for every kind of entry.
use Rattle.std.proofs.Common.{◌≡◌, ℕ, zero, suc, ◌+◌, ◌<◌, List, [], ◌∷◌, ◌++◌, length, take, set, refl, ap, ◌∙◌, add-one}
use Rattle.std.proofs.Math.Seq.{take-suc-set}
use Rattle.integers.specs.Lists.{build}
use Rattle.draws.specs.Draws.{next, after, draw, drawn}

build-more : {A : Type 0} (n : ℕ) (f : ℕ → A) → build (suc n) f ≡ build n f ++ (f n ∷ [])
unfolding build
build-more zero f = refl
build-more (suc n) f = ap (λ xs. f 0 ∷ xs) (build-more n (λ i. f (suc i)))

-- one draw more, and the entry that is made of it
pub after_more : (s i state x : ℕ) → state ≡ after i s → x ≡ next state → x ≡ after (i + 1) s
unfolding after
after_more s i state x e p = rw (add-one i) (p ∙ ap next e)

pub drawn-more : {A : Type 0} (of : ℕ → A) (s i x : ℕ) (xs : List A) (v : A) → i < length xs → x ≡ after (i + 1) s → v ≡ of x → take i xs ≡ drawn of i s
    → take (i + 1) (set xs i v) ≡ drawn of (i + 1) s
unfolding drawn
drawn-more of s i x xs v h e made w =
    let d : x ≡ draw s i = rw (← add-one i) e in
    rw (add-one i, take-suc-set xs i v h, w, build-more i (λ j. of (draw s j)), made, d)
