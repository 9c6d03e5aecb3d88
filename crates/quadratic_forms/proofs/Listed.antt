-- The list of the ternary vectors: each stands in it once, and no other vector does.
use mathlib.Core.Path.{◌≡◌, refl, ap, ap₂, subst, sym, ◌∙◌}
use mathlib.Core.Bool.{Bool, true, false, cond, ◌&&◌, and-true, and-false}
use mathlib.Core.List.{List, [], ◌∷◌, ◌++◌, map}
use Prim.Native.Nat.{ℕ, zero, suc, ◌+◌}
use native.Mathlib.Omega.{arith}
use lib.Dec.{T, leb, leb→le}
use lib.IntN.{ℤ, pos, negsuc, nat_abs}
use Rattle.integers.specs.Lists.{every}
use Rattle.integers.specs.Tests.{all}
use Rattle.integers.proofs.Tests.{and_fst, and_snd, and_both, all_cong}
use Rattle.lova.specs.Tests.{eq_Z}
use Rattle.quadratic_forms.specs.Forms.{Vector, put, vectors, tally, count_of, is_ternary, is_same}
use Rattle.quadratic_forms.proofs.Counts.{count_cong, count_none, count-vectors}
use Rattle.quadratic_forms.proofs.Forms.{put_last, put-below}

-- of all vectors that end with d, those with the entries of c
same-put : (n : ℕ) (c v : Vector) (d : ℤ) → is_same (suc n) c (put n d v) ≡ (is_same n c v && eq_Z (c n) d)
unfolding all
same-put n c v d = ap₂ ◌&&◌ (all_cong n _ _ (λ i h. ap (eq_Z (c i)) (put-below n d v i h))) (ap (eq_Z (c n)) (put_last n d v))

ending : (n : ℕ) (c : Vector) (d : ℤ) (b : Bool) → eq_Z (c n) d ≡ b
    → count_of (λ v. is_same (suc n) c (put n d v)) (vectors n) ≡ cond b (count_of (is_same n c) (vectors n)) 0
ending n c d true e = count_cong _ _ (vectors n) (λ v. same-put n c v d ∙ ap (λ (b : Bool). is_same n c v && b) e ∙ and-true (is_same n c v))
ending n c d false e = count_none _ (vectors n) (λ v. same-put n c v d ∙ ap (λ (b : Bool). is_same n c v && b) e ∙ and-false (is_same n c v))

-- a ternary number is one of three
one_of : (z : ℤ) (x : ℕ) → T (leb (nat_abs z) 1) → cond (eq_Z z (negsuc 0)) x 0 + (cond (eq_Z z (pos 0)) x 0 + cond (eq_Z z (pos 1)) x 0) ≡ x
unfolding eq_Z
one_of (pos zero) x h = omega arith
one_of (pos (suc zero)) x h = omega arith
one_of (pos (suc (suc n))) x h = absurd (omega (arith, leb→le (suc (suc n)) 1 h))
one_of (negsuc zero) x h = omega arith
one_of (negsuc (suc n)) x h = absurd (omega (arith, leb→le (suc (suc n)) 1 h))

-- every ternary vector stands in the list exactly once
pub each-once : (n : ℕ) (c : Vector) → T (is_ternary n c) → count_of (is_same n c) (vectors n) ≡ 1
unfolding all vectors count_of tally
each-once zero c h = refl
each-once (suc n) c h =
    let rest = count_of (is_same n c) (vectors n) in
    count-vectors n (is_same (suc n) c)
    ∙ ap₂ (λ (a b : ℕ). a + b) (ending n c (negsuc 0) (eq_Z (c n) (negsuc 0)) refl)
    (ap₂ (λ (a b : ℕ). a + b) (ending n c (pos 0) (eq_Z (c n) (pos 0)) refl) (ending n c (pos 1) (eq_Z (c n) (pos 1)) refl))
    ∙ one_of (c n) rest (and_snd (is_ternary n c) (leb (nat_abs (c n)) 1) h)
    ∙ each-once n c (and_fst (is_ternary n c) (leb (nat_abs (c n)) 1) h)

module _ {A B : Type 0} (P : A → Bool) (Q : B → Bool) where
  every_map : (f : B → A) → ((x : B) → T (Q x) → T (P (f x))) → (xs : List B) → T (every Q xs) → T (every P (map f xs))
  every_map f h [] t = tt
  every_map f h (x ∷ xs) t = and_both (P (f x)) (every P (map f xs)) (h x (and_fst (Q x) (every Q xs) t)) (every_map f h xs (and_snd (Q x) (every Q xs) t))

every_append : {A : Type 0} (P : A → Bool) (xs ys : List A) → T (every P xs) → T (every P ys) → T (every P (xs ++ ys))
every_append P [] ys h k = k
every_append P (x ∷ xs) ys h k = and_both (P x) (every P (xs ++ ys)) (and_fst (P x) (every P xs) h) (every_append P xs ys (and_snd (P x) (every P xs) h) k)

-- a ternary vector with one ternary entry more is one
ternary-put : (n : ℕ) (d : ℤ) → T (leb (nat_abs d) 1) → (v : Vector) → T (is_ternary n v) → T (is_ternary (suc n) (put n d v))
unfolding all
ternary-put n d h v t =
    let same : is_ternary n (put n d v) ≡ is_ternary n v = all_cong n _ _ (λ i k. ap (λ (z : ℤ). leb (nat_abs z) 1) (put-below n d v i k)) in
    and_both (is_ternary n (put n d v)) (leb (nat_abs (put n d v n)) 1) (subst T (sym same) t) (rw (put_last n d v) h)

-- and every vector in the list is ternary
pub only_ternary : (n : ℕ) → T (every (is_ternary n) (vectors n))
unfolding vectors all
only_ternary zero = tt
only_ternary (suc n) =
    let ends : (d : ℤ) → T (leb (nat_abs d) 1) → T (every (is_ternary (suc n)) (map (put n d) (vectors n))) =
    λ d h. every_map (is_ternary (suc n)) (is_ternary n) (put n d) (ternary-put n d h) (vectors n) (only_ternary n) in
    every_append (is_ternary (suc n)) (map (put n (negsuc 0)) (vectors n)) _ (ends (negsuc 0) tt)
    (every_append (is_ternary (suc n)) (map (put n (pos 0)) (vectors n)) _ (ends (pos 0) tt) (ends (pos 1) tt))
