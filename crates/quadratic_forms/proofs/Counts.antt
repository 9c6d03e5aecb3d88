-- Counting over lists, and over the listed vectors.
use mathlib.Core.Path.{◌≡◌, refl, ap, ap₂, ◌∙◌}
use mathlib.Core.Bool.{Bool, true, false}
use mathlib.Core.List.{List, [], ◌∷◌, ◌++◌, map}
use Prim.Native.Nat.{ℕ, zero, suc, ◌+◌, ◌*◌, ◌^◌, ◌≤◌}
use native.Mathlib.Omega.{arith}
use native.Mathlib.Nat.{pow-suc}
use lib.IntN.{ℤ, pos, negsuc}
use lib.ListN.{length, length-map, length-append}
use Rattle.lova.specs.Tests.{eq_Z}
use Rattle.quadratic_forms.specs.Forms.{Vector, put, vectors, tally, count_of, zeros_of}

pub tally-high : (a : Bool) → tally a ≤ 1
unfolding tally
tally-high true = omega arith
tally-high false = omega arith

pub tally-small : (x : ℕ) (a : Bool) → x ≡ tally a → x ≤ 1
tally-small x a e = omega (arith, e, tally-high a)

module _ {A : Type 0} where
  pub count_append : (P : A → Bool) (xs ys : List A) → count_of P (xs ++ ys) ≡ count_of P xs + count_of P ys
  unfolding count_of
  count_append P [] ys = omega arith
  count_append P (x ∷ xs) ys = omega (arith, count_append P xs ys)

  pub count_cong : (P Q : A → Bool) (xs : List A) → ((x : A) → P x ≡ Q x) → count_of P xs ≡ count_of Q xs
  unfolding count_of
  count_cong P Q [] h = refl
  count_cong P Q (x ∷ xs) h = ap₂ (λ (a b : ℕ). a + b) (ap tally (h x)) (count_cong P Q xs h)

  -- three tests of which, with a fourth, never more than a + b of its tally pass at one element
  pub count-three : (a b : ℕ) (P Q R S : A → Bool) (xs : List A) → ((x : A) → tally (P x) + (tally (Q x) + tally (R x)) ≤ a + b * tally (S x))
      → count_of P xs + (count_of Q xs + count_of R xs) ≤ a * length xs + b * count_of S xs
  unfolding count_of
  count-three a b P Q R S [] h = omega arith
  count-three a b P Q R S (x ∷ xs) h = omega (arith, h x, count-three a b P Q R S xs h)

  pub count_none : (P : A → Bool) (xs : List A) → ((x : A) → P x ≡ false) → count_of P xs ≡ 0
  unfolding count_of tally
  count_none P [] h = refl
  count_none P (x ∷ xs) h = omega (arith, ap tally (h x), count_none P xs h)

  pub count-all : (P : A → Bool) (xs : List A) → ((x : A) → P x ≡ true) → count_of P xs ≡ length xs
  unfolding count_of tally
  count-all P [] h = refl
  count-all P (x ∷ xs) h = omega (arith, ap tally (h x), count-all P xs h)

  pub count-high : (P : A → Bool) (xs : List A) → count_of P xs ≤ length xs
  unfolding count_of
  count-high P [] = omega arith
  count-high P (x ∷ xs) = omega (arith, tally-high (P x), count-high P xs)

pub count_map : {A B : Type 0} (P : B → Bool) (f : A → B) (xs : List A) → count_of P (map f xs) ≡ count_of (λ x. P (f x)) xs
unfolding count_of
count_map P f [] = refl
count_map P f (x ∷ xs) = ap (λ (n : ℕ). tally (P (f x)) + n) (count_map P f xs)

-- the count over vectors of one entry more
pub count-vectors : (n : ℕ) (P : Vector → Bool) → count_of P (vectors (suc n))
    ≡ count_of (λ v. P (put n (negsuc 0) v)) (vectors n) + (count_of (λ v. P (put n (pos 0) v)) (vectors n) + count_of (λ v. P (put n (pos 1) v)) (vectors n))
unfolding vectors
count-vectors n P =
    let ends : ℤ → List Vector = λ c. map (put n c) (vectors n) in
    let each : (c : ℤ) → count_of P (ends c) ≡ count_of (λ v. P (put n c v)) (vectors n) = λ c. count_map P (put n c) (vectors n) in
    omega (
      arith,
      count_append P (ends (negsuc 0)) (ends (pos 0) ++ ends (pos 1)),
      count_append P (ends (pos 0)) (ends (pos 1)),
      each (negsuc 0),
      each (pos 0),
      each (pos 1),
    )

-- there are 3^n vectors
pub length-vectors : (n : ℕ) → length (vectors n) ≡ 3 ^ n
unfolding vectors
length-vectors zero = refl
length-vectors (suc n) =
    let ends : ℤ → List Vector = λ c. map (put n c) (vectors n) in
    let each : (c : ℤ) → length (ends c) ≡ 3 ^ n = λ c. length-map (vectors n) (put n c) ∙ length-vectors n in
    omega (
      arith,
      pow-suc 3 n,
      length-append (ends (negsuc 0)) (ends (pos 0) ++ ends (pos 1)),
      length-append (ends (pos 0)) (ends (pos 1)),
      each (negsuc 0),
      each (pos 0),
      each (pos 1),
    )

-- ---- the vectors that make something 0

pub zeros_cong : (n : ℕ) (f g : Vector → ℤ) → ((v : Vector) → f v ≡ g v) → zeros_of n f ≡ zeros_of n g
unfolding zeros_of
zeros_cong n f g h = count_cong _ _ (vectors n) (λ v. ap (λ (z : ℤ). eq_Z z (pos 0)) (h v))

pub zeros-high : (n : ℕ) (f : Vector → ℤ) → zeros_of n f ≤ 3 ^ n
unfolding zeros_of
zeros-high n f = omega (arith, count-high (λ c. eq_Z (f c) (pos 0)) (vectors n), length-vectors n)

-- by the last entry
pub zeros-last : (n : ℕ) (f : Vector → ℤ) → zeros_of (suc n) f
    ≡ zeros_of n (λ v. f (put n (negsuc 0) v)) + (zeros_of n (λ v. f (put n (pos 0) v)) + zeros_of n (λ v. f (put n (pos 1) v)))
unfolding zeros_of
zeros-last n f = count-vectors n (λ c. eq_Z (f c) (pos 0))
