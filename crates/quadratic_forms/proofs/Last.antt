-- What is at most quadratic in its last entry, and how often it is 0.
use mathlib.Core.Path.{◌≡◌, refl, sym, ap, ap₂, subst, ◌∙◌}
use mathlib.Core.Logic.{◌≢◌}
use mathlib.Core.Bool.{Bool, true, false}
use Prim.Native.Nat.{ℕ, suc, ◌+◌, ◌*◌, ◌^◌, ◌≤◌}
use native.Mathlib.Omega.{arith}
use lib.Dec.{T}
use lib.IntN.{ℤ, pos, negsuc, neg_ℤ, ◌+ℤ◌, ◌-ℤ◌, ◌*ℤ◌, pos-ne-negsuc, nat_abs}
use Rattle.integers.proofs.Tests.{true-is}
use Rattle.integers.proofs.Ring.{ring, diff_eq, as_diff}
use Rattle.lova.specs.Tests.{eq_Z}
use Rattle.lova.proofs.Tests.{eq_Z_iff}
use Rattle.quadratic_forms.specs.Forms.{Vector, put, vectors, tally, zeros_of}
use Rattle.quadratic_forms.proofs.Counts.{tally-high, count-three, zeros_cong, zeros-last, length-vectors}

-- f by its last entry c: g + L c + A c²
abbrev pub Last : ℕ → (Vector → ℤ) → (Vector → ℤ) → (Vector → ℤ) → ℤ → Type 0
Last n f g L A = (c : ℤ) (v : Vector) → f (put n c v) ≡ g v +ℤ (L v *ℤ c +ℤ A *ℤ (c *ℤ c))

-- its values at −1, 0 and 1
at-minus : (g L A : ℤ) → g +ℤ (L *ℤ neg_ℤ (pos 1) +ℤ A *ℤ (neg_ℤ (pos 1) *ℤ neg_ℤ (pos 1))) ≡ (g +ℤ A) -ℤ L
at-minus g L A = rw (as_diff g, as_diff L, as_diff A) (simp ring (diff_eq _ _ _ _ (omega arith)))

at_zero : (g L A : ℤ) → g +ℤ (L *ℤ pos 0 +ℤ A *ℤ (pos 0 *ℤ pos 0)) ≡ g
at_zero g L A = rw (as_diff g, as_diff L, as_diff A) (simp ring (diff_eq _ _ _ _ (omega arith)))

at-plus : (g L A : ℤ) → g +ℤ (L *ℤ pos 1 +ℤ A *ℤ (pos 1 *ℤ pos 1)) ≡ (g +ℤ A) +ℤ L
at-plus g L A = rw (as_diff g, as_diff L, as_diff A) (simp ring (diff_eq _ _ _ _ (omega arith)))

-- ---- zero and not

abbrev pub is_zero : ℤ → Bool
is_zero z = eq_Z z (pos 0)

pub zero_is : (z : ℤ) → is_zero z ≡ true → z ≡ pos 0
zero_is z e = (eq_Z_iff z (pos 0)).0 (subst T (sym e) tt)

pub is-zero : (z : ℤ) → z ≡ pos 0 → is_zero z ≡ true
is-zero z e = true-is (is_zero z) ((eq_Z_iff z (pos 0)).1 e)

pub not-zero : (z : ℤ) → is_zero z ≡ false → z ≢ pos 0
not-zero z e f = subst T (sym (is-zero z f) ∙ e) tt

-- what the machine's test of a value tells
pub tally-zero : (z : ℤ) → z ≡ pos 0 → 1 ≡ tally (is_zero z)
unfolding tally
tally-zero z e = rw (is-zero z e) refl

pub tally-other : (z : ℤ) → z ≢ pos 0 → 0 ≡ tally (is_zero z)
unfolding tally
tally-other z ne = go (is_zero z) refl
  where
    go : (b : Bool) → is_zero z ≡ b → 0 ≡ tally b
    go true e = absurd (ne (zero_is z e))
    go false e = refl

pub twice : (a : ℤ) → a +ℤ a ≡ pos 0 → a ≡ pos 0
twice (pos n) e = ap pos (let h : n + n ≡ 0 = ap nat_abs e in omega arith)
twice (negsuc n) e = absurd (pos-ne-negsuc 0 (suc (n + n)) (sym e))

-- A and L of which the three values leave nothing
twice-A : (g L A : ℤ) → A +ℤ A ≡ (((g +ℤ A) -ℤ L) +ℤ ((g +ℤ A) +ℤ L)) -ℤ (g +ℤ g)
twice-A g L A = rw (as_diff g, as_diff L, as_diff A) (simp ring (diff_eq _ _ _ _ (omega arith)))

twice_L : (g L A : ℤ) → L +ℤ L ≡ ((g +ℤ A) +ℤ L) -ℤ ((g +ℤ A) -ℤ L)
twice_L g L A = rw (as_diff g, as_diff L, as_diff A) (simp ring (diff_eq _ _ _ _ (omega arith)))

L_below : (g L A : ℤ) → L ≡ (g +ℤ A) -ℤ ((g +ℤ A) -ℤ L)
L_below g L A = rw (as_diff g, as_diff L, as_diff A) (simp ring (diff_eq _ _ _ _ (omega arith)))

L_above : (g L A : ℤ) → L ≡ ((g +ℤ A) +ℤ L) -ℤ (g +ℤ A)
L_above g L A = rw (as_diff g, as_diff L, as_diff A) (simp ring (diff_eq _ _ _ _ (omega arith)))

pub plus_none : (z a : ℤ) → a ≡ pos 0 → z +ℤ a ≡ z
plus_none z a e = ap (λ (y : ℤ). z +ℤ y) e ∙ rw (as_diff z) (simp ring (diff_eq _ _ _ _ (omega arith)))

minus-none : (z a : ℤ) → a ≡ pos 0 → z -ℤ a ≡ z
minus-none z a e = ap (λ (y : ℤ). z -ℤ y) e ∙ rw (as_diff z) (simp ring (diff_eq _ _ _ _ (omega arith)))

-- ---- how many of the three are 0

abbrev three : ℤ → ℤ → ℤ → ℕ
three x y z = tally (is_zero x) + (tally (is_zero y) + tally (is_zero z))

not-all : (a b c : Bool) → (a ≡ true → b ≡ true → c ≡ true → ⊥) → tally a + (tally b + tally c) ≤ 2
unfolding tally
not-all true true true f = absurd (f refl refl refl)
not-all true true false f = omega arith
not-all true false c f = omega (arith, tally-high c)
not-all false b c f = omega (arith, tally-high b, tally-high c)

not-two : (a b c : Bool) → (a ≡ true → b ≡ true → ⊥) → (a ≡ true → c ≡ true → ⊥) → (b ≡ true → c ≡ true → ⊥) → tally a + (tally b + tally c) ≤ 1
unfolding tally
not-two true true c f g h = absurd (f refl refl)
not-two true false true f g h = absurd (g refl refl)
not-two true false false f g h = omega arith
not-two false true true f g h = absurd (h refl refl)
not-two false true false f g h = omega arith
not-two false false c f g h = omega (arith, tally-high c)

-- at most two where A is not 0
two-of-three : (g L A : ℤ) → A ≢ pos 0 → three ((g +ℤ A) -ℤ L) g ((g +ℤ A) +ℤ L) ≤ 2
two-of-three g L A ne = not-all _ _ _ (λ x y z.
    ne (twice A (twice-A g L A ∙ ap₂ ◌-ℤ◌ (ap₂ ◌+ℤ◌ (zero_is _ x) (zero_is _ z)) (ap₂ ◌+ℤ◌ (zero_is g y) (zero_is g y)))))

-- at most one where A is 0 and L is not
one_of_three : (g L A : ℤ) → A ≡ pos 0 → (b : Bool) → is_zero L ≡ b → three ((g +ℤ A) -ℤ L) g ((g +ℤ A) +ℤ L) ≤ 1 + 2 * tally b
unfolding tally
one_of_three g L A e true f =
    omega (arith, tally-high (is_zero ((g +ℤ A) -ℤ L)), tally-high (is_zero g), tally-high (is_zero ((g +ℤ A) +ℤ L)))
one_of_three g L A e false f =
    let same : (is_zero g ≡ true) → g +ℤ A ≡ pos 0 = λ y. plus_none g A e ∙ zero_is g y in
    omega (
      arith,
      not-two (is_zero ((g +ℤ A) -ℤ L)) (is_zero g) (is_zero ((g +ℤ A) +ℤ L))
          (λ x y. not-zero L f (L_below g L A ∙ ap₂ ◌-ℤ◌ (same y) (zero_is _ x)))
          (λ x z. not-zero L f (twice L (twice_L g L A ∙ ap₂ ◌-ℤ◌ (zero_is _ z) (zero_is _ x))))
          (λ y z. not-zero L f (L_above g L A ∙ ap₂ ◌-ℤ◌ (zero_is _ z) (same y))),
    )

module _ (n : ℕ) (f g L : Vector → ℤ) (A : ℤ) (last : Last n f g L A) where
  -- the count by the three values
  pub by_last : zeros_of (suc n) f ≡ zeros_of n (λ v. (g v +ℤ A) -ℤ L v) + (zeros_of n g + zeros_of n (λ v. (g v +ℤ A) +ℤ L v))
  by_last = zeros-last n f ∙ ap₂ (λ (a b : ℕ). a + b)
      (zeros_cong n _ _ (λ v. last (negsuc 0) v ∙ at-minus (g v) (L v) A))
      (ap₂ (λ (a b : ℕ). a + b)
      (zeros_cong n _ _ (λ v. last (pos 0) v ∙ at_zero (g v) (L v) A))
      (zeros_cong n _ _ (λ v. last (pos 1) v ∙ at-plus (g v) (L v) A)))

  -- where A is not 0 it is 0 for at most two thirds of the vectors
  pub square-bound : A ≢ pos 0 → zeros_of (suc n) f ≤ 2 * 3 ^ n
  unfolding zeros_of
  square-bound ne =
      let c = count-three 2 0 (λ v. is_zero ((g v +ℤ A) -ℤ L v)) (λ v. is_zero (g v)) (λ v. is_zero ((g v +ℤ A) +ℤ L v)) (λ v. is_zero (g v)) (vectors n)
      (λ v. omega (arith, two-of-three (g v) (L v) A ne)) in
      omega (arith, by_last, c, length-vectors n)

  module _ (none : A ≡ pos 0) where
    -- where A is 0 it is 0 for at most a third of them, and for all where L is 0
    pub linear-bound : zeros_of (suc n) f ≤ 3 ^ n + 2 * zeros_of n L
    unfolding zeros_of
    linear-bound =
        let c = count-three 1 2 (λ v. is_zero ((g v +ℤ A) -ℤ L v)) (λ v. is_zero (g v)) (λ v. is_zero ((g v +ℤ A) +ℤ L v)) (λ v. is_zero (L v)) (vectors n)
        (λ v. one_of_three (g v) (L v) A none (is_zero (L v)) refl) in
        omega (arith, by_last, c, length-vectors n)

    -- where L is 0 everywhere too, the last entry is free
    pub free : ((v : Vector) → L v ≡ pos 0) → zeros_of (suc n) f ≡ 3 * zeros_of n g
    free flat =
        let down = zeros_cong n (λ v. (g v +ℤ A) -ℤ L v) g (λ v. minus-none _ (L v) (flat v) ∙ plus_none (g v) A none) in
        let up = zeros_cong n (λ v. (g v +ℤ A) +ℤ L v) g (λ v. plus_none _ (L v) (flat v) ∙ plus_none (g v) A none) in
        omega (arith, by_last, down, up)
