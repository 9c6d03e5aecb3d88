-- L as document 01 has it: the greatest of all whole numbers that pass the test. Then the sizes of k and of the powers of b.
use mathlib.Core.Path.{◌≡◌, ap}
use mathlib.Core.Logic.{⊎_elim}
use mathlib.Core.Bool.{Bool, not}
use Prim.Native.Nat.{ℕ, zero, suc, ◌+◌, ◌-◌, ◌*◌, ◌^◌, ◌≤◌, ◌<◌}
use native.Mathlib.Omega.{arith, by_contra}
use native.Mathlib.Nat.{pow-zero, pow-le-pow_left, pow-le-pow_right, eq-or-lt_of_le, le_of_suc-le-suc, mul-le-mul, le_trans, le_antisymm}
use lib.Dec.{T, leb, leb→le, le→leb, T_not, not_T}
use lib.Pow.{pow-add}
use Rattle.integers.proofs.Tests.{cond_ind, le_or_lt}
use Rattle.settings.proofs.PowerSteps.{pow_two}
use Rattle.settings.specs.Settings.{Parameters, places, greatest, LOf, k_of}

-- a test that fails from its first failure on
abbrev pub Falling : (ℕ → Bool) → Type 0
Falling P = (i j : ℕ) → i ≤ j → T (P j) → T (P i)

-- g is the greatest of all whole numbers that pass the test
pub record Greatest (P : ℕ → Bool) (g : ℕ) : Type 0 where
  pub passes : T (P g)
  pub most : (l : ℕ) → T (P l) → l ≤ g

greatest-passes : (n : ℕ) (P : ℕ → Bool) → T (P 0) → T (P (greatest n P))
unfolding greatest
greatest-passes zero P h = h
greatest-passes (suc n) P h = cond_ind (P (suc n)) (suc n) (greatest n P) (λ (g : ℕ). T (P g)) (λ t. t) (λ t. greatest-passes n P h)

greatest-above : (n : ℕ) (P : ℕ → Bool) (l : ℕ) → l ≤ n → T (P l) → l ≤ greatest n P
unfolding greatest
greatest-above zero P l h t = h
greatest-above (suc n) P l h t =
    cond_ind (P (suc n)) (suc n) (greatest n P) (λ (g : ℕ). l ≤ g) (λ u. h)
    (λ u. ⊎_elim (λ (e : l ≡ suc n). absurd (T_not (P (suc n)) u (rw (← e) t))) (λ (k : l < suc n). greatest-above n P l (le_of_suc-le-suc k) t) (eq-or-lt_of_le h))

-- the search stays below its limit
pub greatest-within : (n : ℕ) (P : ℕ → Bool) → greatest n P ≤ n
unfolding greatest
greatest-within zero P = omega arith
greatest-within (suc n) P = cond_ind (P (suc n)) (suc n) (greatest n P) (λ (g : ℕ). g ≤ suc n) (λ u. omega arith) (λ u. omega (arith, greatest-within n P))

-- the search as far as n finds the greatest of all, where the test falls and has failed at n + 1
pub greatest-of-all : (n : ℕ) (P : ℕ → Bool) → Falling P → T (P 0) → T (not (P (suc n))) → Greatest P (greatest n P)
greatest-of-all n P falls low high =
    record {
      passes = greatest-passes n P low;
      most = λ l t. greatest-above n P l (by_contra l n (λ k. T_not (P (suc n)) high (falls (suc n) l k t))) t;
    }

-- there is only one
pub greatest_unique : (P : ℕ → Bool) (f g : ℕ) → Greatest P f → Greatest P g → f ≡ g
greatest_unique P f g x y = le_antisymm (y.most f x.passes) (x.most g y.passes)

-- k is at most 33, the number of places for powers
pub k-high : (p : Parameters) → k_of p ≤ 33
unfolding LOf
k-high p = omega (arith, greatest-within (places - 2) (λ l. leb (p.b ^ (2 * l)) p.bound))

module _ (p : Parameters) (b-low : 2 ≤ p.b) (bound-low : 1 ≤ p.bound) (bound-high : p.bound ≤ 2 ^ 62) where
  falls : Falling (λ l. leb (p.b ^ (2 * l)) p.bound)
  falls i j h t = le→leb _ _ (le_trans (pow-le-pow_right {n = p.b} (omega arith) {i = 2 * i} {j = 2 * j} (omega arith)) (leb→le _ _ t))

  L_greatest : Greatest (λ l. leb (p.b ^ (2 * l)) p.bound) (LOf p)
  unfolding LOf
  L_greatest =
      greatest-of-all (places - 2) (λ l. leb (p.b ^ (2 * l)) p.bound) falls
      (le→leb (p.b ^ 0) p.bound (rw (pow-zero p.b) bound-low))
      (not_T (leb (p.b ^ 64) p.bound) (λ t. omega (arith, leb→le (p.b ^ 64) p.bound t, pow-le-pow_left b-low 64)))

  -- b^(2L) ≤ B
  pub L_passes : p.b ^ (2 * LOf p) ≤ p.bound
  L_passes = leb→le _ _ L_greatest.passes

  -- every l with b^(2l) ≤ B is at most L
  pub L_most : (l : ℕ) → p.b ^ (2 * l) ≤ p.bound → l ≤ LOf p
  L_most l h = L_greatest.most l (le→leb _ _ h)

  -- B < b^(2(L + 1))
  pub L_above : p.bound < p.b ^ (2 * (LOf p + 1))
  L_above = ⊎_elim (λ h. absurd (omega (arith, L_most (LOf p + 1) h))) (λ h. h) (le_or_lt (p.b ^ (2 * (LOf p + 1))) p.bound)

  -- a level that passes, while the next fails, is L
  pub L_is : (l : ℕ) → p.b ^ (2 * l) ≤ p.bound → p.bound < p.b ^ (2 * (l + 1)) → l ≡ LOf p
  L_is l low high =
      le_antisymm (L_most l low)
      (by_contra (LOf p) l (λ h. omega (arith, L_passes, high, pow-le-pow_right {n = p.b} (omega arith) {i = 2 * (l + 1)} {j = 2 * LOf p} (omega arith))))

  root-small : p.b ^ LOf p ≤ 2 ^ 31
  root-small = by_contra (p.b ^ LOf p) (2 ^ 31) (λ h.
      let e : 2 * LOf p ≡ LOf p + LOf p = omega arith in
      omega (arith, L_passes, ap (λ (x : ℕ). p.b ^ x) e, pow-add p.b (LOf p) (LOf p), mul-le-mul h h))

  -- b^(L + 2), which is b^k, is below 2^63
  pub powers_fit : p.b ≤ 65535 → p.b ^ (LOf p + 2) < 2 ^ 63
  powers_fit b-high =
      let q : p.b ^ 2 ≤ 4294836225 = omega (arith, pow_two p.b, mul-le-mul b-high b-high) in
      omega (arith, pow-add p.b (LOf p) 2, mul-le-mul root-small q)
