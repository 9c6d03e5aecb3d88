-- The record's list of powers, and (b^k − 1)/(b − 1) as the sum of the powers below b^k.
use mathlib.Core.Path.{◌≡◌, refl, sym, ap, ◌∙◌}
use mathlib.Core.Logic.{◌⊎◌, inl, inr}
use mathlib.Core.Bool.{cond}
use Prim.Native.Nat.{ℕ, zero, suc, ◌+◌, ◌-◌, ◌*◌, ◌^◌, ◌≤◌, ◌<◌}
use native.Mathlib.Omega.{arith}
use native.Mathlib.Numerals.{add-one}
use native.Mathlib.Nat.{pow-zero, pow-suc, mul-div_cancel}
use lib.Dec.{ltb}
use lib.ListN.{length, get_or, get_or-eq_default}
use borrow.Author.Tests.{lt-ltb, le-ltb}
use Rattle.integers.specs.Sums.{sum_ℕ}
use Rattle.integers.proofs.Lists.{length-build, get_or-build}
use Rattle.integers.proofs.Sums.{sum_ℕ-step}
use Rattle.integers.proofs.Tests.{le_or_lt}
use Rattle.settings.specs.Settings.{powers_of, repunit}

-- what stands in place p
abbrev power : ℕ → ℕ → ℕ → ℕ
power b k p = cond (ltb p k) (b ^ p) 0

pub length_powers : (b k : ℕ) → length (powers_of b k) ≡ 33
length_powers b k = length-build 33 (power b k)

-- b^p stands in place p below k
pub powers_at : (b k p : ℕ) → p < k → k ≤ 33 → get_or (powers_of b k) p 0 ≡ b ^ p
powers_at b k p h l = get_or-build 33 (power b k) p 0 (omega arith) ∙ rw (lt-ltb p k h) refl

-- and 0 from k on
pub powers_beyond : (b k p : ℕ) → k ≤ p → get_or (powers_of b k) p 0 ≡ 0
powers_beyond b k p h = go (le_or_lt 33 p)
  where
    go : (33 ≤ p) ⊎ (p < 33) → get_or (powers_of b k) p 0 ≡ 0
    go (inl l) = get_or-eq_default (powers_of b k) 0 (omega (arith, length_powers b k))
    go (inr l) = get_or-build 33 (power b k) p 0 l ∙ rw (le-ltb p k h) refl

-- the sum of the powers below b^k, times b − 1
powers_sum : (b k : ℕ) → 2 ≤ b → sum_ℕ k (λ p. b ^ p) * (b - 1) + 1 ≡ b ^ k
unfolding sum_ℕ
powers_sum b zero h = omega (arith, pow-zero b)
powers_sum b (suc k) h = go (sum_ℕ k (λ p. b ^ p)) (b ^ k) (b - 1) (powers_sum b k h) ∙ rw (pow-suc b k) (ap (λ (x : ℕ). b ^ k * x) (omega arith))
  where
    go : (s x d : ℕ) → s * d + 1 ≡ x → (s + x) * d + 1 ≡ x * (d + 1)
    go s x d e = omega arith

-- (b^k − 1)/(b − 1) = 1 + b + … + b^(k − 1)
pub repunit-sum : (b k : ℕ) → 2 ≤ b → repunit b k ≡ sum_ℕ k (λ p. b ^ p)
unfolding repunit
repunit-sum b k h =
    let e : b ^ k - 1 ≡ sum_ℕ k (λ p. b ^ p) * (b - 1) = omega (arith, powers_sum b k h) in
    rw e (mul-div_cancel (sum_ℕ k (λ p. b ^ p)) (omega arith))

-- and it is the number that times b − 1 is b^k − 1
pub repunit-by : (b k r : ℕ) → 2 ≤ b → r * (b - 1) + 1 ≡ b ^ k → r ≡ repunit b k
unfolding repunit
repunit-by b k r h f =
    let e : b ^ k - 1 ≡ r * (b - 1) = omega (arith, f) in
    rw e (sym (mul-div_cancel r (omega arith)))

-- one power more: the repunits 0, 1, b + 1, …
pub repunit-more : (b k : ℕ) → 2 ≤ b → repunit b (k + 1) ≡ repunit b k * b + 1
repunit-more b k h =
    rw (repunit-sum b (k + 1) h, repunit-sum b k h, sum_ℕ-step k (λ p. b ^ p))
    (go (sum_ℕ k (λ p. b ^ p)) (b ^ k) (b - 1) b (omega arith) (powers_sum b k h))
  where
    go : (s x d b : ℕ) → b ≡ d + 1 → s * d + 1 ≡ x → s + x ≡ s * b + 1
    go s x d b e f = rw e (omega arith)

-- it reaches b^(k − 1)
pub repunit-reaches : (b k : ℕ) → 2 ≤ b → b ^ k ≤ repunit b (k + 1)
repunit-reaches b k h = rw (repunit-sum b (k + 1) h, sum_ℕ-step k (λ p. b ^ p)) (omega arith)

-- and is at least 1
pub repunit-low : (b k : ℕ) → 2 ≤ b → 1 ≤ k → 1 ≤ repunit b k
repunit-low b zero h l = absurd (omega arith)
repunit-low b (suc k) h l = rw (← add-one k) (omega (arith, repunit-more b k h))
