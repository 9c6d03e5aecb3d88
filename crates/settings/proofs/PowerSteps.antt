-- One power more: in a list of powers, in a repunit, and two at once.
use mathlib.Core.Path.{◌≡◌, refl, ap, ◌∙◌}
use mathlib.Core.Bool.{cond}
use Prim.Native.Nat.{ℕ, suc, ◌+◌, ◌-◌, ◌*◌, ◌^◌, ◌≤◌, ◌<◌}
use native.Mathlib.Omega.{arith}
use native.Mathlib.Numerals.{add-one}
use native.Mathlib.Nat.{pow-zero, pow-suc, one-mul, mul-le-mul_left}
use native.Mathlib.Decide.{ℕ_discrete}
use lib.Dec.{ltb}
use lib.ListN.{get_or, set, replicate, length-set}
use lib.Pow.{pow-add}
use lib.Seq.{get_or-set_same, get_or-set_other}
use borrow.Author.Tests.{lt-ltb}
use Rattle.integers.specs.Lists.{build}
use Rattle.integers.proofs.Lists.{length-build, get_or-build, is-build}
use Rattle.integers.proofs.Tests.{leb-same}

pub pow_next : (b p : ℕ) → b ^ (p + 1) ≡ b ^ p * b
pow_next b p = rw (add-one p) (pow-suc b p)

pub pow_two : (b : ℕ) → b ^ 2 ≡ b * b
pow_two b = pow-suc b 1 ∙ ap (λ (x : ℕ). x * b) (pow-suc b 0 ∙ ap (λ (x : ℕ). x * b) (pow-zero b) ∙ one-mul b)

-- one level more
pub pow_level : (b l : ℕ) → b ^ (2 * (l + 1)) ≡ b ^ (2 * l) * (b * b)
pow_level b l =
    let e : 2 * (l + 1) ≡ 2 * l + 2 = omega arith in
    ap (λ (x : ℕ). b ^ x) e ∙ pow-add b (2 * l) 2 ∙ ap (λ (x : ℕ). b ^ (2 * l) * x) (pow_two b)

-- what stands in place p
abbrev pub placed : ℕ → ℕ → ℕ → ℕ
placed b k p = cond (ltb p k) (b ^ p) 0

-- no power written, and one more
pub powers_none : (b : ℕ) → replicate 33 0 ≡ build 33 (placed b 0)
unfolding build
powers_none b = refl

pub powers_more : (b k : ℕ) → k < 33 → set (build 33 (placed b k)) k (b ^ k) ≡ build 33 (placed b (k + 1))
powers_more b k h =
    is-build 33 (placed b (k + 1)) 0 (set (build 33 (placed b k)) k (b ^ k)) (length-set (build 33 (placed b k)) k (b ^ k) ∙ length-build 33 (placed b k)) (λ i l. go i l (ℕ_discrete i k))
  where
    go : (i : ℕ) → i < 33 → Dec (i ≡ k) → get_or (set (build 33 (placed b k)) k (b ^ k)) i 0 ≡ placed b (k + 1) i
    go i l (yes e) = rw (e, lt-ltb k (k + 1) (omega arith)) (get_or-set_same (build 33 (placed b k)) k (b ^ k) 0 (omega (arith, length-build 33 (placed b k))))
    go i l (no ne) =
        get_or-set_other (build 33 (placed b k)) k i (b ^ k) 0 ne
        ∙ get_or-build 33 (placed b k) i 0 l
        ∙ ap (λ u. cond u (b ^ i) 0) (leb-same (suc i) k (suc i) (k + 1) (λ f. omega arith, λ f. omega arith))

-- one place more: a repunit times b, and 1
pub repunit-more : (b p r : ℕ) → 2 ≤ b → r * (b - 1) + 1 ≡ b ^ p → (r * b + 1) * (b - 1) + 1 ≡ b ^ (p + 1)
repunit-more b p r h e = go r (b ^ p) (b - 1) b (omega arith) e ∙ rw (pow_next b p) refl
  where
    go : (r x d b : ℕ) → b ≡ d + 1 → r * d + 1 ≡ x → (r * b + 1) * d + 1 ≡ x * b
    go r x d b e f = rw (e, ← f) (omega arith)

-- and it stays below b^p
pub repunit-fits : (b p r : ℕ) → 2 ≤ b → r * (b - 1) + 1 ≡ b ^ p → r < b ^ p
repunit-fits b p r h e = go r (b - 1) (omega arith) e
  where
    go : (s d : ℕ) → 1 ≤ d → s * d + 1 ≡ b ^ p → s < b ^ p
    go s d l e = omega (arith, mul-le-mul_left {m = 1} {n = d} s l)
