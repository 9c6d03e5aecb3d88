-- One step of the digit rule.
use mathlib.Core.Path.{◌≡◌, refl, sym, ◌∙◌, ap, ap₂, subst}
use mathlib.Core.Bool.{Bool, true, false, cond}
use mathlib.Core.Logic.{◌≢◌, ⊎_elim}
use Prim.Native.Nat.{ℕ, zero, suc, ◌+◌, ◌*◌, ◌-◌, ◌/◌, ◌%◌, ◌^◌, ◌<◌, ◌≤◌}
use native.Mathlib.Omega.{arith}
use native.Mathlib.Nat.{div-add-mod', mod-lt, mul-div_cancel, add-zero, mul-zero, mul-one, mul-le-mul_left, pow-suc, div-eq_of_lt, zero-mod, zero-div, div-eq_of_lt-le, le_of_mul-le-mul_right, lt_of_mul-lt-mul_right}
use native.Mathlib.Numerals.{add-one-le}
use lib.Arith.{lt→nleb}
use lib.Dec.{leb, le→leb}
use lib.IntN.{ℤ, pos, negsuc, neg_ℤ, nat_abs, ◌+ℤ◌, ◌-ℤ◌, ◌*ℤ◌, +ℤ_idr, pos-ne-negsuc}
use Rattle.integers.proofs.Tests.{cond_yes, cond_no, le_or_lt}
use Rattle.integers.proofs.Ring.{diff_eq, ring}
use Rattle.integers.proofs.Sizes.{nat_abs_negate}
use Rattle.digits.specs.declared.Step.{Step}
use Rattle.digits.specs.Digits.{step_of, carry_of}

module _ (b w : ℕ) (base : 2 ≤ b) where
  -- (w − d)/b is w / b
  quotient : (w - w % b) / b ≡ w / b
  quotient = ap (λ (n : ℕ). n / b) (let e = div-add-mod' w b in omega arith) ∙ mul-div_cancel (w / b) (omega arith)

  -- the step where d ≤ h
  pub step-low : w % b ≤ b / 2 → step_of b w ≡ record { digit = pos (w % b); rest = w / b }
  unfolding step_of
  step-low h = cond_yes (leb (w % b) (b / 2)) _ _ (le→leb (w % b) (b / 2) h) ∙ ap (λ (q : ℕ). record { digit = pos (w % b); rest = q }) quotient

  -- the step where d > h
  pub step-high : b / 2 < w % b → step_of b w ≡ record { digit = pos (w % b) -ℤ pos b; rest = w / b + 1 }
  unfolding step_of
  step-high h = cond_no (leb (w % b) (b / 2)) _ _ (lt→nleb (w % b) (b / 2) h) ∙ ap (λ (q : ℕ). record { digit = pos (w % b) -ℤ pos b; rest = q + 1 }) quotient

  -- both cases, with the quotient q and the remainder d of w by b
  pub step_cases : (P : Step → Type 0)
      → ((q d : ℕ) → w ≡ q * b + d → d ≤ b / 2 → P (record { digit = pos d; rest = q }))
      → ((q d : ℕ) → w ≡ q * b + d → d < b → b / 2 < d → P (record { digit = pos d -ℤ pos b; rest = q + 1 }))
      → P (step_of b w)
  step_cases P f g = ⊎_elim
      (λ (h : w % b ≤ b / 2). subst P (sym (step-low h)) (f (w / b) (w % b) (sym (div-add-mod' w b)) h))
      (λ (h : b / 2 < w % b). subst P (sym (step-high h)) (g (w / b) (w % b) (sym (div-add-mod' w b)) (mod-lt w (omega arith)) h))
      (le_or_lt (w % b) (b / 2))

-- the step of 0
pub step-zero : (b : ℕ) → step_of b 0 ≡ record { digit = pos 0; rest = 0 }
unfolding step_of
step-zero b = rw (zero-mod b, zero-div b) (cond_yes (leb 0 (b / 2)) _ _ (le→leb 0 (b / 2) (omega arith)))

-- d − b is −(b − d)
pub below-base : (d b : ℕ) → d ≤ b → pos d -ℤ pos b ≡ neg_ℤ (pos (b - d))
below-base d b h = simp ring (diff_eq _ _ _ _ (omega arith))

-- For every base b and every d below b, the carry is the 1 that the rule adds, or 0, and d less b times the carry is the rule's digit.
module _ (b d : ℕ) (base : 2 ≤ b) (below : d < b) where
  carry_none : d ≤ b / 2 → carry_of b d ≡ 0
  carry_none h = div-eq_of_lt (omega arith)

  carry_one : b / 2 < d → carry_of b d ≡ 1
  carry_one h = div-eq_of_lt-le b (omega arith) (omega arith)

  pub by_arithmetic : (carry_of b d ≡ cond (leb d (b / 2)) 0 1) × (pos d -ℤ pos (b * carry_of b d) ≡ cond (leb d (b / 2)) (pos d) (pos d -ℤ pos b))
  by_arithmetic = ⊎_elim
      (λ (h : d ≤ b / 2).
      let yes = le→leb d (b / 2) h in
      (carry_none h ∙ sym (cond_yes (leb d (b / 2)) 0 1 yes), rw (carry_none h, mul-zero b) (+ℤ_idr (pos d) ∙ sym (cond_yes (leb d (b / 2)) (pos d) (pos d -ℤ pos b) yes))))
      (λ (h : b / 2 < d).
      let no = lt→nleb d (b / 2) h in
      (carry_one h ∙ sym (cond_no (leb d (b / 2)) 0 1 no), rw (carry_one h, mul-one b) (sym (cond_no (leb d (b / 2)) (pos d) (pos d -ℤ pos b) no))))
      (le_or_lt d (b / 2))

  pub carry_most : carry_of b d ≤ 1
  carry_most = ⊎_elim (λ (h : d ≤ b / 2). omega (arith, carry_none h)) (λ (h : b / 2 < d). omega (arith, carry_one h)) (le_or_lt d (b / 2))

module _ (b w : ℕ) (base : 2 ≤ b) where
  -- a step's digit is at most h = b/2 in size
  pub step-size : nat_abs (step_of b w).digit ≤ b / 2
  step-size = step_cases b w base (λ s. nat_abs s.digit ≤ b / 2) (λ q d e k. k) (λ q d e l k. far d l k)
    where
      far : (d : ℕ) → d < b → b / 2 < d → nat_abs (pos d -ℤ pos b) ≤ b / 2
      far d l k = rw (below-base d b (omega arith), nat_abs_negate (pos (b - d))) (omega arith)

  -- the digit and b times what is left make w
  pub step_value : (step_of b w).digit +ℤ pos b *ℤ pos (step_of b w).rest ≡ pos w
  step_value = step_cases b w base (λ s. s.digit +ℤ pos b *ℤ pos s.rest ≡ pos w)
      (λ q d e k. ap pos (rw e (omega arith)))
      (λ q d e l k. rw e (simp ring (diff_eq _ _ _ _ (omega arith))))

  -- a size up to b^(j + 1) leaves one up to b^j
  pub step-rest : (j : ℕ) → w ≤ b ^ suc j → (step_of b w).rest ≤ b ^ j
  step-rest j h = step_cases b w base (λ s. s.rest ≤ b ^ j)
      (λ q d e k. le_of_mul-le-mul_right {k = b} (omega (arith, pow-suc b j)) (omega arith))
      (λ q d e l k. add-one-le (lt_of_mul-lt-mul_right b {m = q} {n = b ^ j} (omega (arith, pow-suc b j))))

  -- a size up to 1 leaves nothing
  pub step-last : w ≤ 1 → (step_of b w).rest ≡ 0
  step-last h = step_cases b w base (λ s. s.rest ≡ 0) (λ q d e k. none q d e) (λ q d e l k. absurd (omega arith))
    where
      none : (q d : ℕ) → w ≡ q * b + d → q ≡ 0
      none zero d e = refl
      none (suc q) d e = absurd (omega arith)

  -- no step leaves more than there was
  pub step_less : (step_of b w).rest ≤ w
  step_less = step_cases b w base (λ s. s.rest ≤ w)
      (λ q d e k. omega (arith, mul-le-mul_left q base))
      (λ q d e l k. omega (arith, mul-le-mul_left q base))

  -- the step by its carry
  pub by_carry : step_of b w ≡ record { digit = pos (w % b) -ℤ pos (b * carry_of b (w % b)); rest = w / b + carry_of b (w % b) }
  unfolding step_of
  by_carry =
      let a = by_arithmetic b (w % b) base (mod-lt w (omega arith)) in
      apart (leb (w % b) (b / 2)) (pos (w % b)) (pos (w % b) -ℤ pos b) ((w - w % b) / b)
      ∙ ap₂ (λ (z : ℤ) (c : ℕ). record { digit = z; rest = (w - w % b) / b + c }) (sym a.1) (sym a.0)
      ∙ ap (λ (q : ℕ). record { digit = pos (w % b) -ℤ pos (b * carry_of b (w % b)); rest = q + carry_of b (w % b) }) (quotient b w base)
    where
      apart : (c : Bool) (x y : ℤ) (q : ℕ) → ◌≡◌ {A = Step} (cond c (record { digit = x; rest = q }) (record { digit = y; rest = q + 1 })) (record { digit = cond c x y; rest = q + cond c 0 1 })
      apart true x y q = ap (λ (n : ℕ). record { digit = x; rest = n }) (sym (add-zero q))
      apart false x y q = refl

-- at an even base b = 2h the remainder h is a tie: its digit is h
pub step_tie : (h w : ℕ) → 1 ≤ h → w % (2 * h) ≡ h → (step_of (2 * h) w).digit ≡ pos h
step_tie h w l e = ap (λ (s : Step). s.digit) (step-low (2 * h) w (omega arith) (omega arith)) ∙ ap pos e

-- so no step to an even base gives the digit −h
pub no_minus-half : (h w : ℕ) → 1 ≤ h → (step_of (2 * h) w).digit ≢ neg_ℤ (pos h)
no_minus-half zero w l = absurd (omega arith)
no_minus-half (suc h) w l = step_cases (2 * suc h) w (omega arith) (λ s. s.digit ≢ negsuc h)
    (λ q d e k f. pos-ne-negsuc d h f)
    (λ q d e m k f. omega (arith, nat_abs_negate (pos (2 * suc h - d)), ap nat_abs (sym (below-base d (2 * suc h) (omega arith)) ∙ f)))
