-- Digits within h that are never −h in an entry from 0 on, nor h in one below 0, are those that the rule gives: at an even base. At
-- an odd one all digits within h are.
use mathlib.Core.Path.{◌≡◌, refl, sym, ◌∙◌, ap, ap₂}
use mathlib.Core.Bool.{true, false, true≢false}
use mathlib.Core.Logic.{◌≢◌, ⊎_elim}
use Prim.Native.Nat.{ℕ, suc, ◌+◌, ◌*◌, ◌-◌, ◌/◌, ◌%◌, ◌^◌, ◌<◌, ◌≤◌}
use native.Mathlib.Omega.{arith}
use native.Mathlib.Nat.{one-mul, eq-or-lt_of_le, le_of_suc-le-suc, div-add-mod', mod-lt}
use lib.Dec.{not_T}
use lib.IntN.{ℤ, pos, negsuc, neg_ℤ, nat_abs, ◌+ℤ◌, ◌-ℤ◌, ◌*ℤ◌, +ℤ_idl, neg_ℤ-neg_ℤ}
use lib.ListN.{length, get_or}
use lib.Signed.{lt_z}
use mathlib.Core.List.{List}
use Rattle.integers.proofs.Ring.{diff, diff_eq, diff-pos, diff_neg, diff_cases, ring, as_diff, *ℤ-assoc}
use Rattle.integers.proofs.Sizes.{nat_abs_negate, nat_abs-*}
use Rattle.integers.proofs.Tests.{true-is, false-is, all_true, all_elim}
use Rattle.integers.proofs.Sums.{sum_cong, sum_add, sum_negate, sum_mul_left}
use Rattle.digits.specs.Digits.{step_of, rest_of, sign_of, digit_of}
use Rattle.digits.proofs.Signs.{sign-size, sign-times, one-times, minus-one-times}
use Rattle.digits.proofs.Steps.{step_cases}
use Rattle.digits.proofs.Digits.{digit_by-sign, digits_so_far, above_no_minus-half, below_no_half}
use Rattle.lova.proofs.Tests.{eq_Z_iff}
use Rattle.digit_entries.specs.Entries.{Digits, entry_of, follow_rule}
use Rattle.digit_entries.proofs.Clamped.{from_zero}
use Rattle.digit_entries.proofs.Sums.{by_powers, sum_less, both_zero, all-zero}

-- the b numbers from h + 1 − b to h, as n − (b − 1 − h) for n below b
abbrev pub Ruled : ℕ → ℤ → Type 0
Ruled b z = (n : ℕ) × (n < b) × (z ≡ diff n (b - 1 - b / 2))

-- the digit of a step is one of them
step_ruled : (b w : ℕ) → 2 ≤ b → Ruled b (step_of b w).digit
step_ruled b w base = step_cases b w base (λ s. Ruled b s.digit)
    (λ q d e h. (d + (b - 1 - b / 2), omega arith, sym (diff-pos (d + (b - 1 - b / 2)) (b - 1 - b / 2) d refl)))
    (λ q d e l h. (d - (b / 2 + 1), omega arith, simp ring (diff_eq _ _ _ _ (omega arith))))

-- two of them differ by less than b
ruled_near : (b : ℕ) (x y : ℤ) → Ruled b x → Ruled b y → nat_abs (x -ℤ y) < b
ruled_near b x y (n, hn, ex) (m, hm, ey) = rw (ap₂ ◌-ℤ◌ ex ey ∙ apart n m (b - 1 - b / 2)) (near n m hn hm)
  where
    apart : (n m c : ℕ) → diff n c -ℤ diff m c ≡ diff n m
    apart n m c = simp ring (diff_eq _ _ _ _ (omega arith))

    near : (n m : ℕ) → n < b → m < b → nat_abs (diff n m) < b
    near n m hn hm = diff_cases n m (λ z. nat_abs z < b) (λ c e. omega arith) (λ c e. omega arith)

-- ruled digits e that make the size w are the digits of the rule's steps
module _ (b : ℕ) (base : 2 ≤ b) (e : ℕ → ℤ) (n w : ℕ) (ruled : (q : ℕ) → q < n → Ruled b (e q)) (makes : by_powers b e n ≡ pos w) where
  abbrev step : ℕ → ℤ
  step q = (step_of b (rest_of b q w)).digit

  -- how far they are from the rule's
  abbrev off : ℕ → ℤ
  off q = e q -ℤ step q

  off_small : (q : ℕ) → q < n → nat_abs (off q) < b
  off_small q h = ruled_near b (e q) (step q) (ruled q h) (step_ruled b (rest_of b q w) base)

  -- what n steps leave, times b^n, is all that is missing
  off-sum : by_powers b off n +ℤ neg_ℤ (pos (rest_of b n w)) *ℤ pos (b ^ n) ≡ pos 0
  off-sum =
      ap (λ (z : ℤ). z +ℤ neg_ℤ (pos (rest_of b n w)) *ℤ pos (b ^ n))
      (sum_cong n _ _ (λ q h. spread (e q) (step q) (b ^ q)) ∙ sum_add n (λ q. e q *ℤ pos (b ^ q)) (λ q. neg_ℤ (step q *ℤ pos (b ^ q)))
      ∙ ap₂ ◌+ℤ◌ (makes ∙ sym (digits_so_far b w n base)) (sym (sum_negate n (λ q. step q *ℤ pos (b ^ q)))))
      ∙ cancels (by_powers b step n) (b ^ n) (rest_of b n w)
    where
      spread : (x y : ℤ) (c : ℕ) → (x -ℤ y) *ℤ pos c ≡ x *ℤ pos c +ℤ neg_ℤ (y *ℤ pos c)
      spread x y c = rw (as_diff x, as_diff y) (simp ring (diff_eq _ _ _ _ (omega arith)))

      cancels : (s : ℤ) (c r : ℕ) → s +ℤ pos (c * r) +ℤ neg_ℤ s +ℤ neg_ℤ (pos r) *ℤ pos c ≡ pos 0
      cancels s c r = rw (as_diff s) (simp ring (diff_eq _ _ _ _ (omega arith)))

  pub ruled_is-step : (q : ℕ) → q < n → e q ≡ step q
  ruled_is-step q h =
      let none = (both_zero (by_powers b off n) (neg_ℤ (pos (rest_of b n w))) (b ^ n) (sum_less b off n off_small) off-sum).0 in
      same (e q) (step q) (all-zero b off n off_small none q h)
    where
      same : (x y : ℤ) → x -ℤ y ≡ pos 0 → x ≡ y
      same x y z = back x y ∙ ap (λ (u : ℤ). u +ℤ y) z ∙ +ℤ_idl y
        where
          back : (x y : ℤ) → x ≡ (x -ℤ y) +ℤ y
          back x y = rw (as_diff x, as_diff y) (simp ring (diff_eq _ _ _ _ (omega arith)))

-- twice a sign is none
sign-twice : (x z : ℤ) → sign_of x *ℤ (sign_of x *ℤ z) ≡ z
unfolding sign_of
sign-twice (pos w) z = one-times (pos 1 *ℤ z) ∙ one-times z
sign-twice (negsuc w) z = minus-one-times (negsuc 0 *ℤ z) ∙ ap neg_ℤ (minus-one-times z) ∙ neg_ℤ-neg_ℤ z

-- digits that are ruled by the entry's sign are those of the rule
module _ (b : ℕ) (base : 2 ≤ b) (ds : List ℤ) where
  abbrev x : ℤ
  x = entry_of b ds

  abbrev d : ℕ → ℤ
  d q = get_or ds q (pos 0)

  size-made : by_powers b (λ q. sign_of x *ℤ d q) (length ds) ≡ pos (nat_abs x)
  size-made =
      sum_cong (length ds) _ _ (λ q h. *ℤ-assoc (sign_of x) (d q) (pos (b ^ q)))
      ∙ sym (sum_mul_left (length ds) (sign_of x) (λ q. d q *ℤ pos (b ^ q)))
      ∙ sign-times x

  pub ruled_follow : ((q : ℕ) → q < length ds → Ruled b (sign_of x *ℤ d q)) → (q : ℕ) → q < length ds → digit_of b x q ≡ d q
  ruled_follow ruled q h =
      digit_by-sign b x q
      ∙ ap (λ (z : ℤ). sign_of x *ℤ z) (sym (ruled_is-step b base (λ q. sign_of x *ℤ d q) (length ds) (nat_abs x) ruled size-made q h))
      ∙ sign-twice x (d q)

-- a number within h is ruled where b is odd, and where it is not −h
odd_ruled : (b : ℕ) (z : ℤ) → b % 2 ≡ 1 → nat_abs z ≤ b / 2 → Ruled b z
odd_ruled b (pos n) o h = (n + (b - 1 - b / 2), omega arith, sym (diff-pos (n + (b - 1 - b / 2)) (b - 1 - b / 2) n refl))
odd_ruled b (negsuc n) o h = (b - 1 - b / 2 - suc n, omega arith, sym (diff_neg (b - 1 - b / 2 - suc n) (b - 1 - b / 2) n (omega arith)))

even_ruled : (b : ℕ) (z : ℤ) → 2 ≤ b → nat_abs z ≤ b / 2 → z ≢ neg_ℤ (pos (b / 2)) → Ruled b z
even_ruled b (pos n) l h ne = (n + (b - 1 - b / 2), omega arith, sym (diff-pos (n + (b - 1 - b / 2)) (b - 1 - b / 2) n refl))
even_ruled b (negsuc n) l h ne =
    let less : suc n < b / 2 = ⊎_elim (λ (e : suc n ≡ b / 2). absurd (ne (ap (λ (m : ℕ). neg_ℤ (pos m)) e))) (λ (l : suc n < b / 2). l) (eq-or-lt_of_le h) in
    (b - 1 - b / 2 - suc n, omega arith, sym (diff_neg (b - 1 - b / 2 - suc n) (b - 1 - b / 2) n (omega arith)))

-- the digit within h that the rule never gives for an entry to an even base
unfoldable pub never_of : ℕ → ℤ → ℤ
never_of b (pos w) = neg_ℤ (pos (b / 2))
never_of b (negsuc w) = pos (b / 2)

pub never-below : (b : ℕ) (x : ℤ) → lt_z x (pos 0) ≡ true → never_of b x ≡ pos (b / 2)
unfolding never_of
never-below b (pos w) e = absurd (true≢false (sym e ∙ from_zero w))
never-below b (negsuc w) e = refl

pub never-above : (b : ℕ) (x : ℤ) → lt_z x (pos 0) ≡ false → never_of b x ≡ neg_ℤ (pos (b / 2))
unfolding never_of
never-above b (pos w) e = refl
never-above b (negsuc w) e = absurd (true≢false e)

pub never-size : (b : ℕ) (x : ℤ) → nat_abs (never_of b x) ≤ b / 2
unfolding never_of
never-size b (pos w) = omega (arith, nat_abs_negate (pos (b / 2)))
never-size b (negsuc w) = omega arith

-- to an even base it gives none
rule-never : (b : ℕ) (x : ℤ) (q : ℕ) → 2 ≤ b → b ≡ 2 * (b / 2) → digit_of b x q ≢ never_of b x
unfolding never_of
rule-never b (pos w) q base even e = above_no_minus-half (b / 2) w q (omega arith) (ap (λ (c : ℕ). digit_of c (pos w) q) (sym even) ∙ e)
rule-never b (negsuc w) q base even e = below_no_half (b / 2) w q (omega arith) (ap (λ (c : ℕ). digit_of c (negsuc w) q) (sym even) ∙ e)

-- by the entry's sign it is −h
never-by-sign : (b : ℕ) (x z : ℤ) → z ≢ never_of b x → sign_of x *ℤ z ≢ neg_ℤ (pos (b / 2))
unfolding never_of sign_of
never-by-sign b (pos w) z ne e = ne (sym (one-times z) ∙ e)
never-by-sign b (negsuc w) z ne e = ne (sym (neg_ℤ-neg_ℤ z) ∙ ap neg_ℤ (sym (minus-one-times z) ∙ e) ∙ neg_ℤ-neg_ℤ (pos (b / 2)))

-- and no digit grows by it
size-by-sign : (x z : ℤ) → nat_abs (sign_of x *ℤ z) ≡ nat_abs z
size-by-sign x z = nat_abs-* (sign_of x) z ∙ ap (λ (n : ℕ). n * nat_abs z) (sign-size x) ∙ one-mul (nat_abs z)

-- what the test of the digits finds
module _ (b : ℕ) (base : 2 ≤ b) (ds : List ℤ) (small : Digits b ds) where
  all_follow : ((q : ℕ) → q < length ds → digit_of b (entry_of b ds) q ≡ get_or ds q (pos 0)) → true ≡ follow_rule b ds
  all_follow h = sym (true-is (follow_rule b ds) (all_true (length ds) _ (λ q l. (eq_Z_iff (digit_of b (entry_of b ds) q) (get_or ds q (pos 0))).1 (h q l))))

  ruled_size : (q : ℕ) → nat_abs (sign_of (entry_of b ds) *ℤ get_or ds q (pos 0)) ≤ b / 2
  ruled_size q = rw (size-by-sign (entry_of b ds) (get_or ds q (pos 0))) (small q)

  pub odd_follow : b % 2 ≡ 1 → true ≡ follow_rule b ds
  odd_follow odd = all_follow (ruled_follow b base ds (λ q h. odd_ruled b _ odd (ruled_size q)))

  pub even_follow : ((q : ℕ) → q < length ds → get_or ds q (pos 0) ≢ never_of b (entry_of b ds)) → true ≡ follow_rule b ds
  even_follow ne = all_follow (ruled_follow b base ds (λ q h. even_ruled b _ base (ruled_size q) (never-by-sign b (entry_of b ds) (get_or ds q (pos 0)) (ne q h))))

  pub never_follow : b % 2 ≢ 1 → (q : ℕ) → q < length ds → get_or ds q (pos 0) ≡ never_of b (entry_of b ds) → false ≡ follow_rule b ds
  never_follow odd q h is =
      let halves : b / 2 * 2 + b % 2 ≡ b = div-add-mod' b 2 in
      let below : b % 2 < 2 = mod-lt b (omega arith) in
      let none : b % 2 ≡ 0 = ⊎_elim (λ (e : b % 2 ≡ 1). absurd (odd e)) (λ (l : b % 2 < 1). omega arith) (eq-or-lt_of_le (le_of_suc-le-suc below)) in
      sym (false-is (follow_rule b ds) (not_T (follow_rule b ds)
      (λ t. rule-never b (entry_of b ds) q base (omega arith) ((eq_Z_iff (digit_of b (entry_of b ds) q) (get_or ds q (pos 0))).0 (all_elim (length ds) _ t q h) ∙ is))))
