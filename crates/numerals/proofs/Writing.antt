-- Numerals as they are written: digit by digit, their lengths and their bytes.
use mathlib.Core.Path.{◌≡◌, refl, ap, ◌∙◌, subst}
use mathlib.Core.Bool.{Bool, true, false, cond}
use mathlib.Core.List.{List, [], ◌∷◌, ◌++◌}
use Prim.Native.Nat.{ℕ, zero, suc, ◌+◌, ◌*◌, ◌/◌, ◌%◌, ◌^◌, ◌≤◌, ◌<◌}
use native.Mathlib.Omega.{arith}
use native.Mathlib.Decide.{dec_lt}
use native.Mathlib.Nat.{mod-eq_of_lt, pow-suc, div-lt_iff_lt-mul}
use lib.ListN.{length, set, length-append}
use lib.Dec.{ltb, eqb}
use lib.IntN.{ℤ, pos, negsuc}
use mir.Syntax.{w64}
use mir.Val.{SFits}
use borrow.Author.Tests.{lt-ltb, le-ltb, ltb-false, ne_eqb}
use Rattle.numerals.specs.Bytes.{lacks, written}
use Rattle.numerals.specs.Numerals.{decimal_in, decimal, decimal_Z}
use Rattle.numerals.proofs.Buffers.{written_one, written_cons, written-more, length-written}

-- the steps allowed do not matter where they are enough
fuel : (f g n : ℕ) → n < f → n < g → decimal_in f n ≡ decimal_in g n
unfolding decimal_in
fuel zero g n h k = absurd (omega arith)
fuel (suc f) zero n h k = absurd (omega arith)
fuel (suc f) (suc g) n h k = go (λ (l : 10 ≤ n). fuel f g (n / 10) (omega arith) (omega arith)) (ltb n 10) refl
  where
    go : (10 ≤ n → decimal_in f (n / 10) ≡ decimal_in g (n / 10)) → (b : Bool) → ltb n 10 ≡ b → decimal_in (suc f) n ≡ decimal_in (suc g) n
    go r true e = rw e
    go r false e = rw (e, r (ltb-false n 10 e))

-- a numeral of one digit, and one of more
pub decimal-small : (n : ℕ) → n < 10 → decimal n ≡ (48 + n) ∷ []
unfolding decimal decimal_in
decimal-small n h = rw (lt-ltb n 10 h)

pub decimal_step : (n : ℕ) → 10 ≤ n → decimal n ≡ decimal (n / 10) ++ ((48 + n % 10) ∷ [])
unfolding decimal decimal_in
decimal_step n h = rw (le-ltb n 10 h, fuel n (suc (n / 10)) (n / 10) (omega arith) (omega arith))

pub length-small : (n : ℕ) → n < 10 → length (decimal n) ≡ 1
length-small n h = rw (decimal-small n h)

pub length-step : (n : ℕ) → 10 ≤ n → length (decimal n) ≡ length (decimal (n / 10)) + 1
length-step n h = rw (decimal_step n h, length-append)

-- what holds of each one-digit numeral, and stays when a digit follows, holds of every numeral
pub by_digits : (P : ℕ → List ℕ → Type 0) → ((n : ℕ) → n < 10 → P n ((48 + n) ∷ []))
    → ((n : ℕ) (s : List ℕ) → 10 ≤ n → P (n / 10) s → P n (s ++ ((48 + n % 10) ∷ []))) → (n : ℕ) → P n (decimal n)
by_digits P one more n = go (suc n) n (omega arith)
  where
    by : (n : ℕ) → (10 ≤ n → P (n / 10) (decimal (n / 10))) → Dec (n < 10) → P n (decimal n)
    by n r (yes l) = rw (decimal-small n l) (one n l)
    by n r (no l) = rw (decimal_step n (omega arith)) (more n (decimal (n / 10)) (omega arith) (r (omega arith)))

    go : (f n : ℕ) → n < f → P n (decimal n)
    go zero n h = absurd (omega arith)
    go (suc f) n h = by n (λ (l : 10 ≤ n). go f (n / 10) (omega arith)) (dec_lt n 10)

-- a numeral of 64 bits has at most 20 bytes
ten_times : (k n : ℕ) → n < 10 ^ suc k * 10 → n / 10 < 10 ^ k * 10
ten_times k n h = (div-lt_iff_lt-mul {k = 10} (omega arith)).1 (subst (λ (p : ℕ). n < p * 10) (pow-suc 10 k) h)

decimal-length : (k n : ℕ) → n < 10 ^ k * 10 → length (decimal n) ≤ suc k
decimal-length zero n h = omega (arith, length-small n (omega arith))
decimal-length (suc k) n h = by (decimal-length k (n / 10) (ten_times k n h)) (dec_lt n 10)
  where
    by : length (decimal (n / 10)) ≤ suc k → Dec (n < 10) → length (decimal n) ≤ suc (suc k)
    by r (yes l) = omega (arith, length-small n l)
    by r (no l) = omega (arith, length-step n (omega arith))

pub length_u64 : (n : ℕ) → n < 2 ^ 64 → length (decimal n) ≤ 20
length_u64 n h = decimal-length 19 n (omega arith)

pub length_i64 : (z : ℤ) → SFits w64 z → length (decimal_Z z) ≤ 20
unfolding decimal_Z
length_i64 (pos n) f = length_u64 n (omega (arith, f.sfits))
length_i64 (negsuc n) f = let l : length (decimal (suc n)) ≤ 19 = decimal-length 18 (suc n) (omega (arith, f.sfits)) in omega arith

-- a numeral holds no byte below its minus, so no tab (9) and no line feed (10)
lacks-more : (b x : ℕ) (s : List ℕ) → (x ≡ b → ⊥) → lacks b s ≡ true → lacks b (s ++ (x ∷ [])) ≡ true
unfolding lacks
lacks-more b x [] n e = rw (ne_eqb x b n)
lacks-more b x (y ∷ s) n e = go (eqb y b) e (lacks-more b x s n)
  where
    go : (t : Bool) → cond t false (lacks b s) ≡ true → (lacks b s ≡ true → lacks b (s ++ (x ∷ [])) ≡ true) → cond t false (lacks b (s ++ (x ∷ []))) ≡ true
    go true h r = h
    go false h r = r h

pub decimal-lacks : (b n : ℕ) → b < 45 → lacks b (decimal n) ≡ true
unfolding lacks
decimal-lacks b n h = by_digits (λ m s. lacks b s ≡ true)
    (λ m l. rw (ne_eqb (48 + m) b (λ e. omega arith)))
    (λ m s l e. lacks-more b (48 + m % 10) s (λ q. omega arith) e) n

pub decimal_Z-lacks : (b : ℕ) (z : ℤ) → b < 45 → lacks b (decimal_Z z) ≡ true
unfolding lacks decimal_Z
decimal_Z-lacks b (pos n) h = decimal-lacks b n h
decimal_Z-lacks b (negsuc n) h = rw (ne_eqb 45 b (λ e. omega arith)) (decimal-lacks b (suc n) h)

-- the last digit of a numeral of one digit, and of one of more
pub put_small : (d : List ℕ) (at n : ℕ) → n < 10 → at + length (decimal n) ≤ length d
    → (at + 1 ≡ at + length (decimal n)) × (set d at (48 + n % 10) ≡ written d at (decimal n))
put_small d at n h f =
    let l : length (decimal n) ≡ 1 = length-small n h in
    (omega arith, rw (decimal-small n h, mod-eq_of_lt h) (written_one d at (48 + n) (omega arith)))

pub put_step : (d e : List ℕ) (at to n : ℕ) → 10 ≤ n → at + length (decimal n) ≤ length d
    → to ≡ at + length (decimal (n / 10)) → e ≡ written d at (decimal (n / 10))
    → (to < length e) × (to + 1 ≡ at + length (decimal n)) × (set e to (48 + n % 10) ≡ written d at (decimal n))
put_step d e at to n h f p q =
    let l : length (decimal n) ≡ length (decimal (n / 10)) + 1 = length-step n h in
    let g : length e ≡ length d = ap length q ∙ length-written d at (decimal (n / 10)) (omega arith) in
    (omega arith, omega arith, rw (decimal_step n h, p, q) (written-more d at (decimal (n / 10)) (48 + n % 10) (omega arith)))

-- a numeral after its minus
pub put-minus : (d e : List ℕ) (at n r : ℕ) → at + suc (length (decimal n)) ≤ length d
    → r ≡ at + 1 + length (decimal n) → e ≡ written (set d at 45) (at + 1) (decimal n)
    → (length e ≡ length d) × (r ≡ at + suc (length (decimal n))) × (e ≡ written d at (45 ∷ decimal n))
put-minus d e at n r h p q =
    let w : e ≡ written d at (45 ∷ decimal n) = q ∙ written_cons d at 45 (decimal n) (omega arith) in
    (ap length w ∙ length-written d at (45 ∷ decimal n) h, omega arith, w)
