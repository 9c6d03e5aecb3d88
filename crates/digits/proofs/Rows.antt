-- The digits of a row as a list: its length, and each digit's place.
use mathlib.Core.Path.{◌≡◌, refl, sym, ◌∙◌, ap, ap₂}
use mathlib.Core.Logic.{⊎_elim}
use mathlib.Core.List.{List, ◌++◌}
use Prim.Native.Nat.{ℕ, zero, suc, ◌+◌, ◌*◌, ◌-◌, ◌/◌, ◌%◌, ◌<◌, ◌≤◌}
use native.Mathlib.Omega.{arith}
use native.Mathlib.Nat.{suc-mul, mul-le-mul_right, div-add-mod', div-lt_iff_lt-mul, mod-lt}
use lib.Arith.{digits_lt, digits_div, digits_mod}
use lib.IntN.{ℤ, pos, nat_abs}
use lib.ListN.{length, get_or, take, drop, length-append, length-take, length-drop, get_or-append, get_or-eq_default}
use lib.Seq.{get_or-append-add}
use Rattle.integers.proofs.Lists.{length-build, get_or-build, is-build, Filled, filled-part}
use Rattle.integers.proofs.Tests.{le_or_lt}
use Rattle.digits.specs.Digits.{digit_of, digits_of, row_digits}
use Rattle.digits.proofs.Digits.{digit_bound}

pub length-digits_of : (b k : ℕ) (z : ℤ) → length (digits_of b k z) ≡ k
length-digits_of b k z = length-build k (digit_of b z)

pub get_or-digits_of : (b k : ℕ) (z : ℤ) (p : ℕ) → p < k → get_or (digits_of b k z) p (pos 0) ≡ digit_of b z p
get_or-digits_of b k z p h = get_or-build k (digit_of b z) p (pos 0) h

-- the digit at column c of a row
abbrev pub digit_at : ℕ → ℕ → List ℤ → ℕ → ℤ
digit_at b k s c = digit_of b (get_or s (c / k) (pos 0)) (c % k)

pub length-row_digits : (b k : ℕ) (s : List ℤ) → length (row_digits b k s) ≡ length s * k
length-row_digits b k s = length-build (length s * k) _

digit_at_lem : (b k : ℕ) (s : List ℤ) (j p : ℕ) → p < k → digit_at b k s (j * k + p) ≡ digit_of b (get_or s j (pos 0)) p
digit_at_lem b k s j p h = rw (digits_div j h, digits_mod j h) refl

-- digit p of entry j stands at j × k + p
pub get_or-row_digits : (b k : ℕ) (s : List ℤ) (j p : ℕ) → j < length s → p < k → get_or (row_digits b k s) (j * k + p) (pos 0) ≡ digit_of b (get_or s j (pos 0)) p
get_or-row_digits b k s j p l h = get_or-build (length s * k) (digit_at b k s) (j * k + p) (pos 0) (digits_lt l h) ∙ digit_at_lem b k s j p h

-- what is read of a row of digits, past its end too, is at most h = b/2 in size
pub row_digits-bound : (b k : ℕ) (s : List ℤ) (c : ℕ) → 2 ≤ b → nat_abs (get_or (row_digits b k s) c (pos 0)) ≤ b / 2
row_digits-bound b k s c h = ⊎_elim
    (λ (l : length s * k ≤ c). rw (get_or-eq_default (row_digits b k s) (pos 0) {n = c} (omega (arith, length-row_digits b k s))) (omega arith))
    (λ (l : c < length s * k). rw (get_or-build (length s * k) (digit_at b k s) c (pos 0) l) (digit_bound b (get_or s (c / k) (pos 0)) (c % k) h))
    (le_or_lt (length s * k) c)

-- the block of entry j lies within the row of n entries
pub block-end : (j n k : ℕ) → j < n → j * k + k ≤ n * k
block-end j n k h = omega (arith, suc-mul j k, mul-le-mul_right k h)

-- the row after one entry more: its block, m = k places from j × k on, has come back as the digits of that entry
pub row_more : (b k j m : ℕ) (z : ℤ) (s row ys : List ℤ) → j < length s → m ≡ k → z ≡ get_or s j (pos 0)
    → ys ≡ digits_of b (length (take m (drop (j * k) row))) z
    → Filled (length s * k) (digit_at b k s) (pos 0) (j * k) row
    → Filled (length s * k) (digit_at b k s) (pos 0) ((j + 1) * k) (take (j * k) row ++ (ys ++ drop m (drop (j * k) row)))
row_more b k j m z s row ys h e f g r =
    let n : (j + 1) * k ≡ j * k + k = omega arith in
    rw (n, e) (filled-part (length s * k) (digit_at b k s) (pos 0) (j * k) k row ys (block-end j (length s) k h)
    (rw made (length-digits_of b k _)) (λ p l. rw made (get_or-digits_of b k (get_or s j (pos 0)) p l ∙ sym (digit_at_lem b k s j p l))) r)
  where
    part : length (take m (drop (j * k) row)) ≡ k
    part = simp (length-take, length-drop) (omega (arith, r.long, block-end j (length s) k h))

    made : ys ≡ digits_of b k (get_or s j (pos 0))
    made = g ∙ ap₂ (digits_of b) part f

-- the digits of one row and then of another are those of the two rows side by side
pub row_digits_append : (b k : ℕ) (xs ys : List ℤ) → row_digits b k xs ++ row_digits b k ys ≡ row_digits b k (xs ++ ys)
row_digits_append b zero xs ys = is-build _ _ (pos 0) (row_digits b 0 xs ++ row_digits b 0 ys) (simp (length-append, length-build) (omega arith)) (λ c l. absurd (omega arith))
row_digits_append b (suc k) xs ys = is-build (length (xs ++ ys) * suc k) (digit_at b (suc k) (xs ++ ys)) (pos 0) (row_digits b (suc k) xs ++ row_digits b (suc k) ys) size
    (λ c l. rw (← div-add-mod' c (suc k)) (at (c / suc k) (c % suc k) ((div-lt_iff_lt-mul (omega arith)).1 l) (mod-lt c (omega arith)) ∙ sym (digit_at_lem b (suc k) (xs ++ ys) (c / suc k) (c % suc k) (mod-lt c (omega arith)))))
  where
    size : length (row_digits b (suc k) xs ++ row_digits b (suc k) ys) ≡ length (xs ++ ys) * suc k
    size = simp (length-append, length-build) (omega arith)

    at : (j p : ℕ) → j < length (xs ++ ys) → p < suc k → get_or (row_digits b (suc k) xs ++ row_digits b (suc k) ys) (j * suc k + p) (pos 0) ≡ digit_of b (get_or (xs ++ ys) j (pos 0)) p
    at j p h l = ⊎_elim (λ (g : length xs ≤ j). right g) (λ (g : j < length xs). left g) (le_or_lt (length xs) j)
      where
        left : j < length xs → get_or (row_digits b (suc k) xs ++ row_digits b (suc k) ys) (j * suc k + p) (pos 0) ≡ digit_of b (get_or (xs ++ ys) j (pos 0)) p
        left g =
            get_or-append (row_digits b (suc k) xs) (row_digits b (suc k) ys) (pos 0) (j * suc k + p) (rw (length-row_digits b (suc k) xs) (digits_lt g l))
            ∙ get_or-row_digits b (suc k) xs j p g l
            ∙ ap (λ (z : ℤ). digit_of b z p) (sym (get_or-append xs ys (pos 0) j g))

        right : length xs ≤ j → get_or (row_digits b (suc k) xs ++ row_digits b (suc k) ys) (j * suc k + p) (pos 0) ≡ digit_of b (get_or (xs ++ ys) j (pos 0)) p
        right g =
            let n : length ys + length xs ≡ length (xs ++ ys) = omega (arith, length-append xs ys) in
            let i : j ≡ length xs + (j - length xs) = omega arith in
            let c : j * suc k + p ≡ length (row_digits b (suc k) xs) + ((j - length xs) * suc k + p) = rw (length-row_digits b (suc k) xs) (omega (arith, ap (λ (x : ℕ). x * suc k) i)) in
            ap (λ (x : ℕ). get_or (row_digits b (suc k) xs ++ row_digits b (suc k) ys) x (pos 0)) c
            ∙ get_or-append-add (row_digits b (suc k) xs) (row_digits b (suc k) ys) ((j - length xs) * suc k + p) (pos 0)
            ∙ get_or-row_digits b (suc k) ys (j - length xs) p (omega arith) l
            ∙ ap (λ (z : ℤ). digit_of b z p) (sym (ap (λ (x : ℕ). get_or (xs ++ ys) x (pos 0)) i ∙ get_or-append-add xs ys (j - length xs) (pos 0)))
