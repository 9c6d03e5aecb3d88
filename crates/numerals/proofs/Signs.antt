-- Signed numbers: their numerals, and the machine's casts of them.
use mathlib.Core.Path.{◌≡◌, refl, sym, ap, ◌∙◌, subst}
use mathlib.Core.Bool.{Bool, true, false, cond, ◌&&◌}
use Rattle.std.specs.Cmp.Lexicographic.{pointwise}
use mathlib.Core.List.{List, [], ◌∷◌}
use Rattle.std.specs.Prelude.{Option, Some, None, Result, Ok, Err, OkIff}
use Rattle.std.specs.Result.{result_ok}
use native.Mathlib.Decide.{dec_lt}
use Prim.Native.Nat.{ℕ, zero, suc, ◌-◌, ◌^◌, ◌≤◌, ◌<◌}
use native.Mathlib.Omega.{arith}
use native.Mathlib.Numerals.{sub-one}
use lib.ListN.{take, drop}
use lib.Dec.{T, ltb, eqb}
use lib.IntN.{ℤ, pos, negsuc, nat_abs, ◌-ℤ◌, pred_ℤ, pred_ℤ-+ℤ, +ℤ_idl}
use lib.Signed.{lt_z, non_neg}
use mir.Syntax.{w64}
use mir.Val.{to_z, of_z, SFits, Fits}
use mir.ValLaws.{to_z-of_z}
use borrow.Author.Tests.{lt-ltb, le-ltb, ltb-true, ltb-false}
use Rattle.numerals.specs.Numerals.{natural, is_plain, with_minus, without_minus, integer, fit_unsigned, fit_signed, read_unsigned, read_signed, decimal, decimal_Z}

large : (n : ℕ) → (SFits w64 (pos n) → ⊥) → 2 ^ 63 ≤ n
large n h = go (dec_lt n (2 ^ 63))
  where
    go : Dec (n < 2 ^ 63) → 2 ^ 63 ≤ n
    go (yes l) = absurd (h (record { sfits = l }))
    go (no l) = omega arith

-- a number that was read without a minus, by the conversion to a signed word
pub positive_lem : {E : Type 0} (n : ℕ) (r : Result ℤ E) → OkIff r (SFits w64 (pos n)) (pos n) → result_ok r ≡ fit_signed (Some (pos n))
unfolding fit_signed
positive_lem n (Ok z) h = rw (← h.1, lt-ltb n (2 ^ 63) h.0.sfits)
positive_lem n (Err e) h = rw (le-ltb n (2 ^ 63) (large n h))

-- a number that was read after a minus: n is the code's k + 1, and −1 − k is −n
pub negative-zero : (n : ℕ) → n ≡ 0 → None ≡ fit_signed (with_minus (Some n))
unfolding fit_signed with_minus
negative-zero n z = rw z

negative-at : (n : ℕ) → 0 < n → fit_signed (with_minus (Some n)) ≡ fit_signed (Some (negsuc (n - 1)))
unfolding with_minus
negative-at zero h = absurd (omega arith)
negative-at (suc n) h = rw sub-one

minus-one-less : (k : ℕ) → negsuc 0 -ℤ pos k ≡ negsuc k
minus-one-less zero = refl
minus-one-less (suc k) = ap negsuc (omega arith)

less-value : (k : ℕ) → k < 2 ^ 63 → negsuc 0 -ℤ to_z w64 (of_z w64 (pos k)) ≡ negsuc k
less-value k h = rw (to_z-of_z w64 (pos k) (record { sfits = h })) (minus-one-less k)

pub negative_fits : (n : ℕ) → 0 < n → n - 1 < 2 ^ 63 → Some (to_z w64 (of_z w64 (negsuc 0 -ℤ to_z w64 (of_z w64 (pos (n - 1)))))) ≡ fit_signed (with_minus (Some n))
unfolding fit_signed
negative_fits n g h = rw (less-value (n - 1) h, to_z-of_z w64 (negsuc (n - 1)) (record { sfits = h }), negative-at n g, lt-ltb (n - 1) (2 ^ 63) h)

pub negative_large : (n : ℕ) → 0 < n → (SFits w64 (pos (n - 1)) → ⊥) → None ≡ fit_signed (with_minus (Some n))
unfolding fit_signed
negative_large n g h = rw (negative-at n g, le-ltb (n - 1) (2 ^ 63) (large (n - 1) h))

-- a number beyond 64 bits is beyond the signed word too, with a minus and without
minus-by : (n : ℕ) (b : Bool) → ltb n (2 ^ 64) ≡ b → fit_signed (with_minus (Some n)) ≡ fit_signed (with_minus (cond b (Some n) None))
unfolding fit_signed with_minus
minus-by n true e = refl
minus-by zero false e = refl
minus-by (suc n) false e = simp (le-ltb n (2 ^ 63) (omega (arith, ltb-false (suc n) (2 ^ 64) e)))

minus_fit : (o : Option ℕ) → fit_signed (with_minus o) ≡ fit_signed (with_minus (fit_unsigned o))
unfolding fit_unsigned
minus_fit None = refl
minus_fit (Some n) = minus-by n (ltb n (2 ^ 64)) refl

plain_by : (n : ℕ) (b : Bool) → ltb n (2 ^ 64) ≡ b → fit_signed (Some (pos n)) ≡ fit_signed (without_minus (cond b (Some n) None))
unfolding fit_signed without_minus
plain_by n true e = refl
plain_by n false e = simp (le-ltb n (2 ^ 63) (omega (arith, ltb-false n (2 ^ 64) e)))

plain_fit : (o : Option ℕ) → fit_signed (without_minus o) ≡ fit_signed (without_minus (fit_unsigned o))
unfolding fit_unsigned without_minus
plain_fit None = refl
plain_fit (Some n) = plain_by n (ltb n (2 ^ 64)) refl

-- the first byte tells the sign
pub after_minus : (s : List ℕ) → pointwise eqb (take 1 s) (45 ∷ []) ≡ true → fit_signed (with_minus (read_unsigned (drop 1 s))) ≡ read_signed s
unfolding read_signed integer read_unsigned
after_minus [] e = absurd (subst T (sym e) tt)
after_minus (x ∷ s) e = go (eqb x 45) e
  where
    go : (b : Bool) → (b && true) ≡ true → fit_signed (with_minus (fit_unsigned (natural s))) ≡ fit_signed (cond b (with_minus (natural s)) (without_minus (natural (x ∷ s))))
    go true h = sym (minus_fit (natural s))
    go false h = absurd (subst T (sym h) tt)

pub no_minus : (s : List ℕ) → pointwise eqb (take 1 s) (45 ∷ []) ≡ false → fit_signed (without_minus (read_unsigned s)) ≡ read_signed s
unfolding read_signed integer read_unsigned natural is_plain fit_unsigned without_minus
no_minus [] e = refl
no_minus (x ∷ s) e = go (eqb x 45) e
  where
    go : (b : Bool) → (b && true) ≡ false → fit_signed (without_minus (fit_unsigned (natural (x ∷ s)))) ≡ fit_signed (cond b (with_minus (natural s)) (without_minus (natural (x ∷ s))))
    go true h = absurd (subst T h tt)
    go false h = sym (plain_fit (natural (x ∷ s)))

no_below : (n : ℕ) → n < 0 → ⊥
no_below n h = omega arith

-- a signed word z for which the machine's test z < 0 held
pub record Negative (z : ℤ) : Type 0 where
  pub k : ℕ
  pub is : z ≡ negsuc k
  pub small : k < 2 ^ 63
  pub flipped : negsuc 0 -ℤ to_z w64 (of_z w64 z) ≡ pos k
  pub read : to_z w64 (of_z w64 (negsuc 0 -ℤ to_z w64 (of_z w64 z))) ≡ pos k

flip : (k : ℕ) → negsuc 0 -ℤ negsuc k ≡ pos k
flip k = pred_ℤ-+ℤ (pos 0) (pos (suc k)) ∙ ap pred_ℤ (+ℤ_idl (pos (suc k)))

negative-word : (z : ℤ) → SFits w64 z → lt_z z (pos 0) ≡ true → (k : ℕ) × (z ≡ negsuc k) × (k < 2 ^ 63)
negative-word (pos n) f e = absurd (no_below n (ltb-true n 0 e))
negative-word (negsuc k) f e = (k, refl, f.sfits)

pub tested_negative : (z : ℤ) → SFits w64 z → lt_z (to_z w64 (of_z w64 z)) (pos 0) ≡ true → Negative z
tested_negative z f e =
    let n = negative-word z f (subst (λ (y : ℤ). lt_z y (pos 0) ≡ true) (to_z-of_z w64 z f) e) in
    let d : negsuc 0 -ℤ to_z w64 (of_z w64 z) ≡ pos n.0 = ap (λ (y : ℤ). negsuc 0 -ℤ y) (to_z-of_z w64 z f ∙ n.1) ∙ flip n.0 in
    record { k = n.0; is = n.1; small = n.2; flipped = d; read = ap (λ (y : ℤ). to_z w64 (of_z w64 y)) d ∙ to_z-of_z w64 (pos n.0) (record { sfits = n.2 }) }

-- and one for which it failed
natural-at : (z : ℤ) → SFits w64 z → lt_z z (pos 0) ≡ false → (T (non_neg z) × Fits w64 (nat_abs z)) × (decimal_Z z ≡ decimal (nat_abs z))
unfolding decimal_Z
natural-at (pos n) f e = ((tt, record { fits = omega (arith, f.sfits) }), refl)
natural-at (negsuc k) f e = absurd (subst T e tt)

-- a numeral by the test and the size that the code has
pub decimal-natural : (z : ℤ) (w : ℕ) → SFits w64 z → lt_z (to_z w64 (of_z w64 z)) (pos 0) ≡ false → w ≡ nat_abs (to_z w64 (of_z w64 z)) → decimal_Z z ≡ decimal w
decimal-natural z w f e h = rw (h, to_z-of_z w64 z f) (natural-at z f (rw (to_z-of_z w64 z f) at e)).1

pub decimal-negative : (z : ℤ) (w : ℕ) → SFits w64 z → lt_z (to_z w64 (of_z w64 z)) (pos 0) ≡ true → w ≡ nat_abs (to_z w64 (of_z w64 z)) → decimal_Z z ≡ 45 ∷ decimal w
unfolding decimal_Z
decimal-negative z w f e h = let n = tested_negative z f e in rw (h, to_z-of_z w64 z f, n.is)
