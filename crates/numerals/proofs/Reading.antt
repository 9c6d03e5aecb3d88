-- Unsigned numerals, as they are read byte by byte.
use mathlib.Core.Path.{◌≡◌, refl, sym, ap, ◌∙◌}
use mathlib.Core.Bool.{Bool, true, false, cond}
use mathlib.Core.List.{List, [], ◌∷◌}
use Rattle.std.specs.Prelude.{Some, None}
use Prim.Native.Nat.{ℕ, suc, ◌+◌, ◌-◌, ◌*◌, ◌^◌, ◌≤◌, ◌<◌}
use native.Mathlib.Omega.{arith}
use native.Mathlib.Nat.{le_trans, le_refl}
use native.Mathlib.Numerals.{add-one}
use lib.ListN.{length, get_or, drop, drop_of_length-le}
use lib.Seq.{drop-cons}
use borrow.Author.Tests.{lt-ltb, le-ltb, le-leb, eq-eqb, ne_eqb}
use Rattle.numerals.specs.Numerals.{is_digit, are_digits, is_plain, value_from, natural_from, natural, fit_unsigned, read_unsigned}

pub is_digit_lem : (x : ℕ) → 48 ≤ x → x ≤ 57 → is_digit x ≡ true
unfolding is_digit
is_digit_lem x lo hi = simp (le-leb 48 x lo, le-leb x 57 hi)

pub is-plain : (s : List ℕ) → (length s ≡ 0 → ⊥) → (1 < length s → get_or s 0 0 ≡ 48 → ⊥) → is_plain s ≡ true
unfolding is_plain
is-plain [] h g = absurd (h refl)
is-plain (x ∷ []) h g = refl
is-plain (x ∷ (y ∷ s)) h g = simp (ne_eqb x 48 (g (omega arith)))

from_digit : (n x : ℕ) (s : List ℕ) → is_digit x ≡ true → natural_from n (x ∷ s) ≡ natural_from (n * 10 + (x - 48)) s
unfolding natural_from are_digits value_from
from_digit n x s e = simp e

from-other : (n x : ℕ) (s : List ℕ) → is_digit x ≡ false → natural_from n (x ∷ s) ≡ None
unfolding natural_from are_digits value_from
from-other n x s e = simp e

value_grows : (n : ℕ) (s : List ℕ) → n ≤ value_from n s
unfolding value_from
value_grows n [] = le_refl n
value_grows n (x ∷ s) = le_trans (omega arith) (value_grows (n * 10 + (x - 48)) s)

-- a value that is too large stays too large, whatever follows
too_large : (n : ℕ) (s : List ℕ) → 2 ^ 64 ≤ n → fit_unsigned (natural_from n s) ≡ None
unfolding natural_from fit_unsigned
too_large n s h = go (are_digits s)
  where
    go : (b : Bool) → fit_unsigned (cond b (Some (value_from n s)) None) ≡ None
    go true = simp (le-ltb (value_from n s) (2 ^ 64) (le_trans h (value_grows n s)))
    go false = refl

-- before the first byte
pub empty_bad : (s : List ℕ) → length s ≡ 0 → None ≡ read_unsigned s
unfolding read_unsigned natural is_plain fit_unsigned
empty_bad [] h = refl
empty_bad (x ∷ s) h = let z : suc (length s) ≡ 0 = h in absurd (omega arith)

pub zero-first : (s : List ℕ) → 1 < length s → get_or s 0 0 ≡ 48 → None ≡ read_unsigned s
unfolding read_unsigned natural is_plain fit_unsigned
zero-first [] h e = refl
zero-first (x ∷ []) h e = let z : 1 < 1 = h in absurd (omega arith)
zero-first (x ∷ (y ∷ s)) h e = simp (eq-eqb x 48 e)

pub read_plain : (s : List ℕ) → is_plain s ≡ true → read_unsigned s ≡ fit_unsigned (natural_from 0 s)
unfolding read_unsigned natural
read_plain s e = rw e

-- at the byte at i, after digits of value n
module _ (s : List ℕ) (i n : ℕ) (h : i < length s) (e : read_unsigned s ≡ fit_unsigned (natural_from n (drop i s))) where
  at_byte : read_unsigned s ≡ fit_unsigned (natural_from n (get_or s i 0 ∷ drop (i + 1) s))
  at_byte = e ∙ rw (add-one, drop-cons s i 0)

  pub bad_byte : is_digit (get_or s i 0) ≡ false → None ≡ read_unsigned s
  unfolding fit_unsigned
  bad_byte d = sym (at_byte ∙ rw (from-other n (get_or s i 0) (drop (i + 1) s) d))

  pub next_byte : (m : ℕ) → is_digit (get_or s i 0) ≡ true → m ≡ n * 10 + (get_or s i 0 - 48) → read_unsigned s ≡ fit_unsigned (natural_from m (drop (i + 1) s))
  next_byte m d p = rw p (at_byte ∙ ap fit_unsigned (from_digit n (get_or s i 0) (drop (i + 1) s) d))

  pub large_byte : is_digit (get_or s i 0) ≡ true → 2 ^ 64 ≤ n * 10 + (get_or s i 0 - 48) → None ≡ read_unsigned s
  large_byte d l = sym (next_byte _ d refl ∙ too_large _ _ l)

  -- where the tenfold is too large, the byte does not matter
  pub large_tenfold : 2 ^ 64 ≤ n * 10 → None ≡ read_unsigned s
  large_tenfold l = go (is_digit (get_or s i 0)) refl
    where
      go : (b : Bool) → is_digit (get_or s i 0) ≡ b → None ≡ read_unsigned s
      go true d = large_byte d (omega arith)
      go false d = bad_byte d

-- past the last byte
at-end : (n : ℕ) → n < 2 ^ 64 → fit_unsigned (natural_from n []) ≡ Some n
unfolding natural_from are_digits value_from fit_unsigned
at-end n h = simp (lt-ltb n (2 ^ 64) h)

pub whole : (s : List ℕ) (i n : ℕ) → length s ≤ i → n < 2 ^ 64 → read_unsigned s ≡ fit_unsigned (natural_from n (drop i s)) → Some n ≡ read_unsigned s
whole s i n g f e = sym (e ∙ ap (λ (t : List ℕ). fit_unsigned (natural_from n t)) (drop_of_length-le s g) ∙ at-end n f)
