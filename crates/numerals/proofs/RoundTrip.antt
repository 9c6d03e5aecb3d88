-- A number's numeral is read as that number, and nothing else is.
use mathlib.Core.Path.{◌≡◌, refl, sym, ap, ◌∙◌, subst}
use mathlib.Core.Bool.{Bool, true, false, cond}
use mathlib.Core.Logic.{⊎_elim}
use mathlib.Core.List.{List, [], ◌∷◌, ◌++◌, append_assoc, append-nil}
use Rattle.std.specs.Prelude.{Option, Some, None}
use Rattle.std.proofs.lemmas.Option.{none-some, same_Some}
use Prim.Native.Nat.{ℕ, zero, suc, ◌+◌, ◌-◌, ◌*◌, ◌/◌, ◌%◌, ◌^◌, ◌≤◌, ◌<◌}
use native.Mathlib.Omega.{arith}
use native.Mathlib.Nat.{eq-or-lt_of_le}
use lib.Dec.{T, leb, ltb, eqb}
use lib.ListN.{get_or}
use lib.IntN.{ℤ, pos, negsuc}
use mir.Syntax.{w64}
use mir.Val.{SFits}
use borrow.Author.Tests.{ne_eqb, lt-ltb, leb-true, eqb-true, eqb-false, not-true}
use Rattle.numerals.specs.Numerals.{is_digit, are_digits, is_plain, value_from, natural_from, natural, with_minus, without_minus, integer, fit_unsigned, fit_signed, read_unsigned, read_signed, decimal, decimal_Z}
use Rattle.numerals.proofs.Reading.{is_digit_lem}
use Rattle.numerals.proofs.Writing.{by_digits, decimal-small, decimal_step}

-- s is digits alone, of value n, and its first is 0 only where n is 0
record Spells (n : ℕ) (s : List ℕ) : Type 0 where
  digits : are_digits s ≡ true
  value : value_from 0 s ≡ n
  plain : is_plain s ≡ true
  first : 0 < n → get_or s 0 48 ≡ 48 → ⊥

value-more : (m : ℕ) (s : List ℕ) (x : ℕ) → value_from m (s ++ (x ∷ [])) ≡ value_from m s * 10 + (x - 48)
unfolding value_from
value-more m [] x = refl
value-more m (y ∷ s) x = value-more (m * 10 + (y - 48)) s x

digits_more : (s : List ℕ) (x : ℕ) → are_digits s ≡ true → is_digit x ≡ true → are_digits (s ++ (x ∷ [])) ≡ true
unfolding are_digits
digits_more [] x e d = simp d
digits_more (y ∷ s) x e d = go (is_digit y) e (λ (h : are_digits s ≡ true). digits_more s x h d)
  where
    go : (b : Bool) → cond b (are_digits s) false ≡ true → (are_digits s ≡ true → are_digits (s ++ (x ∷ [])) ≡ true) → cond b (are_digits (s ++ (x ∷ []))) false ≡ true
    go true h r = r h
    go false h r = h

plain_more : (s : List ℕ) (x : ℕ) → (get_or s 0 48 ≡ 48 → ⊥) → is_plain (s ++ (x ∷ [])) ≡ true
unfolding is_plain
plain_more [] x f = absurd (f refl)
plain_more (y ∷ []) x f = simp (ne_eqb y 48 f)
plain_more (y ∷ (z ∷ s)) x f = simp (ne_eqb y 48 f)

first_more : (s : List ℕ) (x : ℕ) → (get_or s 0 48 ≡ 48 → ⊥) → get_or (s ++ (x ∷ [])) 0 48 ≡ 48 → ⊥
first_more [] x f = absurd (f refl)
first_more (y ∷ s) x f = f

one : (n : ℕ) → n < 10 → Spells n ((48 + n) ∷ [])
unfolding are_digits value_from is_plain
one n l = record {
  digits = simp (is_digit_lem (48 + n) (omega arith) (omega arith));
  value = omega arith;
  plain = refl;
  first = λ g e. omega arith;
}

more : (n : ℕ) (s : List ℕ) → 10 ≤ n → Spells (n / 10) s → Spells n (s ++ ((48 + n % 10) ∷ []))
more n s l r = record {
  digits = digits_more s (48 + n % 10) r.digits (is_digit_lem (48 + n % 10) (omega arith) (omega arith));
  value = rw (value-more 0 s (48 + n % 10), r.value) (omega arith);
  plain = plain_more s (48 + n % 10) (r.first (omega arith));
  first = λ g. first_more s (48 + n % 10) (r.first (omega arith));
}

spells : (n : ℕ) → Spells n (decimal n)
spells n = by_digits Spells one more n

pub natural-decimal : (n : ℕ) → natural (decimal n) ≡ Some n
unfolding natural natural_from
natural-decimal n = let r = spells n in rw (r.plain, r.digits, r.value)

pub unsigned_back : (n : ℕ) → n < 2 ^ 64 → read_unsigned (decimal n) ≡ Some n
unfolding read_unsigned fit_unsigned
unsigned_back n h = rw (natural-decimal n, lt-ltb n (2 ^ 64) h)

digit_range : (x : ℕ) → is_digit x ≡ true → (48 ≤ x) × (x ≤ 57)
unfolding is_digit
digit_range x e = go (leb 48 x) refl e
  where
    go : (b : Bool) → leb 48 x ≡ b → cond b (leb x 57) false ≡ true → (48 ≤ x) × (x ≤ 57)
    go true p q = (leb-true 48 x p, leb-true x 57 q)
    go false p q = absurd (subst T (sym q) tt)

-- a numeral without a minus does not begin with one
first_digit : (s : List ℕ) → are_digits s ≡ true → is_plain s ≡ true → integer s ≡ without_minus (natural s)
unfolding are_digits is_plain integer
first_digit [] d p = absurd (subst T (sym p) tt)
first_digit (x ∷ s) d p = go (is_digit x) refl d
  where
    go : (b : Bool) → is_digit x ≡ b → cond b (are_digits s) false ≡ true → cond (eqb x 45) (with_minus (natural s)) (without_minus (natural (x ∷ s))) ≡ without_minus (natural (x ∷ s))
    go true e h = rw (ne_eqb x 45 (λ q. let l = digit_range x e in omega (arith, l.0)))
    go false e h = absurd (subst T (sym h) tt)

integer-plain : (n : ℕ) → integer (decimal n) ≡ Some (pos n)
unfolding without_minus
integer-plain n = let r = spells n in first_digit (decimal n) r.digits r.plain ∙ ap without_minus (natural-decimal n)

pub signed_back : (z : ℤ) → SFits w64 z → read_signed (decimal_Z z) ≡ Some z
unfolding read_signed integer with_minus without_minus fit_signed decimal_Z
signed_back (pos n) f = rw (integer-plain n, lt-ltb n (2 ^ 63) f.sfits)
signed_back (negsuc n) f = rw (natural-decimal (suc n), lt-ltb n (2 ^ 63) f.sfits)

-- a numeral is that of its value: no number has two
value-decimal : (n : ℕ) (s : List ℕ) → 0 < n → are_digits s ≡ true → decimal (value_from n s) ≡ decimal n ++ s
unfolding are_digits value_from
value-decimal n [] h d = sym (append-nil (decimal n))
value-decimal n (x ∷ s) h d = go (is_digit x) refl d (value-decimal (n * 10 + (x - 48)) s)
  where
    go : (b : Bool) → is_digit x ≡ b → cond b (are_digits s) false ≡ true
        → (0 < n * 10 + (x - 48) → are_digits s ≡ true → decimal (value_from (n * 10 + (x - 48)) s) ≡ decimal (n * 10 + (x - 48)) ++ s)
        → decimal (value_from (n * 10 + (x - 48)) s) ≡ decimal n ++ (x ∷ s)
    go true e f r =
        let l = digit_range x e in
        let q : (n * 10 + (x - 48)) / 10 ≡ n = omega (arith, l.0, l.1) in
        let m : 48 + (n * 10 + (x - 48)) % 10 ≡ x = omega (arith, l.0, l.1) in
        r (omega arith) f ∙ rw (decimal_step (n * 10 + (x - 48)) (omega arith), q, m) (append_assoc (decimal n) (x ∷ []) s)
    go false e f r = absurd (subst T (sym f) tt)

plain-decimal : (s : List ℕ) → is_plain s ≡ true → are_digits s ≡ true → decimal (value_from 0 s) ≡ s
unfolding is_plain are_digits value_from
plain-decimal [] p d = absurd (subst T (sym p) tt)
plain-decimal (x ∷ s) p d = go (is_digit x) refl d
  where
    above : 48 ≤ x → (x ≡ 48 → ⊥) → 0 < x - 48
    above lo n = ⊎_elim (λ (e : 48 ≡ x). absurd (n (sym e))) (λ (l : 48 < x). omega arith) (eq-or-lt_of_le lo)

    by : (t : List ℕ) → 48 ≤ x → x ≤ 57 → is_plain (x ∷ t) ≡ true → are_digits t ≡ true → decimal (value_from (x - 48) t) ≡ x ∷ t
    by [] lo hi q f = let e : 48 + (x - 48) ≡ x = omega arith in rw (decimal-small (x - 48) (omega arith), e)
    by (y ∷ t) lo hi q f =
        let e : 48 + (x - 48) ≡ x = omega arith in
        let n : x ≡ 48 → ⊥ = eqb-false x 48 (not-true (eqb x 48) q) in
        value-decimal (x - 48) (y ∷ t) (above lo n) f ∙ rw (decimal-small (x - 48) (omega arith), e)

    go : (b : Bool) → is_digit x ≡ b → cond b (are_digits s) false ≡ true → decimal (value_from (0 * 10 + (x - 48)) s) ≡ x ∷ s
    go true e f = let l = digit_range x e in let z : 0 * 10 + (x - 48) ≡ x - 48 = omega arith in rw z (by s l.0 l.1 p f)
    go false e f = absurd (subst T (sym f) tt)

natural_only : (s : List ℕ) (n : ℕ) → natural s ≡ Some n → s ≡ decimal n
unfolding natural natural_from
natural_only s n e = go (is_plain s) refl (are_digits s) refl e
  where
    go : (a : Bool) → is_plain s ≡ a → (b : Bool) → are_digits s ≡ b → cond a (cond b (Some (value_from 0 s)) None) None ≡ Some n → s ≡ decimal n
    go true p true d h = sym (plain-decimal s p d) ∙ ap decimal (same_Some _ _ h)
    go true p false d h = absurd (none-some n h)
    go false p b d h = absurd (none-some n h)

pub unsigned_only : (s : List ℕ) (n : ℕ) → read_unsigned s ≡ Some n → s ≡ decimal n
unfolding read_unsigned fit_unsigned
unsigned_only s n e = go (natural s) refl e
  where
    by : (m : ℕ) (b : Bool) → cond b (Some m) None ≡ Some n → m ≡ n
    by m true h = cc
    by m false h = let z : ◌≡◌ {A = ℕ} 0 1 = cc in absurd (omega arith)

    go : (o : Option ℕ) → natural s ≡ o → fit_unsigned o ≡ Some n → s ≡ decimal n
    go None p h = let z : ◌≡◌ {A = ℕ} 0 1 = cc in absurd (omega arith)
    go (Some m) p h = natural_only s m p ∙ ap decimal (by m (ltb m (2 ^ 64)) h)

integer_only : (s : List ℕ) (z : ℤ) → integer s ≡ Some z → s ≡ decimal_Z z
unfolding integer with_minus without_minus decimal_Z
integer_only [] z e = absurd (none-some z e)
integer_only (x ∷ s) z e = go (eqb x 45) refl e
  where
    minus : (o : Option ℕ) → natural s ≡ o → x ≡ 45 → with_minus o ≡ Some z → (x ∷ s) ≡ decimal_Z z
    minus None p q h = absurd (none-some z h)
    minus (Some zero) p q h = absurd (none-some z h)
    minus (Some (suc n)) p q h = rw (q, natural_only s (suc n) p) (ap decimal_Z (same_Some _ _ h))

    plain : (o : Option ℕ) → natural (x ∷ s) ≡ o → without_minus o ≡ Some z → (x ∷ s) ≡ decimal_Z z
    plain None p h = absurd (none-some z h)
    plain (Some n) p h = natural_only (x ∷ s) n p ∙ ap decimal_Z (same_Some _ _ h)

    go : (b : Bool) → eqb x 45 ≡ b → cond b (with_minus (natural s)) (without_minus (natural (x ∷ s))) ≡ Some z → (x ∷ s) ≡ decimal_Z z
    go true q h = minus (natural s) refl (eqb-true x 45 q) h
    go false q h = plain (natural (x ∷ s)) refl h

pub signed_only : (s : List ℕ) (z : ℤ) → read_signed s ≡ Some z → s ≡ decimal_Z z
unfolding read_signed fit_signed
signed_only s z e = go (integer s) refl e
  where
    pick : (y : ℤ) (b : Bool) → cond b (Some y) None ≡ Some z → y ≡ z
    pick y true h = cc
    pick y false h = let z : ◌≡◌ {A = ℕ} 0 1 = cc in absurd (omega arith)

    by : (y : ℤ) → fit_signed (Some y) ≡ Some z → y ≡ z
    by (pos m) h = pick (pos m) (ltb m (2 ^ 63)) h
    by (negsuc m) h = pick (negsuc m) (ltb m (2 ^ 63)) h

    go : (o : Option ℤ) → integer s ≡ o → fit_signed o ≡ Some z → s ≡ decimal_Z z
    go None p h = let z : ◌≡◌ {A = ℕ} 0 1 = cc in absurd (omega arith)
    go (Some y) p h = integer_only s y p ∙ ap decimal_Z (by y h)
