-- A field as a ternary entry, by its length and its bytes: `0`, `1`, `-1`, and any other.
use Rattle.std.specs.Prelude.{◌≡◌, ℕ, Bool, true, false, cond, eqb, List, [], ◌∷◌, Some, None, ◌≤◌, ◌<◌, refl}
use Rattle.std.proofs.Common.{arith, length, get_or, sym, ◌∙◌}
use borrow.Author.Tests.{ne_eqb}
use Rattle.text.specs.Fields.{same, read_ternary}

neither : (b : Bool) → cond b false false ≡ false
neither true = refl
neither false = refl

pub is-zero : (f : List ℕ) → 1 ≤ length f → length f < 2 → get_or f 0 0 ≡ 48 → Some 0 ≡ read_ternary f
unfolding read_ternary same
is-zero [] a b e = absurd (omega arith)
is-zero (x ∷ []) a b e = rw e
is-zero (x ∷ (y ∷ f)) a b e = absurd (omega arith)

pub is_one : (f : List ℕ) → 1 ≤ length f → length f < 2 → get_or f 0 0 ≡ 49 → Some 1 ≡ read_ternary f
unfolding read_ternary same
is_one [] a b e = absurd (omega arith)
is_one (x ∷ []) a b e = rw e
is_one (x ∷ (y ∷ f)) a b e = absurd (omega arith)

pub is-minus-one : (f : List ℕ) → 2 ≤ length f → length f < 3 → get_or f 0 0 ≡ 45 → get_or f 1 0 ≡ 49 → Some 2 ≡ read_ternary f
unfolding read_ternary same
is-minus-one [] a b e g = absurd (omega arith)
is-minus-one (x ∷ []) a b e g = absurd (omega arith)
is-minus-one (x ∷ (y ∷ [])) a b e g = rw (e, g)
is-minus-one (x ∷ (y ∷ (z ∷ f))) a b e g = absurd (omega arith)

pub no_byte : (f : List ℕ) → length f < 1 → None ≡ read_ternary f
unfolding read_ternary same
no_byte [] a = refl
no_byte (x ∷ f) a = absurd (omega arith)

pub other_byte : (f : List ℕ) → 1 ≤ length f → length f < 2 → (get_or f 0 0 ≡ 48 → ⊥) → (get_or f 0 0 ≡ 49 → ⊥) → None ≡ read_ternary f
unfolding read_ternary same
other_byte [] a b e g = refl
other_byte (x ∷ []) a b e g = rw (ne_eqb x 48 e, ne_eqb x 49 g, neither (eqb x 45))
other_byte (x ∷ (y ∷ f)) a b e g = absurd (omega arith)

-- a field of more than one byte is neither `0` nor `1`
longer : (x y : ℕ) (f : List ℕ) → read_ternary (x ∷ (y ∷ f)) ≡ cond (same (x ∷ (y ∷ f)) (45 ∷ 49 ∷ [])) (Some 2) None
unfolding read_ternary same
longer x y f = rw (neither (eqb x 48), neither (eqb x 49))

pub no_minus : (f : List ℕ) → 2 ≤ length f → (get_or f 0 0 ≡ 45 → ⊥) → None ≡ read_ternary f
unfolding same
no_minus [] a e = absurd (omega arith)
no_minus (x ∷ []) a e = absurd (omega arith)
no_minus (x ∷ (y ∷ f)) a e = sym (longer x y f ∙ rw (ne_eqb x 45 e))

pub not_minus_one : (f : List ℕ) → 2 ≤ length f → length f < 3 → (get_or f 1 0 ≡ 49 → ⊥) → None ≡ read_ternary f
unfolding same
not_minus_one [] a b e = absurd (omega arith)
not_minus_one (x ∷ []) a b e = absurd (omega arith)
not_minus_one (x ∷ (y ∷ f)) a b e = sym (longer x y f ∙ rw (ne_eqb y 49 e, neither (eqb x 45)))

pub too_long : (f : List ℕ) → 3 ≤ length f → None ≡ read_ternary f
unfolding same
too_long [] a = absurd (omega arith)
too_long (x ∷ []) a = absurd (omega arith)
too_long (x ∷ (y ∷ [])) a = absurd (omega arith)
too_long (x ∷ (y ∷ (z ∷ f))) a = sym (longer x y (z ∷ f) ∙ rw (neither (eqb y 49), neither (eqb x 45)))

pub ruleset entries = (is-zero, is_one, is-minus-one, no_byte, other_byte, no_minus, not_minus_one, too_long)
