-- Byte strings: their equality, and the place of the first tab.
use mathlib.Core.Path.{◌≡◌, refl, sym, ap, ◌∙◌, subst}
use mathlib.Core.Bool.{Bool, true, false, not, cond, ◌&&◌}
use mathlib.Core.List.{List, [], ◌∷◌}
use Prim.Native.Nat.{ℕ, suc, ◌+◌, ◌≤◌, ◌<◌}
use native.Mathlib.Omega.{arith}
use native.Mathlib.Nat.{le_refl}
use lib.Dec.{T, ltb, eqb}
use lib.ListN.{length, get_or, drop, drop_of_length-le}
use borrow.Author.Tests.{eq-eqb, eqb-true, ltb-false}
use Rattle.std.specs.Prelude.{Some, None}
use Rattle.std.specs.List.{list_all, range_with_len, position, position_or_len}
use Rattle.std.specs.Option.{unwrap_or}
use Rattle.std.specs.Cmp.Lexicographic.{pointwise}
use Rattle.std.proofs.lemmas.List.FromFn.{length-range_with_len, get_or-range_with_len}
use Rattle.text.specs.Fields.{until_tab, same}

pub same_refl : (s : List ℕ) → same s s ≡ true
unfolding same
same_refl [] = refl
same_refl (x ∷ s) = rw (eq-eqb x x refl, same_refl s)

pub same_eq : (s t : List ℕ) → same s t ≡ true → s ≡ t
unfolding same
same_eq [] [] e = refl
same_eq [] (y ∷ t) e = absurd (subst T (sym e) tt)
same_eq (x ∷ s) [] e = absurd (subst T (sym e) tt)
same_eq (x ∷ s) (y ∷ t) e = go (eqb x y) refl e (same_eq s t)
  where
    go : (b : Bool) → eqb x y ≡ b → cond b (same s t) false ≡ true → (same s t ≡ true → s ≡ t) → (x ∷ s) ≡ (y ∷ t)
    go true p h r = rw (eqb-true x y p, r h)
    go false p h r = absurd (subst T (sym h) tt)

-- the library's equality of slices
pub same_lem : (s t : List ℕ) → pointwise eqb s t ≡ same s t
unfolding same
same_lem [] [] = refl
same_lem [] (y ∷ t) = refl
same_lem (x ∷ s) [] = refl
same_lem (x ∷ s) (y ∷ t) = go (eqb x y) (same_lem s t)
  where
    go : (b : Bool) → pointwise eqb s t ≡ same s t → (b && pointwise eqb s t) ≡ cond b (same s t) false
    go true r = r
    go false r = refl

-- strings of different lengths
pub same-lengths : (s t : List ℕ) → (length s ≡ length t → ⊥) → same s t ≡ false
unfolding same
same-lengths [] [] n = absurd (n refl)
same-lengths [] (y ∷ t) n = refl
same-lengths (x ∷ s) [] n = refl
same-lengths (x ∷ s) (y ∷ t) n = go (eqb x y) (same-lengths s t (λ e. n (ap suc e)))
  where
    go : (b : Bool) → same s t ≡ false → cond b (same s t) false ≡ false
    go true r = r
    go false r = refl

-- and of the same length: a test of each place
same_places : (s t places : List ℕ) (P : ℕ → Bool) → length places ≡ length s → length s ≡ length t
    → ((i : ℕ) → i < length s → P (get_or places i 0) ≡ eqb (get_or s i 0) (get_or t i 0)) → list_all P places ≡ same s t
unfolding same
same_places [] [] [] P e f is = refl
same_places [] [] (k ∷ places) P e f is = absurd (omega arith)
same_places [] (y ∷ t) places P e f is = absurd (omega arith)
same_places (x ∷ s) [] places P e f is = absurd (omega arith)
same_places (x ∷ s) (y ∷ t) [] P e f is = absurd (omega arith)
same_places (x ∷ s) (y ∷ t) (k ∷ places) P e f is =
    rw (is 0 (omega arith)) (go (eqb x y) (same_places s t places P (omega arith) (omega arith) (λ i l. is (suc i) (omega arith))))
  where
    go : (b : Bool) → list_all P places ≡ same s t → (b && list_all P places) ≡ cond b (same s t) false
    go true r = r
    go false r = refl

pub same_range : (s t : List ℕ) → length s ≡ length t → list_all (λ i. eqb (get_or s i 0) (get_or t i 0)) (range_with_len 0 (length s)) ≡ same s t
same_range s t e =
    same_places s t (range_with_len 0 (length s)) (λ i. eqb (get_or s i 0) (get_or t i 0)) (length-range_with_len 0 (length s)) e
    (λ i l. ap (λ k. eqb (get_or s k 0) (get_or t k 0)) (get_or-range_with_len 0 (length s) i 0 l ∙ omega arith))

-- the first tab from i on
pub until_within : (s : List ℕ) → until_tab s ≤ length s
unfolding until_tab
until_within [] = le_refl 0
until_within (x ∷ s) = go (eqb x 9) (until_within s)
  where
    go : (b : Bool) → until_tab s ≤ length s → cond b 0 (suc (until_tab s)) ≤ suc (length s)
    go true r = omega arith
    go false r = omega arith

-- the library's search of an element
first_tab : (s : List ℕ) → position_or_len (λ b. eqb b 9) s ≡ until_tab s
unfolding until_tab
first_tab [] = refl
first_tab (x ∷ s) = go (eqb x 9) (first_tab s)
  where
    go : (b : Bool) → position_or_len (λ b. eqb b 9) s ≡ until_tab s → cond (not b) (1 + position_or_len (λ b. eqb b 9) s) 0 ≡ cond b 0 (suc (until_tab s))
    go true r = refl
    go false r = omega (arith, r)

pub until_tab_lem : (s : List ℕ) → unwrap_or (position (λ b. eqb b 9) s) (length s) ≡ until_tab s
until_tab_lem s = rw (first_tab s) (go (ltb (until_tab s) (length s)) refl)
  where
    go : (b : Bool) → ltb (until_tab s) (length s) ≡ b → unwrap_or (cond b (Some (until_tab s)) None) (length s) ≡ until_tab s
    go true e = refl
    go false e = omega (arith, ltb-false (until_tab s) (length s) e, until_within s)

pub until_past : (s : List ℕ) (i : ℕ) → length s < i → until_tab (drop i s) ≡ 0
unfolding until_tab
until_past s i h = let l : length s ≤ i = omega arith in rw (drop_of_length-le s l)
