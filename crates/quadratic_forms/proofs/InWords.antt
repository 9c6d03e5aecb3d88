-- Why no sum of the search leaves a word.
use mathlib.Core.Path.{◌≡◌, refl, sym, ap, ap₂, subst, ◌∙◌}
use mathlib.Core.List.{List}
use Prim.Native.Nat.{ℕ, ◌+◌, ◌-◌, ◌*◌, ◌^◌, ◌<◌, ◌≤◌}
use native.Mathlib.Omega.{arith}
use native.Mathlib.Nat.{mul-le-mul, pow-le-pow_right}
use lib.IntN.{ℤ, pos, nat_abs, neg_ℤ, ◌+ℤ◌, ◌-ℤ◌, ◌*ℤ◌}
use lib.ListN.{length, get_or, replicate, get_or-replicate}
use mir.Syntax.{w64}
use mir.Val.{to_z, of_z}
use Rattle.integers.proofs.Sizes.{nat_abs-*, nat_abs-+, nat_abs_negate}
use Rattle.integers.proofs.Words.{Held, read_back, plus, minus, times}
use Rattle.matrices.specs.Triangles.{triangular}
use Rattle.matrices.proofs.Triangles.{cell_within, triangular_mono, mirrored-low}
use Rattle.lova.specs.Tests.{eq_Z}
use Rattle.quadratic_forms.specs.Forms.{Vector, zeros_of}
use Rattle.quadratic_forms.specs.Counts.{largest_entry, Proper}
use Rattle.quadratic_forms.specs.Search.{last_zeros, terms_of, after_choice, Holds, term_limit, number_limit, Terms, LastCarried}
use Rattle.quadratic_forms.proofs.Counts.{tally-high, zeros-high}

-- the coordinates that are left, as the code has them
pub last_row : (e : List ℤ) (i : ℕ) (l : List ℤ) → Terms e i l → Terms e (i - 1 + 1) l
last_row e i l t = let back : i ≡ i - 1 + 1 = omega (arith, t.some) in subst (λ (n : ℕ). Terms e n l) back t

pub last-number : (i : ℕ) (q : ℤ) → 1 ≤ i → nat_abs q ≤ number_limit i → nat_abs q ≤ number_limit (i - 1 + 1)
last-number i q some h = omega (arith, some, h)

pub none-at : (j : ℕ) → j < 12 → terms_of (replicate 12 (pos 0)) j ≡ pos 0
none-at j h = get_or-replicate 12 j (pos 0) (pos 0) h

-- a proper call has no linear terms to begin with, whatever coordinate is chosen first
pub no_terms : (N : ℕ) (e : List ℤ) → Proper N e → (r : ℕ) → r < N → Terms e (r + 1) (replicate 12 (pos 0))
no_terms N e p r h = record {
  some = omega arith;
  most = omega (arith, p.rows.1);
  rows = omega (arith, p.long, triangular_mono (r + 1) N (omega arith));
  entries = p.entries;
  long = refl;
  small = λ j k. omega (arith, ap nat_abs (none-at j (omega (arith, k, p.rows.1))));
}

-- no more than three choices for the last coordinate, and no count is above 3^12
pub last-small : (x : ℕ) (q term square : ℤ) → x ≡ last_zeros q term square → x ≤ 3
unfolding last_zeros
last-small x q term square h =
    omega (arith, h, tally-high (eq_Z ((q +ℤ square) -ℤ term) (pos 0)), tally-high (eq_Z q (pos 0)), tally-high (eq_Z ((q +ℤ square) +ℤ term) (pos 0)))

pub count_small : (n : ℕ) → n ≤ 12 → (f : Vector → ℤ) → zeros_of n f ≤ 531441
count_small n most f = omega (arith, zeros-high n f, pow-le-pow_right {n = 3} (omega arith) {i = n} {j = 12} most)

-- the entries of the last row, and the linear terms
module _ (e : List ℤ) (r : ℕ) (l : List ℤ) (t : Terms e (r + 1) l) where
  pub place : (j : ℕ) → j ≤ r → triangular r + j < length e
  place j h = omega (arith, cell_within (r + 1) r j (omega arith) h, t.rows)

  pub entry-small : (j : ℕ) → j ≤ r → nat_abs (get_or e (triangular r + j) (pos 0)) ≤ largest_entry
  entry-small j h = t.entries (triangular r + j) (place j h)

  -- an entry counts twice, with a sign
  pub double-small : (j : ℕ) → j ≤ r → nat_abs (pos 2 *ℤ get_or e (triangular r + j) (pos 0)) ≤ 2 * largest_entry
  double-small j h = omega (arith, nat_abs-* (pos 2) (get_or e (triangular r + j) (pos 0)), entry-small j h)

  pub signed-small : (c : ℤ) → nat_abs c ≤ 1 → (j : ℕ) → j ≤ r → nat_abs (c *ℤ (pos 2 *ℤ get_or e (triangular r + j) (pos 0))) ≤ 2 * largest_entry
  signed-small c one j h =
      let x = pos 2 *ℤ get_or e (triangular r + j) (pos 0) in
      omega (arith, nat_abs-* c x, mul-le-mul one (double-small j h))

  -- a term after a choice
  pub chosen_small : (c : ℤ) → nat_abs c ≤ 1 → (j : ℕ) → j < r
      → nat_abs (terms_of l j +ℤ c *ℤ (pos 2 *ℤ get_or e (triangular r + j) (pos 0))) ≤ term_limit r
  chosen_small c one j h =
      let x = c *ℤ (pos 2 *ℤ get_or e (triangular r + j) (pos 0)) in
      omega (arith, nat_abs-+ (terms_of l j) x, t.small j (omega arith), signed-small c one j (omega arith), t.most)

  -- the products and the sum that make it, as the machine has them
  abbrev entry : ℕ → ℤ
  entry j = get_or e (triangular r + j) (pos 0)

  module _ (j : ℕ) (below : j < r) where
    pub doubled-held : Held w64 (pos 2 *ℤ to_z w64 (of_z w64 (entry j))) (pos 2 *ℤ entry j)
    doubled-held =
        let small = entry-small j (omega arith) in
        times (pos 2) (entry j) refl (read_back w64 (entry j) (omega (arith, small))) (omega (arith, small))

    module _ (c : ℤ) (one : nat_abs c ≤ 1) where
      pub signed-held : Held w64 (to_z w64 (of_z w64 c) *ℤ to_z w64 (of_z w64 (pos 2 *ℤ to_z w64 (of_z w64 (entry j))))) (c *ℤ (pos 2 *ℤ entry j))
      signed-held =
          times c (pos 2 *ℤ entry j) (read_back w64 c (omega (arith, one))) doubled-held.read
          (omega (arith, nat_abs-* c (pos 2 *ℤ entry j), signed-small c one j (omega arith)))

      abbrev made : ℤ
      made = to_z w64 (of_z w64 (terms_of l j))
          +ℤ to_z w64 (of_z w64 (to_z w64 (of_z w64 c) *ℤ to_z w64 (of_z w64 (pos 2 *ℤ to_z w64 (of_z w64 (entry j))))))

      pub made_held : Held w64 made (terms_of l j +ℤ c *ℤ (pos 2 *ℤ entry j))
      made_held =
          let small = t.small j (omega arith) in
          plus (terms_of l j) (c *ℤ (pos 2 *ℤ entry j)) (read_back w64 (terms_of l j) (omega (arith, small))) signed-held.read
          (omega (arith, small)) (omega (arith, signed-small c one j (omega arith)))

      pub made_chosen : to_z w64 (of_z w64 made) ≡ after_choice e r (to_z w64 (of_z w64 c)) (terms_of l) j
      made_chosen =
          made_held.read
          ∙ ap₂ (λ (a b : ℤ). terms_of l j +ℤ a *ℤ (pos 2 *ℤ b)) (sym (read_back w64 c (omega (arith, one)))) (sym (mirrored-low e r j (omega arith)))

  -- the linear terms of a choice are carried on
  pub chosen_terms : (c : ℤ) → nat_abs c ≤ 1 → 1 ≤ r → (x : List ℤ) → length x ≡ 12 → Holds r (after_choice e r c (terms_of l)) x → Terms e r x
  chosen_terms c one some x long holds = record {
    some = some;
    most = omega (arith, t.most);
    rows = omega (arith, triangular_mono r (r + 1) (omega arith), t.rows);
    entries = t.entries;
    long = long;
    small = λ j h. subst (λ (z : ℤ). nat_abs z ≤ term_limit r)
        (sym (holds j h ∙ ap (λ (z : ℤ). terms_of l j +ℤ c *ℤ (pos 2 *ℤ z)) (mirrored-low e r j (omega arith)))) (chosen_small c one j h);
  }

  -- where 0 is chosen they stay
  pub same-terms : 1 ≤ r → Terms e r l
  same-terms some = record {
    some = some;
    most = omega (arith, t.most);
    rows = omega (arith, triangular_mono r (r + 1) (omega arith), t.rows);
    entries = t.entries;
    long = t.long;
    small = λ j h. omega (arith, t.small j (omega arith));
  }

  -- the last diagonal entry, the last linear term and the number, at any level
  pub last_carried : (q : ℤ) → nat_abs q ≤ number_limit (r + 1) → LastCarried q (terms_of l r) (entry r)
  last_carried q number = (omega (arith, number), omega (arith, t.small r (omega arith)), entry-small r (omega arith))

  -- the numbers that the choices −1 and 1 leave
  module _ (q : ℤ) (number : nat_abs q ≤ number_limit (r + 1)) where
    square-small : nat_abs (q +ℤ entry r) ≤ number_limit (r + 1) + largest_entry
    square-small = omega (arith, nat_abs-+ q (entry r), number, entry-small r (omega arith))

    pub less-small : nat_abs ((q +ℤ entry r) -ℤ terms_of l r) ≤ number_limit r
    less-small =
        omega (arith, nat_abs-+ (q +ℤ entry r) (neg_ℤ (terms_of l r)), nat_abs_negate (terms_of l r), square-small, t.small r (omega arith), t.most)

    pub more-small : nat_abs ((q +ℤ entry r) +ℤ terms_of l r) ≤ number_limit r
    more-small = omega (arith, nat_abs-+ (q +ℤ entry r) (terms_of l r), square-small, t.small r (omega arith), t.most)

-- the number with the square, and with the linear term taken away and added, as the machine has them
pub record Numbers (q term square : ℤ) : Type 0 where
  pub squared : Held w64 (to_z w64 (of_z w64 q) +ℤ to_z w64 (of_z w64 square)) (q +ℤ square)
  pub less : Held w64 (to_z w64 (of_z w64 (to_z w64 (of_z w64 q) +ℤ to_z w64 (of_z w64 square))) -ℤ to_z w64 (of_z w64 term)) ((q +ℤ square) -ℤ term)
  pub more : Held w64 (to_z w64 (of_z w64 (to_z w64 (of_z w64 q) +ℤ to_z w64 (of_z w64 square))) +ℤ to_z w64 (of_z w64 term)) ((q +ℤ square) +ℤ term)

pub numbers : (q term square : ℤ) → LastCarried q term square → Numbers q term square
numbers q term square h =
    let squared = plus q square (read_back w64 q (omega (arith, h.0))) (read_back w64 square (omega (arith, h.2))) (omega (arith, h.0)) (omega (arith, h.2)) in
    let small : nat_abs (q +ℤ square) ≤ 2 ^ 61 = omega (arith, nat_abs-+ q square, h.0, h.2) in
    let term-read = read_back w64 term (omega (arith, h.1)) in
    record {
      squared = squared;
      less = minus (q +ℤ square) term squared.read term-read small (omega (arith, h.1));
      more = plus (q +ℤ square) term squared.read term-read small (omega (arith, h.1));
    }

-- what two coordinates leave of the number and of the first linear term, as the machine has it
module _ (e l : List ℤ) (q : ℤ) where
  abbrev first : ℤ
  first = terms_of l 0

  abbrev beside : ℤ
  beside = pos 2 *ℤ get_or e 1 (pos 0)

  abbrev squared : ℤ
  squared = q +ℤ get_or e 2 (pos 0)

  pub record Two : Type 0 where
    pub number : Numbers q (terms_of l 1) (get_or e 2 (pos 0))
    pub twice : Held w64 (pos 2 *ℤ to_z w64 (of_z w64 (get_or e 1 (pos 0)))) beside
    pub less : Held w64 (to_z w64 (of_z w64 first) -ℤ to_z w64 (of_z w64 (pos 2 *ℤ to_z w64 (of_z w64 (get_or e 1 (pos 0)))))) (first -ℤ beside)
    pub more : Held w64 (to_z w64 (of_z w64 first) +ℤ to_z w64 (of_z w64 (pos 2 *ℤ to_z w64 (of_z w64 (get_or e 1 (pos 0)))))) (first +ℤ beside)
    pub below : LastCarried (squared -ℤ terms_of l 1) (first -ℤ beside) (get_or e 0 (pos 0))
    pub at : LastCarried q first (get_or e 0 (pos 0))
    pub above : LastCarried (squared +ℤ terms_of l 1) (first +ℤ beside) (get_or e 0 (pos 0))

  pub two : Terms e 2 l → nat_abs q ≤ number_limit 2 → Two
  two t small =
      let x = get_or e 0 (pos 0) in
      let x-small : nat_abs x ≤ largest_entry = t.entries 0 (omega (arith, t.rows)) in
      let y = get_or e 1 (pos 0) in
      let y_small : nat_abs y ≤ largest_entry = t.entries 1 (omega (arith, t.rows)) in
      let first_small = t.small 0 (omega arith) in
      let first_read = read_back w64 first (omega (arith, first_small)) in
      let beside-small : nat_abs beside ≤ 2 * largest_entry = omega (arith, nat_abs-* (pos 2) y, y_small) in
      let twice = times (pos 2) y refl (read_back w64 y (omega (arith, y_small))) (omega (arith, y_small)) in
      record {
        number = numbers q (terms_of l 1) (get_or e 2 (pos 0)) (last_carried e 1 l t q small);
        twice = twice;
        less = minus first beside first_read twice.read (omega (arith, first_small)) (omega (arith, beside-small));
        more = plus first beside first_read twice.read (omega (arith, first_small)) (omega (arith, beside-small));
        below = (less-small e 1 l t q small, omega (arith, nat_abs-+ first (neg_ℤ beside), nat_abs_negate beside, first_small, beside-small), x-small);
        at = (omega (arith, small), omega (arith, first_small), x-small);
        above = (more-small e 1 l t q small, omega (arith, nat_abs-+ first beside, first_small, beside-small), x-small);
      }
