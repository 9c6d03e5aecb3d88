-- D' as the mean of a matrix and its transposed, which are summed over a triangle alone.
use mathlib.Core.Path.{◌≡◌, refl, sym, ◌∙◌, ap, ap₂}
use mathlib.Core.Bool.{◌&&◌}
use mathlib.Core.Logic.{⊎_elim}
use mathlib.Core.List.{List}
use Prim.Native.Nat.{ℕ, suc, ◌+◌, ◌*◌, ◌/◌, ◌^◌, ◌<◌, ◌≤◌}
use native.Mathlib.Omega.{arith}
use native.Mathlib.Nat.{eq-or-lt_of_le}
use lib.Arith.{le→nltb}
use lib.Dec.{ltb, ltb→lt, lt→ltb, leb}
use lib.IntN.{ℤ, pos, negsuc, neg_ℤ, nat_abs, ◌+ℤ◌, ◌*ℤ◌, +ℤ_comm, +ℤ_idr}
use lib.ListN.{get_or}
use lib.Signed.{quot_z}
use Rattle.integers.specs.Sums.{sum}
use Rattle.integers.proofs.Ring.{ac}
use Rattle.integers.proofs.Sizes.{nat_abs-*, nat_abs-+, nat_abs_negate}
use Rattle.integers.proofs.Sums.{sum_cong, sum_add}
use Rattle.integers.proofs.Tests.{cond_ind, cond_yes, cond_no, and_fst, and_snd, and_both, le_or_lt}
use Rattle.matrices.specs.Matrices.{Matrix, product, transposed, both_sides}
use Rattle.matrices.specs.Triangles.{triangular, mirrored, lower_part}
use Rattle.matrices.proofs.Bounds.{product-bound}
use Rattle.matrices.proofs.Triangles.{part_low, part-high, mirrored-low, mirrored-symmetric, entrywise, turned-sides}
use Rattle.small_rows.specs.Small.{Within}
use Rattle.fold_gram.specs.Halves.{below_twice, corner}

-- twice a number, and half of it
two : (z : ℤ) → pos 2 *ℤ z ≡ z +ℤ z
two (pos n) = let e : 2 * n ≡ n + n = omega arith in ap pos e
two (negsuc n) = let e : 2 * suc n ≡ suc (suc (n + n)) = omega arith in ap (λ (m : ℕ). neg_ℤ (pos m)) e

pub half_twice : (z : ℤ) → quot_z (z +ℤ z) (pos 2) ≡ z
half_twice (pos n) = let e : (n + n) / 2 ≡ n = omega arith in ap pos e
half_twice (negsuc n) = let e : suc (suc (n + n)) / 2 ≡ suc n = omega arith in ap (λ (m : ℕ). neg_ℤ (pos m)) e

-- the sizes of a half and of a double
pub half-size : (z : ℤ) → nat_abs (quot_z z (pos 2)) ≤ nat_abs z
half-size (pos n) = omega arith
half-size (negsuc n) = omega (arith, nat_abs_negate (pos (suc n / 2)))

twice-size : (z : ℤ) → nat_abs z ≤ nat_abs (z +ℤ z)
twice-size (pos n) = omega arith
twice-size (negsuc n) = omega arith

-- Y in the corner, and X elsewhere
module _ (i : ℕ) (Y X : Matrix) (r c : ℕ) where
  pub corner_in : r < i → c < i → corner i Y X r c ≡ Y r c
  unfolding corner
  corner_in h k = cond_yes (ltb r i && ltb c i) _ _ (and_both (ltb r i) (ltb c i) (lt→ltb r i h) (lt→ltb c i k))

  pub corner_out : (r < i → c < i → ⊥) → corner i Y X r c ≡ X r c
  unfolding corner
  corner_out f = cond_ind (ltb r i && ltb c i) (Y r c) (X r c) (λ z. z ≡ X r c)
      (λ t. absurd (f (ltb→lt r i (and_fst (ltb r i) (ltb c i) t)) (ltb→lt c i (and_snd (ltb r i) (ltb c i) t)))) (λ t. refl)

  pub corner-size : (M : ℕ) → nat_abs (Y r c) ≤ M → nat_abs (X r c) ≤ M → nat_abs (corner i Y X r c) ≤ M
  unfolding corner
  corner-size M h k = cond_ind (ltb r i && ltb c i) (Y r c) (X r c) (λ z. nat_abs z ≤ M) (λ t. h) (λ t. k)

-- the triangle's entries: below the diagonal, on it, and above it
module _ (d : List ℤ) where
  pub below-low : (a b : ℕ) → b < a → below_twice d a b ≡ pos 2 *ℤ get_or d (triangular a + b) (pos 0)
  unfolding below_twice
  below-low a b h = cond_yes (ltb b a) _ _ (lt→ltb b a h) ∙ ap (λ (z : ℤ). pos 2 *ℤ z) (part_low d a b (omega arith))

  pub below_on : (a : ℕ) → below_twice d a a ≡ get_or d (triangular a + a) (pos 0)
  unfolding below_twice
  below_on a = cond_no (ltb a a) _ _ (le→nltb a a (omega arith)) ∙ part_low d a a (omega arith)

  pub below-high : (a b : ℕ) → a < b → below_twice d a b ≡ pos 0
  unfolding below_twice
  below-high a b h = cond_no (ltb b a) _ _ (le→nltb b a (omega arith)) ∙ part-high d a b h

  -- with its transposed it is twice the mirrored square
  twice-low : (a b : ℕ) → b < a → below_twice d a b +ℤ below_twice d b a ≡ mirrored d a b +ℤ mirrored d a b
  twice-low a b h =
      let m = sym (mirrored-low d a b (omega arith)) in
      ap₂ ◌+ℤ◌ (below-low a b h ∙ two (get_or d (triangular a + b) (pos 0))) (below-high b a h) ∙ +ℤ_idr _ ∙ ap₂ ◌+ℤ◌ m m

  twice-mirrored : (a b : ℕ) → below_twice d a b +ℤ below_twice d b a ≡ mirrored d a b +ℤ mirrored d a b
  twice-mirrored a b = ⊎_elim
      (λ (h : a ≤ b). ⊎_elim
      (λ (e : a ≡ b). let o = below_on b ∙ sym (mirrored-low d b b (omega arith)) in rw e (ap₂ ◌+ℤ◌ o o))
      (λ (l : a < b).
      let m = mirrored-symmetric d b a in
      +ℤ_comm (below_twice d a b) (below_twice d b a) ∙ twice-low b a l ∙ ap₂ ◌+ℤ◌ m m)
      (eq-or-lt_of_le h))
      (λ (h : b < a). twice-low a b h)
      (le_or_lt a b)

-- where X + X transposed is twice Y, the same holds of C transposed times X times C, and Y
module _ (n : ℕ) (C X Y : Matrix) (twice : (a b : ℕ) → X a b +ℤ X b a ≡ Y a b +ℤ Y a b) (i j : ℕ) where
  added : (f g : ℕ → ℕ → ℤ) → sum n (λ a. sum n (f a)) +ℤ sum n (λ a. sum n (g a)) ≡ sum n (λ a. sum n (λ b. f a b +ℤ g a b))
  added f g = sym (sum_add n (λ a. sum n (f a)) (λ a. sum n (g a))) ∙ sum_cong n _ _ (λ a h. sym (sum_add n (f a) (g a)))

  pub sides-twice : both_sides n C X i j +ℤ both_sides n C X j i ≡ both_sides n C Y i j +ℤ both_sides n C Y i j
  sides-twice =
      ap₂ ◌+ℤ◌ (entrywise n C X i j) (turned-sides n C X i j ∙ entrywise n C (transposed X) i j)
      ∙ added (λ a b. C a i *ℤ X a b *ℤ C b j) (λ a b. C a i *ℤ X b a *ℤ C b j)
      ∙ sum_cong n _ _ (λ a ha. sum_cong n _ _ (λ b hb. term (C a i) (C b j) (X a b) (X b a) (Y a b) (twice a b)))
      ∙ sym (added (λ a b. C a i *ℤ Y a b *ℤ C b j) (λ a b. C a i *ℤ Y a b *ℤ C b j))
      ∙ ap₂ ◌+ℤ◌ (sym (entrywise n C Y i j)) (sym (entrywise n C Y i j))
    where
      spread : (x u v z : ℤ) → x *ℤ u *ℤ z +ℤ x *ℤ v *ℤ z ≡ x *ℤ (u +ℤ v) *ℤ z
      spread x u v z = simp ac refl

      term : (x z u v y : ℤ) → u +ℤ v ≡ y +ℤ y → x *ℤ u *ℤ z +ℤ x *ℤ v *ℤ z ≡ x *ℤ y *ℤ z +ℤ x *ℤ y *ℤ z
      term x z u v y e = spread x u v z ∙ ap (λ (w : ℤ). x *ℤ w *ℤ z) e ∙ sym (spread x y y z)

-- D' of the triangle d, and N, of which it is the mean
abbrev pub folded_by : ℕ → Matrix → List ℤ → Matrix
folded_by n C d = both_sides n C (mirrored d)

abbrev pub doubled_by : ℕ → Matrix → List ℤ → Matrix
doubled_by n C d = both_sides n C (below_twice d)

module _ (n : ℕ) (C : Matrix) (d : List ℤ) where
  pub doubled-twice : (i j : ℕ) → doubled_by n C d i j +ℤ doubled_by n C d j i ≡ folded_by n C d i j +ℤ folded_by n C d i j
  doubled-twice = sides-twice n C (below_twice d) (mirrored d) (twice-mirrored d)

  -- the sizes of all that is summed, for D~ within 2^31 and factors within 16
  module _ (few : n ≤ 512) (small : Within (2 ^ 31) d) (factors : (a i : ℕ) → nat_abs (C a i) ≤ 16) where
    below-size : (a b : ℕ) → nat_abs (below_twice d a b) ≤ 2 ^ 32
    unfolding below_twice lower_part
    below-size a b = cond_ind (ltb b a) (pos 2 *ℤ lower_part d a b) (lower_part d a b) (λ z. nat_abs z ≤ 2 ^ 32)
        (λ t. omega (arith, nat_abs-* (pos 2) (lower_part d a b), part)) (λ t. omega (arith, part))
      where
        part : nat_abs (lower_part d a b) ≤ 2 ^ 31
        part = cond_ind (leb b a) (get_or d (triangular a + b) (pos 0)) (pos 0) (λ z. nat_abs z ≤ 2 ^ 31) (λ t. small (triangular a + b)) (λ t. omega arith)

    pub left-bound : (m i x : ℕ) → m ≤ n → nat_abs (product m (transposed C) (below_twice d) i x) ≤ 2 ^ 45
    left-bound m i x h = omega (arith, few, h, product-bound m 16 (2 ^ 32) (transposed C) (below_twice d) i x (λ a l. factors a i) (λ a l. below-size a x))

    pub doubled_by-size : (i j : ℕ) → nat_abs (doubled_by n C d i j) ≤ 2 ^ 58
    doubled_by-size i j = omega (arith, few, product-bound n (2 ^ 45) 16 (product n (transposed C) (below_twice d)) C i j (λ a l. left-bound n i a (omega arith)) (λ a l. factors a j))

    pub folded_by-size : (i j : ℕ) → nat_abs (folded_by n C d i j) ≤ 2 ^ 59
    folded_by-size i j = omega (
      arith,
      twice-size (folded_by n C d i j),
      ap nat_abs (doubled-twice i j),
      nat_abs-+ (doubled_by n C d i j) (doubled_by n C d j i),
      doubled_by-size i j,
      doubled_by-size j i,
    )
