-- A block of a symmetric matrix, summed up by the rows of its lower triangle: what the rows add up to, and why no sum leaves a signed word.
use mathlib.Core.Path.{◌≡◌, refl, sym, ◌∙◌, ap, ap₂}
use mathlib.Core.Logic.{⊎_elim}
use mathlib.Core.List.{List}
use Prim.Native.Nat.{ℕ, zero, suc, ◌+◌, ◌*◌, ◌^◌, ◌<◌, ◌≤◌}
use native.Mathlib.Omega.{arith}
use native.Mathlib.Nat.{le_trans, le_step, le_refl, mul-le-mul, mul-le-mul_left, mul-le-mul_right, eq-or-lt_of_le}
use lib.Arith.{le→nltb}
use lib.Dec.{ltb, lt→ltb}
use lib.IntN.{ℤ, pos, nat_abs, ◌+ℤ◌, ◌*ℤ◌}
use lib.ListN.{get_or}
use Rattle.integers.specs.Sums.{sum, sum_ℕ}
use Rattle.integers.proofs.Ring.{ac}
use Rattle.integers.proofs.Sizes.{nat_abs-+, nat_abs-*}
use Rattle.integers.proofs.Sums.{sum_cong, sum_add, sum_mul_right, nat_abs-sum, sum_ℕ-step, sum_ℕ_mono}
use Rattle.integers.proofs.Tests.{cond_yes, cond_no, le_or_lt}
use Rattle.matrices.specs.Matrices.{Matrix, Symmetric}
use Rattle.matrices.specs.Triangles.{triangular, mirrored}
use Rattle.matrices.proofs.Tables.{row_within}
use Rattle.matrices.proofs.Triangles.{mirrored-low, mirrored-symmetric}
use Rattle.equations.specs.Blocks.{Small, entry_term, row_sum, row_term}

-- a sum over a symmetric square: over each row up to the diagonal, and over what is before it once more
symmetric-sum : (n : ℕ) (G : Matrix) → Symmetric n G → sum n (λ a. sum n (G a)) ≡ sum n (λ a. sum a (G a) +ℤ sum a (G a) +ℤ G a a)
unfolding sum
symmetric-sum zero G sides = refl
symmetric-sum (suc n) G sides =
    ap (λ (z : ℤ). z +ℤ (sum n (G n) +ℤ G n n)) (sum_add n (λ a. sum n (G a)) (λ a. G a n))
    ∙ ap₂ (λ (s c : ℤ). s +ℤ c +ℤ (sum n (G n) +ℤ G n n))
    (symmetric-sum n G (λ a b ha hb. sides a b (le_step ha) (le_step hb)))
    (sum_cong n (λ a. G a n) (G n) (λ a h. sides a n (le_step h) (le_refl (suc n))))
    ∙ regroup (sum n (λ a. sum a (G a) +ℤ sum a (G a) +ℤ G a a)) (sum n (G n)) (G n n)
  where
    regroup : (s r d : ℤ) → s +ℤ r +ℤ (r +ℤ d) ≡ s +ℤ (r +ℤ r +ℤ d)
    regroup s r d = simp ac refl

-- the two forms of a row's sum
module _ (x : List ℤ) (powers : List ℕ) (k i j q : ℕ) where
  pub row-off : j < i → row_sum x powers k i j q ≡ sum k (entry_term x powers k i j q)
  unfolding row_sum
  row-off l = cond_yes (ltb j i) _ _ (lt→ltb j i l)

  pub row_on : i ≤ j → row_sum x powers k i j q ≡ sum q (entry_term x powers k i j q) +ℤ sum q (entry_term x powers k i j q) +ℤ entry_term x powers k i j q q
  unfolding row_sum
  row_on l = cond_no (ltb j i) _ _ (le→nltb j i l)

-- ---- what the rows of block (i, j) add up to

module _ (x : List ℤ) (powers : List ℕ) (k i : ℕ) where
  abbrev power : ℕ → ℤ
  power q = pos (get_or powers q 0)

  -- entry (q, u) of block (i, j) of the mirrored square, times power u
  abbrev term : ℕ → ℕ → ℕ → ℤ
  term j q u = mirrored x (i * k + q) (j * k + u) *ℤ power u

  stored : (j q u : ℕ) → j * k + u ≤ i * k + q → entry_term x powers k i j q u ≡ term j q u
  stored j q u l =
      let place : triangular (i * k + q) + j * k + u ≡ triangular (i * k + q) + (j * k + u) = omega arith in
      ap (λ (z : ℤ). z *ℤ power u) (ap (λ (y : ℕ). get_or x y (pos 0)) place ∙ sym (mirrored-low x (i * k + q) (j * k + u) l))

  below-diagonal : (j : ℕ) → j < i → sum k (row_term x powers k i j) ≡ sum k (λ q. sum k (term j q) *ℤ power q)
  below-diagonal j l = sum_cong k _ _ (λ q h. ap (λ (z : ℤ). z *ℤ power q)
      (row-off x powers k i j q l ∙ sum_cong k (entry_term x powers k i j q) (term j q) (λ u m. stored j q u (omega (arith, row_within i k j l)))))

  -- in a block on the diagonal, entry (q, u) times both powers is symmetric
  abbrev both : ℕ → ℕ → ℤ
  both q u = term i q u *ℤ power q

  symmetric : Symmetric k both
  symmetric q u hq hu = ap (λ (z : ℤ). z *ℤ power u *ℤ power q) (mirrored-symmetric x (i * k + q) (i * k + u)) ∙ turned (mirrored x (i * k + u) (i * k + q)) (power u) (power q)
    where
      turned : (z u v : ℤ) → z *ℤ u *ℤ v ≡ z *ℤ v *ℤ u
      turned z u v = simp ac refl

  diagonal-row : (q : ℕ) → row_term x powers k i i q ≡ sum q (both q) +ℤ sum q (both q) +ℤ both q q
  diagonal-row q =
      let half : sum q (entry_term x powers k i i q) ≡ sum q (term i q) = sum_cong q _ _ (λ u l. stored i q u (omega arith)) in
      ap (λ (z : ℤ). z *ℤ power q) (row_on x powers k i i q (le_refl i) ∙ ap₂ (λ (s e : ℤ). s +ℤ s +ℤ e) half (stored i q q (le_refl (i * k + q))))
      ∙ spread (sum q (term i q)) (term i q q) (power q)
      ∙ ap (λ (z : ℤ). z +ℤ z +ℤ term i q q *ℤ power q) (sum_mul_right q (power q) (term i q))
    where
      spread : (s e w : ℤ) → (s +ℤ s +ℤ e) *ℤ w ≡ s *ℤ w +ℤ s *ℤ w +ℤ e *ℤ w
      spread s e w = simp ac refl

  on-diagonal : sum k (row_term x powers k i i) ≡ sum k (λ q. sum k (term i q) *ℤ power q)
  on-diagonal =
      sum_cong k _ _ (λ q h. diagonal-row q)
      ∙ sym (symmetric-sum k both symmetric)
      ∙ sum_cong k _ _ (λ q h. sym (sum_mul_right k (power q) (term i q)))

  pub block-rows : (j : ℕ) → j ≤ i → sum k (row_term x powers k i j) ≡ sum k (λ q. sum k (term j q) *ℤ power q)
  block-rows j l = ⊎_elim (λ (e : j ≡ i). rw e on-diagonal) (λ (m : j < i). below-diagonal j m) (eq-or-lt_of_le l)

-- ---- why no sum leaves a signed word

-- the sizes of weighted numbers within M add up to at most M times the weights
sizes-within : (n M : ℕ) (f : ℕ → ℤ) (w : ℕ → ℕ) → ((q : ℕ) → q < n → nat_abs (f q) ≤ M) → sum_ℕ n (λ q. nat_abs (f q *ℤ pos (w q))) ≤ M * sum_ℕ n w
unfolding sum_ℕ
sizes-within zero M f w h = omega arith
sizes-within (suc n) M f w h = omega (arith, sizes-within n M f w (λ q l. h q (le_step l)), nat_abs-* (f n) (pos (w n)), mul-le-mul_right (w n) (h n (le_refl (suc n))))

-- and to at most M times the weights' square where number q is that of a row up to the diagonal, with what is before it twice
sizes-square : (n M : ℕ) (f : ℕ → ℤ) (w : ℕ → ℕ) → ((q : ℕ) → q < n → nat_abs (f q) ≤ M * (sum_ℕ q w + sum_ℕ q w + w q))
    → sum_ℕ n (λ q. nat_abs (f q *ℤ pos (w q))) ≤ M * (sum_ℕ n w * sum_ℕ n w)
unfolding sum_ℕ
sizes-square zero M f w h = omega arith
sizes-square (suc n) M f w h = omega (arith, sizes-square n M f w (λ q l. h q (le_step l)), nat_abs-* (f n) (pos (w n)), mul-le-mul_right (w n) (h n (le_refl (suc n))))

module _ {x : List ℤ} {powers : List ℕ} {k : ℕ} (s : Small x powers k) (i j : ℕ) where
  abbrev weight : ℕ → ℕ
  weight q = get_or powers q 0

  abbrev weights : ℕ → ℕ
  weights n = sum_ℕ n weight

  abbrev size : ℕ → ℕ → ℕ
  size q u = nat_abs (entry_term x powers k i j q u)

  -- the first n entries of a row, and its last
  part-size : (q n : ℕ) → sum_ℕ n (size q) ≤ s.bound * weights n
  part-size q n = sizes-within n s.bound (λ u. get_or x (triangular (i * k + q) + j * k + u) (pos 0)) weight (λ u l. s.within _)

  last-size : (q : ℕ) → size q q ≤ s.bound * weight q
  last-size q = rw (nat_abs-* (get_or x (triangular (i * k + q) + j * k + q) (pos 0)) (pos (weight q))) (mul-le-mul_right (weight q) (s.within (triangular (i * k + q) + j * k + q)))

  half-size : (q : ℕ) → sum_ℕ q (size q) + sum_ℕ q (size q) + size q q ≤ s.bound * (weights q + weights q + weight q)
  half-size q = omega (arith, part-size q q, last-size q)

  twice : (q : ℕ) → let half = sum q (entry_term x powers k i j q) in nat_abs (half +ℤ half) ≤ sum_ℕ q (size q) + sum_ℕ q (size q)
  twice q =
      let half : ℤ = sum q (entry_term x powers k i j q) in
      omega (arith, nat_abs-+ half half, nat_abs-sum q (entry_term x powers k i j q))

  -- each row fits
  module _ (q : ℕ) (h : q < k) where
    next : weights q + weight q ≤ weights k
    next = omega (arith, sum_ℕ-step q weight, sum_ℕ_mono (q + 1) k weight (omega arith))

    pub row_fits : sum_ℕ k (size q) < 2 ^ 63
    row_fits =
        let some : 1 ≤ weights k = omega (arith, next, s.power-low q h) in
        omega (arith, part-size q k, mul-le-mul_left s.bound (mul-le-mul_right (weights k) some), s.fits)

    pub half-fits : sum_ℕ q (size q) + sum_ℕ q (size q) + size q q < 2 ^ 63
    half-fits = omega (arith, half-size q, mul-le-mul_left s.bound (le_trans (room (weights q) (weight q) (s.power-low q h)) (mul-le-mul next next)), s.fits)
      where
        room : (v w : ℕ) → 1 ≤ w → v + v + w ≤ (v + w) * (v + w)
        room v w h = omega (arith, mul-le-mul_right v h, mul-le-mul_right w h)

    pub half_room : let half = sum q (entry_term x powers k i j q) in nat_abs (half +ℤ half) + size q q < 2 ^ 63
    half_room = omega (arith, twice q, half-fits)

  -- and so do the rows together
  pub rows_fit : sum_ℕ k (λ q. nat_abs (row_term x powers k i j q)) < 2 ^ 63
  rows_fit = ⊎_elim
      (λ (l : i ≤ j). omega (arith, sizes-square k s.bound (row_sum x powers k i j) weight (λ q h. le_trans (on q l) (half-size q)), s.fits))
      (λ (l : j < i). omega (arith, sizes-within k (s.bound * weights k) (row_sum x powers k i j) weight (λ q h. le_trans (off q l) (part-size q k)), s.fits))
      (le_or_lt i j)
    where
      off : (q : ℕ) → j < i → nat_abs (row_sum x powers k i j q) ≤ sum_ℕ k (size q)
      off q l = rw (row-off x powers k i j q l) (nat_abs-sum k (entry_term x powers k i j q))

      on : (q : ℕ) → i ≤ j → nat_abs (row_sum x powers k i j q) ≤ sum_ℕ q (size q) + sum_ℕ q (size q) + size q q
      on q l =
          let half : ℤ = sum q (entry_term x powers k i j q) in
          rw (row_on x powers k i j q l) (omega (arith, nat_abs-+ (half +ℤ half) (entry_term x powers k i j q q), twice q))
