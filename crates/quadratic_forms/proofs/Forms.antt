-- Quadratic forms over the ternary vectors: one other than 0 is 0 for no more than two thirds of them.
use mathlib.Core.Path.{◌≡◌, refl, sym, ap, ap₂, ◌∙◌}
use mathlib.Core.Logic.{◌≢◌, ◌⊎◌, inl, inr, ⊎_elim}
use mathlib.Core.Bool.{Bool, true, false}
use Prim.Native.Nat.{ℕ, zero, suc, ◌*◌, ◌^◌, ◌≤◌, ◌<◌}
use native.Mathlib.Omega.{arith}
use native.Mathlib.Nat.{pow-suc}
use borrow.Author.Tests.{eq-eqb, ne_eqb}
use lib.IntN.{ℤ, pos, ◌+ℤ◌, ◌*ℤ◌}
use Rattle.integers.specs.Sums.{sum}
use Rattle.integers.proofs.Sums.{sum_cong, sum_add, sum_mul_right, sum-none}
use Rattle.integers.proofs.Tests.{le_or_lt}
use Rattle.integers.proofs.Ring.{ring, diff_eq, as_diff}
use Rattle.matrices.specs.Matrices.{Matrix, Symmetric}
use Rattle.matrices.proofs.Triangles.{entrywise}
use Rattle.quadratic_forms.specs.Forms.{Vector, put, vectors, zeros_of, form, zeros}
use Rattle.quadratic_forms.specs.Search.{linear}
use Rattle.quadratic_forms.proofs.Counts.{count_none, count-all, length-vectors}
use Rattle.quadratic_forms.proofs.Last.{Last, is_zero, zero_is, is-zero, not-zero, twice, square-bound, linear-bound, free}

-- the entries of a vector with one more
pub put_last : (n : ℕ) (c : ℤ) (v : Vector) → put n c v n ≡ c
unfolding put
put_last n c v = rw (eq-eqb n n refl) refl

pub put-below : (n : ℕ) (c : ℤ) (v : Vector) (i : ℕ) → i < n → put n c v i ≡ v i
unfolding put
put-below n c v i h = rw (ne_eqb i n (λ e. omega arith)) refl

-- l v over one entry more
pub linear-put : (n : ℕ) (l : ℕ → ℤ) (c : ℤ) (v : Vector) → linear (suc n) l (put n c v) ≡ linear n l v +ℤ l n *ℤ c
unfolding sum
linear-put n l c v = ap₂ ◌+ℤ◌ (sum_cong n _ _ (λ j h. ap (λ (z : ℤ). l j *ℤ z) (put-below n c v j h))) (ap (λ (z : ℤ). l n *ℤ z) (put_last n c v))

-- a form, entry by entry
pub form-sums : (N : ℕ) (E : Matrix) (c : Vector) → form N E c ≡ sum N (λ i. sum N (λ j. E i j *ℤ (c i *ℤ c j)))
form-sums N E c = entrywise N (λ i j. c i) E 0 0 ∙ sum_cong N _ _ (λ i h. sum_cong N _ _ (λ j k. turn (c i) (E i j) (c j)))
  where
    turn : (x y z : ℤ) → x *ℤ y *ℤ z ≡ y *ℤ (x *ℤ z)
    turn x y z = rw (as_diff x, as_diff y, as_diff z) (simp ring (diff_eq _ _ _ _ (omega arith)))

-- its linear part in the last coordinate
abbrev pub cross : ℕ → Matrix → Vector → ℤ
cross N E v = linear N (λ j. E N j +ℤ E j N) v

-- a form by its last coordinate
pub form-last : (N : ℕ) (E : Matrix) → Last N (form (suc N) E) (form N E) (cross N E) (E N N)
unfolding sum
form-last N E c v =
    form-sums (suc N) E (put N c v)
    ∙ ap₂ ◌+ℤ◌
    (sum_cong N _ _ (λ i h. ap₂ ◌+ℤ◌
    (sum_cong N _ _ (λ j l. ap₂ (λ (a b : ℤ). E i j *ℤ (a *ℤ b)) (put-below N c v i h) (put-below N c v j l)))
    (ap₂ (λ (a b : ℤ). E i N *ℤ (a *ℤ b)) (put-below N c v i h) (put_last N c v)))
    ∙ sum_add N _ _)
    (ap₂ ◌+ℤ◌
    (sum_cong N _ _ (λ j l. ap₂ (λ (a b : ℤ). E N j *ℤ (a *ℤ b)) (put_last N c v) (put-below N c v j l)))
    (ap₂ (λ (a b : ℤ). E N N *ℤ (a *ℤ b)) (put_last N c v) (put_last N c v)))
    ∙ regroup square column row (E N N *ℤ (c *ℤ c))
    ∙ ap₂ (λ (y z : ℤ). y +ℤ (z +ℤ E N N *ℤ (c *ℤ c))) (sym (form-sums N E v))
    (sym (sum_add N _ _) ∙ sum_cong N _ _ (λ j h. factor (E j N) (E N j) (v j) c) ∙ sym (sum_mul_right N c _))
  where
    square : ℤ
    square = sum N (λ i. sum N (λ j. E i j *ℤ (v i *ℤ v j)))

    column : ℤ
    column = sum N (λ i. E i N *ℤ (v i *ℤ c))

    row : ℤ
    row = sum N (λ j. E N j *ℤ (c *ℤ v j))

    regroup : (a b d e : ℤ) → (a +ℤ b) +ℤ (d +ℤ e) ≡ a +ℤ ((b +ℤ d) +ℤ e)
    regroup a b d e = rw (as_diff a, as_diff b, as_diff d, as_diff e) (simp ring (diff_eq _ _ _ _ (omega arith)))

    factor : (a b x c : ℤ) → a *ℤ (x *ℤ c) +ℤ b *ℤ (c *ℤ x) ≡ ((b +ℤ a) *ℤ x) *ℤ c
    factor a b x c = rw (as_diff a, as_diff b, as_diff x, as_diff c) (simp ring (diff_eq _ _ _ _ (omega arith)))

-- ---- linear forms

linear-last : (n : ℕ) (l : ℕ → ℤ) → Last n (linear (suc n) l) (linear n l) (λ v. l n) (pos 0)
linear-last n l c v = linear-put n l c v ∙ nothing (linear n l v) (l n *ℤ c) c
  where
    nothing : (x y c : ℤ) → x +ℤ y ≡ x +ℤ (y +ℤ pos 0 *ℤ (c *ℤ c))
    nothing x y c = rw (as_diff x, as_diff y, as_diff c) (simp ring (diff_eq _ _ _ _ (omega arith)))

pub last_or_below : (j n : ℕ) → j < suc n → (j ≡ n) ⊎ (j < n)
last_or_below j n h = ⊎_elim (λ (k : n ≤ j). inl (omega arith)) (λ (k : j < n). inr k) (le_or_lt n j)

-- a constant other than 0 is never 0
never : (n : ℕ) (z : ℤ) → is_zero z ≡ false → zeros_of n (λ v. z) ≡ 0
unfolding zeros_of
never n z e = count_none _ (vectors n) (λ v. e)

-- one other than 0 is 0 for no more than a third of the vectors
linear-zeros : (n : ℕ) (l : ℕ → ℤ) (j : ℕ) → j < n → l j ≢ pos 0 → 3 * zeros_of n (linear n l) ≤ 3 ^ n
linear-zeros zero l j h ne = absurd (omega arith)
linear-zeros (suc n) l j h ne = by (is_zero (l n)) refl (last_or_below j n h) (λ k. linear-zeros n l j k ne)
  where
    by : (b : Bool) → is_zero (l n) ≡ b → (j ≡ n) ⊎ (j < n) → (j < n → 3 * zeros_of n (linear n l) ≤ 3 ^ n) → 3 * zeros_of (suc n) (linear (suc n) l) ≤ 3 ^ suc n
    by false e k fewer = omega (arith, pow-suc 3 n, linear-bound n (linear (suc n) l) (linear n l) (λ v. l n) (pos 0) (linear-last n l) refl, never n (l n) e)
    by true e (inl k) fewer = absurd (ne (ap l k ∙ zero_is (l n) e))
    by true e (inr k) fewer = omega (arith, pow-suc 3 n, free n (linear (suc n) l) (linear n l) (λ v. l n) (pos 0) (linear-last n l) refl (λ v. zero_is (l n) e), fewer k)

-- ---- quadratic forms

pub zero-times : (z : ℤ) → pos 0 *ℤ z ≡ pos 0
zero-times z = rw (as_diff z) (simp ring (diff_eq _ _ _ _ (omega arith)))

-- whether one of the first n is not 0
some_or_none : (n : ℕ) (f : ℕ → ℤ) → ((j : ℕ) × (j < n) × (f j ≢ pos 0)) ⊎ ((j : ℕ) → j < n → f j ≡ pos 0)
some_or_none zero f = inr (λ j h. absurd (omega arith))
some_or_none (suc n) f = here (is_zero (f n)) refl (some_or_none n f)
  where
    here : (b : Bool) → is_zero (f n) ≡ b → ((j : ℕ) × (j < n) × (f j ≢ pos 0)) ⊎ ((j : ℕ) → j < n → f j ≡ pos 0)
        → ((j : ℕ) × (j < suc n) × (f j ≢ pos 0)) ⊎ ((j : ℕ) → j < suc n → f j ≡ pos 0)
    here false e r = inl (n, omega arith, not-zero (f n) e)
    here true e (inl (j, h, ne)) = inl (j, omega arith, ne)
    here true e (inr g) = inr (λ j h. ⊎_elim (λ (k : j ≡ n). ap f k ∙ zero_is (f n) e) (λ (k : j < n). g j k) (last_or_below j n h))

-- for E other than zero, three times the count is at most 2 × 3^N
pub zeros-bound : (N : ℕ) (E : Matrix) → Symmetric N E → (i j : ℕ) → i < N → j < N → E i j ≢ pos 0 → 3 * zeros N E ≤ 2 * 3 ^ N
zeros-bound zero E symmetric i j hi hj ne = absurd (omega arith)
zeros-bound (suc N) E symmetric i j hi hj ne =
    at (is_zero (E N N)) refl (some_or_none N (λ j. E N j +ℤ E j N))
    (λ k l. zeros-bound N E (λ a b ha hb. symmetric a b (omega arith) (omega arith)) i j k l ne)
  where
    flat : ((j : ℕ) → j < N → E N j +ℤ E j N ≡ pos 0) → (v : Vector) → cross N E v ≡ pos 0
    flat zero_row v = sum-none N _ (λ j h. ap (λ (z : ℤ). z *ℤ v j) (zero_row j h) ∙ zero-times (v j))

    -- where the last row is 0, so is the last column, and the entry that is not 0 stands in neither
    last_row : E N N ≡ pos 0 → ((j : ℕ) → j < N → E N j +ℤ E j N ≡ pos 0) → (b : ℕ) → b < suc N → E N b ≡ pos 0
    last_row e zero_row b hb = ⊎_elim
        (λ (k : b ≡ N). ap (E N) k ∙ e)
        (λ (k : b < N). twice (E N b) (ap (λ (z : ℤ). E N b +ℤ z) (symmetric N b (omega arith) hb) ∙ zero_row b k))
        (last_or_below b N hb)

    inside : (a b : ℕ) → a < suc N → b < suc N → E a b ≢ pos 0 → ((b : ℕ) → b < suc N → E N b ≡ pos 0) → a < N
    inside a b ha hb other row = ⊎_elim (λ (k : a ≡ N). absurd (other (ap (λ (x : ℕ). E x b) k ∙ row b hb))) (λ (k : a < N). k) (last_or_below a N ha)

    at : (b : Bool) → is_zero (E N N) ≡ b → ((j : ℕ) × (j < N) × (E N j +ℤ E j N ≢ pos 0)) ⊎ ((j : ℕ) → j < N → E N j +ℤ E j N ≡ pos 0)
        → (i < N → j < N → 3 * zeros N E ≤ 2 * 3 ^ N) → 3 * zeros (suc N) E ≤ 2 * 3 ^ suc N
    at false e r fewer = omega (arith, pow-suc 3 N, square-bound N (form (suc N) E) (form N E) (cross N E) (E N N) (form-last N E) (not-zero (E N N) e))
    at true e (inl (j, h, other)) fewer =
        omega (arith, pow-suc 3 N, linear-bound N (form (suc N) E) (form N E) (cross N E) (E N N) (form-last N E) (zero_is _ e), linear-zeros N (λ j. E N j +ℤ E j N) j h other)
    at true e (inr zero_row) fewer =
        let row = last_row (zero_is _ e) zero_row in
        let h = inside i j hi hj ne row in
        let k = inside j i hj hi (λ z. ne (symmetric i j hi hj ∙ z)) row in
        omega (arith, pow-suc 3 N, free N (form (suc N) E) (form N E) (cross N E) (E N N) (form-last N E) (zero_is _ e) (flat zero_row), fewer h k)

-- for zero it is 3^N
pub zeros-of-zero : (N : ℕ) (E : Matrix) → ((i j : ℕ) → i < N → j < N → E i j ≡ pos 0) → zeros N E ≡ 3 ^ N
unfolding zeros_of
zeros-of-zero N E none =
    count-all _ (vectors N) (λ v. is-zero _ (form-sums N E v ∙ sum-none N _ (λ i h. sum-none N _ (λ j k.
    ap (λ (z : ℤ). z *ℤ (v i *ℤ v j)) (none i j h k) ∙ zero-times (v i *ℤ v j)))))
    ∙ length-vectors N
