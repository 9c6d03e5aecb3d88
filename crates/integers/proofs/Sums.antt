-- The laws of finite sums.
use Rattle.std.proofs.Common.{◌≡◌, ℕ, zero, suc, ◌+◌, ◌-◌, ◌*◌, ◌^◌, ◌<◌, ◌≤◌, ◌≢◌, ℤ, pos, ◌+ℤ◌, ◌*ℤ◌, neg_ℤ, nat_abs, sym, refl, ap, ◌∙◌, subst, ap₂, ⊎_elim, le_trans, le_refl, le-add_right, add-zero, le_of_lt, add-suc, suc-mul, zero-mul, add-one, arith, w64, SFits}
use native.Mathlib.Nat.{le_step, le_dest}
use native.Mathlib.Decide.{ℕ_discrete, le_ind}
use lib.IntN.{+ℤ_idl, +ℤ_idr, +ℤ_assoc, *ℤ-zero, zero-*ℤ, neg_ℤ-+ℤ}
use Rattle.integers.proofs.Ring.{*ℤ-+ℤ, +ℤ-*ℤ, +ℤ-4}
use Rattle.integers.proofs.Sizes.{nat_abs-+, fits-by-size}
use Rattle.integers.proofs.Tests.{le_or_lt}
use Rattle.integers.specs.Sums.{sum, sum_ℕ}

pub sum_cong : (n : ℕ) (f g : ℕ → ℤ) → ((i : ℕ) → i < n → f i ≡ g i) → sum n f ≡ sum n g
unfolding sum
sum_cong zero f g h = refl
sum_cong (suc n) f g h = ap₂ ◌+ℤ◌ (sum_cong n f g (λ i l. h i (le_step l))) (h n (le_refl (suc n)))

pub sum-zero : (n : ℕ) → sum n (λ i. pos 0) ≡ pos 0
unfolding sum
sum-zero zero = refl
sum-zero (suc n) = +ℤ_idr (sum n (λ i. pos 0)) ∙ sum-zero n

pub sum_add : (n : ℕ) (f g : ℕ → ℤ) → sum n (λ i. f i +ℤ g i) ≡ sum n f +ℤ sum n g
unfolding sum
sum_add zero f g = refl
sum_add (suc n) f g = rw (sum_add n f g) (+ℤ-4 (sum n f) (sum n g) (f n) (g n))

pub sum_mul_left : (n : ℕ) (c : ℤ) (f : ℕ → ℤ) → c *ℤ sum n f ≡ sum n (λ i. c *ℤ f i)
unfolding sum
sum_mul_left zero c f = *ℤ-zero c
sum_mul_left (suc n) c f = rw (*ℤ-+ℤ, sum_mul_left n c f)

pub sum_mul_right : (n : ℕ) (c : ℤ) (f : ℕ → ℤ) → sum n f *ℤ c ≡ sum n (λ i. f i *ℤ c)
unfolding sum
sum_mul_right zero c f = zero-*ℤ c
sum_mul_right (suc n) c f = rw (+ℤ-*ℤ, sum_mul_right n c f)

pub sum_negate : (n : ℕ) (f : ℕ → ℤ) → neg_ℤ (sum n f) ≡ sum n (λ i. neg_ℤ (f i))
unfolding sum
sum_negate zero f = refl
sum_negate (suc n) f = rw (neg_ℤ-+ℤ, sum_negate n f)

pub sum-swap : (n m : ℕ) (f : ℕ → ℕ → ℤ) → sum n (λ i. sum m (λ j. f i j)) ≡ sum m (λ j. sum n (λ i. f i j))
unfolding sum
sum-swap zero m f = sym (sum-zero m)
sum-swap (suc n) m f = rw (sum-swap n m f) (sym (sum_add m (λ j. sum n (λ i. f i j)) (f n)))

pub sum-split : (a b : ℕ) (f : ℕ → ℤ) → sum (a + b) f ≡ sum a f +ℤ sum b (λ j. f (a + j))
unfolding sum
sum-split a zero f = rw (add-zero a) (sym (+ℤ_idr (sum a f)))
sum-split a (suc b) f = rw (add-suc a b, sum-split a b f) (+ℤ_assoc (sum a f) (sum b (λ j. f (a + j))) (f (a + b)))

pub sum-blocks : (a b : ℕ) (f : ℕ → ℤ) → sum (a * b) f ≡ sum a (λ i. sum b (λ j. f (i * b + j)))
unfolding sum
sum-blocks zero b f = rw (zero-mul b)
sum-blocks (suc a) b f = rw (suc-mul a b, sum-split (a * b) b f, sum-blocks a b f)

-- all terms but one are 0
pub sum-none : (n : ℕ) (f : ℕ → ℤ) → ((j : ℕ) → j < n → f j ≡ pos 0) → sum n f ≡ pos 0
sum-none n f h = sum_cong n f (λ i. pos 0) h ∙ sum-zero n

pub sum_one : (n i : ℕ) (f : ℕ → ℤ) → i < n → ((j : ℕ) → j < n → j ≢ i → f j ≡ pos 0) → sum n f ≡ f i
unfolding sum
sum_one zero i f l h = absurd (omega arith)
sum_one (suc n) i f l h = pick (ℕ_discrete n i) (λ k q. sum_one n i f k q)
  where
    pick : Dec (n ≡ i) → (i < n → ((j : ℕ) → j < n → j ≢ i → f j ≡ pos 0) → sum n f ≡ f i) → sum n f +ℤ f n ≡ f i
    pick (yes e) r = rw (sum-none n f (λ j k. h j (omega arith) (λ q. omega arith)), +ℤ_idl) (ap f e)
    pick (no ne) r = rw (h n (le_refl (suc n)) ne, +ℤ_idr) (r (omega arith) (λ j k q. h j (omega arith) q))

pub nat_abs-sum : (n : ℕ) (f : ℕ → ℤ) → nat_abs (sum n f) ≤ sum_ℕ n (λ i. nat_abs (f i))
unfolding sum sum_ℕ
nat_abs-sum zero f = omega arith
nat_abs-sum (suc n) f = omega (arith, nat_abs-sum n f, nat_abs-+ (sum n f) (f n))

pub sum_ℕ-le : (n M : ℕ) (f : ℕ → ℕ) → ((i : ℕ) → i < n → f i ≤ M) → sum_ℕ n f ≤ n * M
unfolding sum_ℕ
sum_ℕ-le zero M f h = omega arith
sum_ℕ-le (suc n) M f h = omega (arith, sum_ℕ-le n M f (λ i l. h i (le_step l)), h n (le_refl (suc n)))

pub nat_abs-sum-le : (n M : ℕ) (f : ℕ → ℤ) → ((i : ℕ) → i < n → nat_abs (f i) ≤ M) → nat_abs (sum n f) ≤ n * M
nat_abs-sum-le n M f h = omega (arith, nat_abs-sum n f, sum_ℕ-le n M (λ i. nat_abs (f i)) h)

-- one term more, at the code's n + 1
pub sum_step : (n : ℕ) (f : ℕ → ℤ) → sum (n + 1) f ≡ sum n f +ℤ f n
unfolding sum
sum_step n f = ap (λ (k : ℕ). sum k f) (add-one n)

pub sum_ℕ-step : (n : ℕ) (f : ℕ → ℕ) → sum_ℕ (n + 1) f ≡ sum_ℕ n f + f n
unfolding sum_ℕ
sum_ℕ-step n f = ap (λ (k : ℕ). sum_ℕ k f) (add-one n)

pub sum-none_yet : (f : ℕ → ℤ) → sum 0 f ≡ pos 0
unfolding sum
sum-none_yet f = refl

pub sum_ℕ-none_yet : (f : ℕ → ℕ) → sum_ℕ 0 f ≡ 0
unfolding sum_ℕ
sum_ℕ-none_yet f = refl

-- congruence, growth, and a sum's single term
pub sum_ℕ_cong : (n : ℕ) (f g : ℕ → ℕ) → ((i : ℕ) → i < n → f i ≡ g i) → sum_ℕ n f ≡ sum_ℕ n g
unfolding sum_ℕ
sum_ℕ_cong zero f g h = refl
sum_ℕ_cong (suc n) f g h = ap₂ ◌+◌ (sum_ℕ_cong n f g (λ i l. h i (le_step l))) (h n (le_refl (suc n)))

pub sum_ℕ_mono : (n m : ℕ) (f : ℕ → ℕ) → n ≤ m → sum_ℕ n f ≤ sum_ℕ m f
unfolding sum_ℕ
sum_ℕ_mono n m f h = le_ind (λ (k : ℕ). sum_ℕ n f ≤ sum_ℕ k f) (le_refl (sum_ℕ n f)) (λ k l p. le_trans p (le-add_right (sum_ℕ k f) (f k))) m h

pub sum_ℕ-split : (a b : ℕ) (f : ℕ → ℕ) → sum_ℕ (a + b) f ≡ sum_ℕ a f + sum_ℕ b (λ q. f (a + q))
unfolding sum_ℕ
sum_ℕ-split a zero f = rw (add-zero a) (omega arith)
sum_ℕ-split a (suc b) f = rw (add-suc a b, sum_ℕ-split a b f) (omega arith)

pub sum_ℕ-term : (n i : ℕ) (f : ℕ → ℕ) → i < n → f i ≤ sum_ℕ n f
unfolding sum_ℕ
sum_ℕ-term n i f h = omega (arith, sum_ℕ_mono (suc i) n f h)

-- 2 a b ≤ a² + b², and so for sums of products and sums of squares
twice-product-by : (a b : ℕ) → a ≤ b → 2 * (a * b) ≤ a * a + b * b
twice-product-by a b h = let d = le_dest h in subst (λ (n : ℕ). 2 * (a * n) ≤ a * a + n * n) d.1 (omega arith)

twice-product : (a b : ℕ) → 2 * (a * b) ≤ a * a + b * b
twice-product a b = ⊎_elim (λ h. twice-product-by a b h) (λ h. omega (arith, twice-product-by b a (le_of_lt h))) (le_or_lt a b)

pub products-squares : (n : ℕ) (f g : ℕ → ℕ) → 2 * sum_ℕ n (λ i. f i * g i) ≤ sum_ℕ n (λ i. f i * f i) + sum_ℕ n (λ i. g i * g i)
unfolding sum_ℕ
products-squares zero f g = omega arith
products-squares (suc n) f g = omega (arith, products-squares n f g, twice-product (f n) (g n))

-- where the sizes' sum is below 2^63, each partial sum and each term fits a signed word
module _ (N : ℕ) (f : ℕ → ℤ) (small : sum_ℕ N (λ i. nat_abs (f i)) < 2 ^ 63) where
  pub partial_fits : (n : ℕ) → n ≤ N → SFits w64 (sum n f)
  partial_fits n h = fits-by-size (sum n f) (omega (arith, nat_abs-sum n f, sum_ℕ_mono n N (λ i. nat_abs (f i)) h))

  pub term_fits : (i : ℕ) → i < N → SFits w64 (f i)
  term_fits i h = fits-by-size (f i) (omega (arith, sum_ℕ-term N i (λ i. nat_abs (f i)) h))

-- a sum of natural numbers, among the whole numbers
pub sum-pos : (n : ℕ) (f : ℕ → ℕ) → sum n (λ i. pos (f i)) ≡ pos (sum_ℕ n f)
unfolding sum sum_ℕ
sum-pos zero f = refl
sum-pos (suc n) f = ap (λ (z : ℤ). z +ℤ pos (f n)) (sum-pos n f)

-- terms of 0 at the end add nothing
pub sum_past : (n k : ℕ) (f : ℕ → ℤ) → n ≤ k → ((j : ℕ) → n ≤ j → f j ≡ pos 0) → sum k f ≡ sum n f
sum_past n k f h z =
    let t : n + (k - n) ≡ k = omega arith in
    ap (λ (x : ℕ). sum x f) (sym t)
    ∙ sum-split n (k - n) f
    ∙ ap (λ (y : ℤ). sum n f +ℤ y) (sum-none (k - n) (λ j. f (n + j)) (λ j l. z (n + j) (omega arith)))
    ∙ +ℤ_idr (sum n f)
