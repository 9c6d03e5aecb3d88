-- Numbers by powers of b: how large such a sum is, its parts, and that it determines its digits.
use mathlib.Core.Path.{◌≡◌, refl, sym, ◌∙◌, ap, ap₂}
use mathlib.Core.Logic.{⊎_elim}
use mathlib.Core.List.{List}
use Prim.Native.Nat.{ℕ, zero, suc, ◌+◌, ◌*◌, ◌-◌, ◌^◌, ◌<◌, ◌≤◌}
use native.Mathlib.Omega.{arith}
use native.Mathlib.Nat.{add-zero, zero-add, add_assoc, one-mul, pow-suc, pow-zero, suc-mul, zero-mul, mul-le-mul, mul-le-mul_right, eq-or-lt_of_le, le_of_suc-le-suc}
use lib.Pow.{pow-add}
use lib.IntN.{ℤ, pos, negsuc, neg_ℤ, nat_abs, ◌+ℤ◌, ◌*ℤ◌, +ℤ_idl}
use lib.ListN.{length, get_or}
use Rattle.integers.specs.Sums.{sum}
use Rattle.integers.proofs.Ring.{diff_eq, ring, as_diff}
use Rattle.integers.proofs.Sizes.{nat_abs_negate, nat_abs-*, nat_abs-+}
use Rattle.integers.proofs.Sums.{sum_cong, sum-split, sum_mul_left, sum-none_yet}
use Rattle.digit_entries.specs.Entries.{entry_of}

-- n numbers, each times its power of b
abbrev pub by_powers : ℕ → (ℕ → ℤ) → ℕ → ℤ
by_powers b f n = sum n (λ i. f i *ℤ pos (b ^ i))

-- a power is not 0
pub power-low : (b n : ℕ) → 1 ≤ b → 1 ≤ b ^ n
power-low b zero h = omega (arith, pow-zero b)
power-low b (suc n) h = omega (arith, pow-suc b n, mul-le-mul (power-low b n h) h)

-- n numbers below b in size make one below b^n
pub sum_less : (b : ℕ) (f : ℕ → ℤ) (n : ℕ) → ((i : ℕ) → i < n → nat_abs (f i) < b) → nat_abs (by_powers b f n) < b ^ n
unfolding sum
sum_less b f zero h = omega (arith, pow-zero b)
sum_less b f (suc n) h =
    let less = sum_less b f n (λ i l. h i (omega arith)) in
    let size : nat_abs (f n *ℤ pos (b ^ n)) ≡ nat_abs (f n) * b ^ n = nat_abs-* (f n) (pos (b ^ n)) in
    let most : suc (nat_abs (f n)) * b ^ n ≤ b * b ^ n = mul-le-mul_right (b ^ n) (h n (omega arith)) in
    omega (arith, nat_abs-+ (by_powers b f n) (f n *ℤ pos (b ^ n)), pow-suc b n)

-- the lowest q, and b^q times the others
pub sum-parts : (b : ℕ) (f : ℕ → ℤ) (q n : ℕ) → by_powers b f (q + n) ≡ by_powers b f q +ℤ pos (b ^ q) *ℤ by_powers b (λ i. f (q + i)) n
sum-parts b f q n =
    sum-split q n (λ i. f i *ℤ pos (b ^ i))
    ∙ ap (λ (z : ℤ). by_powers b f q +ℤ z)
    (sum_cong n _ _ (λ i h. ap (λ (c : ℕ). f (q + i) *ℤ pos c) (pow-add b q i) ∙ turned (f (q + i)) (b ^ q) (b ^ i))
    ∙ sym (sum_mul_left n (pos (b ^ q)) (λ i. f (q + i) *ℤ pos (b ^ i))))
  where
    turned : (z : ℤ) (c d : ℕ) → z *ℤ pos (c * d) ≡ pos c *ℤ (z *ℤ pos d)
    turned z c d = rw (as_diff z) (simp ring (diff_eq _ _ _ _ (omega arith)))

-- one number is its own sum
sum_single : (b : ℕ) (f : ℕ → ℤ) → by_powers b f 1 ≡ f 0
unfolding sum
sum_single b f = +ℤ_idl (f 0 *ℤ pos (b ^ 0)) ∙ ap (λ (c : ℕ). f 0 *ℤ pos c) (pow-zero b) ∙ once (f 0)
  where
    once : (z : ℤ) → z *ℤ pos 1 ≡ z
    once z = rw (as_diff z) (simp ring (diff_eq _ _ _ _ (omega arith)))

-- one number more at the lower end: from the top down
pub sum_below : (b : ℕ) (f : ℕ → ℤ) (q n : ℕ) → by_powers b (λ i. f (q + i)) (suc n) ≡ f q +ℤ by_powers b (λ i. f (q + 1 + i)) n *ℤ pos b
sum_below b f q n =
    ap (by_powers b (λ i. f (q + i))) count
    ∙ sum-parts b (λ i. f (q + i)) 1 n
    ∙ ap₂ ◌+ℤ◌ (sum_single b (λ i. f (q + i)) ∙ ap f (add-zero q)) (ap₂ ◌*ℤ◌ (ap pos base) (sum_cong n _ _ (λ i h. ap (λ (x : ℕ). f x *ℤ pos (b ^ i)) (sym (add_assoc q 1 i)))) ∙ swapped (by_powers b (λ i. f (q + 1 + i)) n))
  where
    count : suc n ≡ 1 + n
    count = omega arith

    base : b ^ 1 ≡ b
    base = pow-suc b 0 ∙ ap (λ (c : ℕ). c * b) (pow-zero b) ∙ one-mul b

    swapped : (z : ℤ) → pos b *ℤ z ≡ z *ℤ pos b
    swapped z = rw (as_diff z) (simp ring (diff_eq _ _ _ _ (omega arith)))

-- the digits of a list from place q on, and what they stand for
abbrev pub top_of : ℕ → List ℤ → ℕ → ℤ
top_of b ds q = by_powers b (λ i. get_or ds (q + i) (pos 0)) (length ds - q)

module _ (b : ℕ) (ds : List ℤ) where
  pub top-none : top_of b ds (length ds) ≡ pos 0
  top-none =
      let none : length ds - length ds ≡ 0 = omega arith in
      ap (by_powers b (λ i. get_or ds (length ds + i) (pos 0))) none ∙ sum-none_yet _

  pub top_below : (q : ℕ) → 1 ≤ q → q ≤ length ds → top_of b ds (q - 1) ≡ get_or ds (q - 1) (pos 0) +ℤ top_of b ds q *ℤ pos b
  top_below q some h =
      let count : length ds - (q - 1) ≡ suc (length ds - q) = omega arith in
      let next : q - 1 + 1 ≡ q = omega arith in
      ap (by_powers b (λ i. get_or ds (q - 1 + i) (pos 0))) count
      ∙ sum_below b (λ i. get_or ds i (pos 0)) (q - 1) (length ds - q)
      ∙ ap (λ (x : ℕ). get_or ds (q - 1) (pos 0) +ℤ by_powers b (λ i. get_or ds (x + i) (pos 0)) (length ds - q) *ℤ pos b) next

  -- the entry by its digits below place q and from there on
  pub entry-parts : (q : ℕ) → q ≤ length ds → entry_of b ds ≡ by_powers b (λ i. get_or ds i (pos 0)) q +ℤ pos (b ^ q) *ℤ top_of b ds q
  entry-parts q h =
      let all : length ds ≡ q + (length ds - q) = omega arith in
      ap (by_powers b (λ i. get_or ds i (pos 0))) all ∙ sum-parts b (λ i. get_or ds i (pos 0)) q (length ds - q)

  pub top-all : top_of b ds 0 ≡ entry_of b ds
  top-all =
      let count : length ds - 0 ≡ length ds = omega arith in
      ap (by_powers b (λ i. get_or ds (0 + i) (pos 0))) count ∙ sum_cong (length ds) _ _ (λ i h. ap (λ (x : ℕ). get_or ds x (pos 0) *ℤ pos (b ^ i)) (zero-add i))

-- a number of size 0 is 0
size-zero : (z : ℤ) → nat_abs z ≡ 0 → z ≡ pos 0
size-zero (pos n) e = ap pos e
size-zero (negsuc n) e = absurd (omega arith)

zero-factor : (n P x : ℕ) → x ≡ n * P → x < P → n ≡ 0
zero-factor zero P x e l = refl
zero-factor (suc n) P x e l = absurd (omega (arith, suc-mul n P))

-- of two numbers that cancel, one smaller than P and one a multiple of P, both are 0
pub both_zero : (low top : ℤ) (P : ℕ) → nat_abs low < P → low +ℤ top *ℤ pos P ≡ pos 0 → (low ≡ pos 0) × (top ≡ pos 0)
both_zero low top P less e = (size-zero low (sizes ∙ ap (λ (n : ℕ). n * P) none ∙ zero-mul P), size-zero top none)
  where
    moved : (x y : ℤ) → x +ℤ y ≡ pos 0 → x ≡ neg_ℤ y
    moved x y h = back x y ∙ ap (λ (z : ℤ). z +ℤ neg_ℤ y) h ∙ +ℤ_idl (neg_ℤ y)
      where
        back : (x y : ℤ) → x ≡ (x +ℤ y) +ℤ neg_ℤ y
        back x y = rw (as_diff x, as_diff y) (simp ring (diff_eq _ _ _ _ (omega arith)))

    sizes : nat_abs low ≡ nat_abs top * P
    sizes = ap nat_abs (moved low (top *ℤ pos P) e) ∙ nat_abs_negate (top *ℤ pos P) ∙ nat_abs-* top (pos P)

    none : nat_abs top ≡ 0
    none = zero-factor (nat_abs top) P (nat_abs low) sizes less

-- so numbers below b in size that make 0 are all 0
pub all-zero : (b : ℕ) (f : ℕ → ℤ) (n : ℕ) → ((i : ℕ) → i < n → nat_abs (f i) < b) → by_powers b f n ≡ pos 0 → (i : ℕ) → i < n → f i ≡ pos 0
unfolding sum
all-zero b f zero small e i h = absurd (omega arith)
all-zero b f (suc n) small e i h =
    let parts = both_zero (by_powers b f n) (f n) (b ^ n) (sum_less b f n (λ i l. small i (omega arith))) e in
    ⊎_elim
    (λ (same : i ≡ n). ap f same ∙ parts.1)
    (λ (l : i < n). all-zero b f n (λ i l. small i (omega arith)) parts.0 i l)
    (eq-or-lt_of_le (le_of_suc-le-suc h))
