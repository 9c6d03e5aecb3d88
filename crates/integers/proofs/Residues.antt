-- The residues of sums and products.
use Rattle.std.proofs.Common.{◌≡◌, ℕ, zero, suc, ◌+◌, ◌-◌, ◌*◌, ◌/◌, ◌%◌, ◌^◌, ◌<◌, ℤ, pos, negsuc, ◌+ℤ◌, ◌-ℤ◌, ◌*ℤ◌, neg_ℤ, sym, refl, ap, ◌∙◌, mod-lt, mod-eq_of_lt, div-add-mod', arith}
use native.Mathlib.Nat.{add-mul-mod_self_right}
use Rattle.integers.proofs.Ring.{diff, diff-pos, diff_cases, pos-minus, diff_add, diff_mul, by_diff₂}
use Rattle.integers.specs.Sums.{sum}
use Rattle.integers.specs.Residues.{residue, word}

mod_by : (x y k l M : ℕ) → x + k * M ≡ y + l * M → x % M ≡ y % M
mod_by x y k l M e = sym (add-mul-mod_self_right x k M) ∙ ap (λ (n : ℕ). n % M) e ∙ add-mul-mod_self_right y l M

mul_mod : (a b M : ℕ) → (a * b) % M ≡ (a % M) * (b % M) % M
mul_mod a b M = go a b (a / M) (a % M) (b / M) (b % M) (sym (div-add-mod' a M)) (sym (div-add-mod' b M))
  where
    go : (a b u v x y : ℕ) → a ≡ u * M + v → b ≡ x * M + y → (a * b) % M ≡ v * y % M
    go a b u v x y e f = mod_by (a * b) (v * y) 0 (u * x * M + u * y + v * x) M (rw (e, f) (omega arith))

add_mod₂ : (a b M : ℕ) → (a + b) % M ≡ (a % M + b % M) % M
add_mod₂ a b M = go a b (a / M) (a % M) (b / M) (b % M) (sym (div-add-mod' a M)) (sym (div-add-mod' b M))
  where
    go : (a b u v x y : ℕ) → a ≡ u * M + v → b ≡ x * M + y → (a + b) % M ≡ (v + y) % M
    go a b u v x y e f = mod_by (a + b) (v + y) 0 (u + x) M (rw (e, f) (omega arith))

-- at M = q + 1 a difference a − b has the residue of a + b q
residue-diff : (q a b : ℕ) → residue (suc q) (diff a b) ≡ (a + b * q) % suc q
unfolding residue
residue-diff q a b = diff_cases a b (λ z. residue (suc q) z ≡ (a + b * q) % suc q)
    (λ c e. mod_by c (a + b * q) b 0 (suc q) (rw e (omega arith)))
    (λ c e. below c (c / suc q) (c % suc q) (sym (div-add-mod' c (suc q))) (mod-lt c (omega arith)) e)
  where
    below : (c u r : ℕ) → c ≡ u * suc q + r → r < suc q → b ≡ suc c + a → suc q - suc r ≡ (a + b * q) % suc q
    below c u r e l k = let (x, h) = less r l in
        rw h (sym (mod-eq_of_lt {n = x} (omega arith))
        ∙ mod_by x (a + b * q) (r + u * q + a) 0 (suc q) (rw (k, e) (chk x u r a (omega arith))))
      where
        less : (r : ℕ) → r < suc q → (x : ℕ) × (suc q - suc r ≡ x)
        less r l = (suc q - suc r, refl)

        chk : (x u r a : ℕ) → x + r ≡ q → x + (r + u * q + a) * suc q ≡ a + (suc (u * suc q + r) + a) * q + 0 * suc q
        chk x u r a e = rw (← e) (omega arith)

pub residue_lt : (M : ℕ) (z : ℤ) → 0 < M → residue M z < M
unfolding residue
residue_lt M (pos n) h = mod-lt n h
residue_lt M (negsuc n) h = omega arith

pub residue-small : (M n : ℕ) → n < M → residue M (pos n) ≡ n
unfolding residue
residue-small M n h = mod-eq_of_lt h

pub residue-+ : (M : ℕ) (x y : ℤ) → 0 < M → residue M (x +ℤ y) ≡ (residue M x + residue M y) % M
residue-+ zero x y h = absurd (omega arith)
residue-+ (suc q) x y h = by_diff₂ (λ x y. residue (suc q) (x +ℤ y) ≡ (residue (suc q) x + residue (suc q) y) % suc q)
    (λ a b c d. rw (diff_add, residue-diff q (a + c) (b + d), residue-diff q a b, residue-diff q c d)
    (ap (λ (n : ℕ). n % suc q) (omega arith) ∙ add_mod₂ (a + b * q) (c + d * q) (suc q))) x y

pub residue-* : (M : ℕ) (x y : ℤ) → 0 < M → residue M (x *ℤ y) ≡ residue M x * residue M y % M
residue-* zero x y h = absurd (omega arith)
residue-* (suc q) x y h = by_diff₂ (λ x y. residue (suc q) (x *ℤ y) ≡ residue (suc q) x * residue (suc q) y % suc q)
    (λ a b c d. rw (diff_mul, residue-diff q (a * c + b * d) (a * d + b * c), residue-diff q a b, residue-diff q c d)
    (mod_by (a * c + b * d + (a * d + b * c) * q) ((a + b * q) * (c + d * q)) (b * d * suc q) (2 * (b * d)) (suc q) (omega arith)
    ∙ mul_mod (a + b * q) (c + d * q) (suc q))) x y

-- a residue stands for its number in sums and products
module _ (M : ℕ) (m-pos : 0 < M) where
  pub residue-residue : (z : ℤ) → residue M (pos (residue M z)) ≡ residue M z
  residue-residue z = residue-small M (residue M z) (residue_lt M z m-pos)

  pub residue-*-cong : (x x' y y' : ℤ) → residue M x ≡ residue M x' → residue M y ≡ residue M y' → residue M (x *ℤ y) ≡ residue M (x' *ℤ y')
  residue-*-cong x x' y y' e f = residue-* M x y m-pos ∙ rw (e, f) (sym (residue-* M x' y' m-pos))

  pub residue-+-cong : (x x' y y' : ℤ) → residue M x ≡ residue M x' → residue M y ≡ residue M y' → residue M (x +ℤ y) ≡ residue M (x' +ℤ y')
  residue-+-cong x x' y y' e f = residue-+ M x y m-pos ∙ rw (e, f) (sym (residue-+ M x' y' m-pos))

  pub residue-sum_cong : (n : ℕ) (f g : ℕ → ℤ) → ((i : ℕ) → i < n → residue M (f i) ≡ residue M (g i)) → residue M (sum n f) ≡ residue M (sum n g)
  unfolding sum
  residue-sum_cong zero f g h = refl
  residue-sum_cong (suc n) f g h = residue-+-cong (sum n f) (sum n g) (f n) (g n) (residue-sum_cong n f g (λ i l. h i (omega arith))) (h n (omega arith))

pub word_sum : (n : ℕ) (f g : ℕ → ℤ) → word (sum n (λ k. pos (word (f k)) *ℤ g k)) ≡ word (sum n (λ k. f k *ℤ g k))
word_sum n f g = residue-sum_cong (2 ^ 64) (omega arith) n _ _ (λ k h. residue-*-cong (2 ^ 64) (omega arith) _ _ _ _ (residue-residue (2 ^ 64) (omega arith) (f k)) refl)

-- what is added to a residue modulo 2^64 might as well be added to its number
pub word_on : (x y : ℤ) → word (pos (word x) +ℤ y) ≡ word (x +ℤ y)
word_on x y = residue-+-cong (2 ^ 64) (omega arith) (pos (word x)) x y y (residue-residue (2 ^ 64) (omega arith) x) refl

-- the machine's wrapping difference r of a and b: the word that b added to wraps back to a
pub word-minus : (a b r : ℕ) → r < 2 ^ 64 → (r + b) % 2 ^ 64 ≡ a → r ≡ word (pos a -ℤ pos b)
unfolding residue
word-minus a b r h e =
    sym (ap (λ (n : ℕ). word (pos n -ℤ pos b)) (sym e) ∙ word_on (pos (r + b)) (neg_ℤ (pos b))
    ∙ ap word (pos-minus (r + b) b ∙ diff-pos (r + b) b r refl) ∙ residue-small (2 ^ 64) r h)
