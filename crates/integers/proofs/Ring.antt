-- The ring and order laws of ℤ that the kit lacks, and a short way to prove more of them.
-- Each whole number is a difference of two naturals. So an identity of x, y is proved by
--   rw (as-diff x, as-diff y) (simp ring (diff-eq _ _ _ _ (omega arith)))
-- and an order by the same with `diff-≤` for `diff_eq`; `simp ac` sorts and multiplies out sums and products of any degree.
use Rattle.std.proofs.Common.{◌≡◌, ℕ, zero, suc, ◌+◌, ◌-◌, ◌*◌, ◌<◌, ◌≤◌, ltb, ℤ, pos, negsuc, ◌+ℤ◌, ◌-ℤ◌, ◌*ℤ◌, neg_ℤ, ◌≤ℤ◌, sym, refl, ap, ◌∙◌, subst, arith, le→leb, ltb→lt, leb→le, nltb→le}
use lib.IntN.{sub_ℕ, +ℤ_assoc, +ℤ_comm, *ℤ_comm}
use Rattle.integers.proofs.Tests.{cond_ind}

-- a difference, in each of its two forms
pub sub_pos : (a b c : ℕ) → a ≡ c + b → sub_ℕ a b ≡ pos c
sub_pos a b c h = cond_ind (ltb a b) (negsuc (b - suc a)) (pos (a - b)) (λ z. z ≡ pos c)
    (λ t. absurd (let l : a < b = ltb→lt a b t in omega arith))
    (λ t. ap pos (omega arith))

pub sub_neg : (a b c : ℕ) → b ≡ suc c + a → sub_ℕ a b ≡ negsuc c
sub_neg a b c h = cond_ind (ltb a b) (negsuc (b - suc a)) (pos (a - b)) (λ z. z ≡ negsuc c)
    (λ t. ap negsuc (omega arith))
    (λ t. absurd (let l : b ≤ a = nltb→le a b t in omega arith))

-- a − b for two naturals, as a closed name: each ℤ is one, and sums and products of differences are differences
pub diff : ℕ → ℕ → ℤ
diff a b = sub_ℕ a b

pub diff-pos : (a b c : ℕ) → a ≡ c + b → diff a b ≡ pos c
unfolding diff
diff-pos a b c h = sub_pos a b c h

pub diff_neg : (a b c : ℕ) → b ≡ suc c + a → diff a b ≡ negsuc c
unfolding diff
diff_neg a b c h = sub_neg a b c h

pub diff_cases : (a b : ℕ) (P : ℤ → Type 0) → ((c : ℕ) → a ≡ c + b → P (pos c)) → ((c : ℕ) → b ≡ suc c + a → P (negsuc c)) → P (diff a b)
unfolding diff
diff_cases a b P f g = cond_ind (ltb a b) (negsuc (b - suc a)) (pos (a - b)) P
    (λ t. let l : a < b = ltb→lt a b t in g (b - suc a) (omega arith))
    (λ t. let l : b ≤ a = nltb→le a b t in f (a - b) (omega arith))

pub diff_eq : (a b c d : ℕ) → a + d ≡ c + b → diff a b ≡ diff c d
diff_eq a b c d h = diff_cases c d (λ z. diff a b ≡ z) (λ x e. diff-pos a b x (omega arith)) (λ x e. diff_neg a b x (omega arith))

pub diff_add : (a b c d : ℕ) → diff a b +ℤ diff c d ≡ diff (a + c) (b + d)
unfolding diff
diff_add a b c d = diff_cases a b (λ z. z +ℤ diff c d ≡ diff (a + c) (b + d))
    (λ x e. diff_cases c d (λ z. pos x +ℤ z ≡ diff (a + c) (b + d))
    (λ y k. sym (diff-pos (a + c) (b + d) (x + y) (omega arith)))
    (λ y k. diff_eq x (suc y) (a + c) (b + d) (omega arith)))
    (λ x e. diff_cases c d (λ z. negsuc x +ℤ z ≡ diff (a + c) (b + d))
    (λ y k. diff_eq y (suc x) (a + c) (b + d) (omega arith))
    (λ y k. sym (diff_neg (a + c) (b + d) (suc (x + y)) (omega arith))))

pub diff_neg_pos : (n : ℕ) → neg_ℤ (pos n) ≡ diff 0 n
diff_neg_pos zero = sym (diff-pos 0 0 0 refl)
diff_neg_pos (suc n) = sym (diff_neg 0 (suc n) n (omega arith))

pub diff_mul : (a b c d : ℕ) → diff a b *ℤ diff c d ≡ diff (a * c + b * d) (a * d + b * c)
diff_mul a b c d = diff_cases a b (λ z. z *ℤ diff c d ≡ diff (a * c + b * d) (a * d + b * c))
    (λ x e. diff_cases c d (λ z. pos x *ℤ z ≡ diff (a * c + b * d) (a * d + b * c))
    (λ y k. sym (diff-pos (a * c + b * d) (a * d + b * c) (x * y) (rw (e, k) (omega arith))))
    (λ y k. diff_neg_pos (x * suc y) ∙ diff_eq 0 (x * suc y) (a * c + b * d) (a * d + b * c) (rw (e, k) (omega arith))))
    (λ x e. diff_cases c d (λ z. negsuc x *ℤ z ≡ diff (a * c + b * d) (a * d + b * c))
    (λ y k. diff_neg_pos (suc x * y) ∙ diff_eq 0 (suc x * y) (a * c + b * d) (a * d + b * c) (rw (e, k) (omega arith)))
    (λ y k. sym (diff-pos (a * c + b * d) (a * d + b * c) (suc x * suc y) (rw (e, k) (omega arith)))))

pub diff-of-pos : (n : ℕ) → pos n ≡ diff n 0
diff-of-pos n = sym (diff-pos n 0 n (omega arith))

pub diff-of-negsuc : (n : ℕ) → negsuc n ≡ diff 0 (suc n)
diff-of-negsuc n = sym (diff_neg 0 (suc n) n (omega arith))

pub diff_negate : (a b : ℕ) → neg_ℤ (diff a b) ≡ diff b a
diff_negate a b = diff_cases a b (λ z. neg_ℤ z ≡ diff b a)
    (λ x e. diff_neg_pos x ∙ diff_eq 0 x b a (omega arith))
    (λ x e. sym (diff-pos b a (suc x) (omega arith)))

-- to prove a statement of every ℤ, prove it of every difference
pub by-diff : (P : ℤ → Type 0) → ((a b : ℕ) → P (diff a b)) → (z : ℤ) → P z
by-diff P f (pos n) = subst P (sym (diff-of-pos n)) (f n 0)
by-diff P f (negsuc n) = subst P (sym (diff-of-negsuc n)) (f 0 (suc n))

pub by_diff₂ : (P : ℤ → ℤ → Type 0) → ((a b c d : ℕ) → P (diff a b) (diff c d)) → (y z : ℤ) → P y z
by_diff₂ P f y z = by-diff (λ y. P y z) (λ a b. by-diff (λ z. P (diff a b) z) (λ c d. f a b c d) z) y

pub by_diff₃ : (P : ℤ → ℤ → ℤ → Type 0) → ((a b c d e f : ℕ) → P (diff a b) (diff c d) (diff e f)) → (x y z : ℤ) → P x y z
by_diff₃ P f x y z = by-diff (λ x. P x y z) (λ a b. by_diff₂ (λ y z. P (diff a b) y z) (λ c d e g. f a b c d e g) y z) x

pub pos-minus : (a b : ℕ) → pos a -ℤ pos b ≡ diff a b
pos-minus a b = ap (λ z. pos a +ℤ z) (diff_neg_pos b) ∙ ap (λ z. z +ℤ diff 0 b) (diff-of-pos a) ∙ diff_add a 0 0 b ∙ diff_eq (a + 0) (0 + b) a b (omega arith)

pub ruleset ring = (diff_add, diff_mul, diff_negate, pos-minus, diff_neg_pos, diff-of-pos)

pub *ℤ-assoc : (x y z : ℤ) → (x *ℤ y) *ℤ z ≡ x *ℤ (y *ℤ z)
*ℤ-assoc = by_diff₃ (λ x y z. (x *ℤ y) *ℤ z ≡ x *ℤ (y *ℤ z)) (λ a b c d e f. simp ring (diff_eq _ _ _ _ (omega arith)))

pub *ℤ-+ℤ : (x y z : ℤ) → x *ℤ (y +ℤ z) ≡ x *ℤ y +ℤ x *ℤ z
*ℤ-+ℤ = by_diff₃ (λ x y z. x *ℤ (y +ℤ z) ≡ x *ℤ y +ℤ x *ℤ z) (λ a b c d e f. simp ring (diff_eq _ _ _ _ (omega arith)))

pub +ℤ-*ℤ : (x y z : ℤ) → (x +ℤ y) *ℤ z ≡ x *ℤ z +ℤ y *ℤ z
+ℤ-*ℤ = by_diff₃ (λ x y z. (x +ℤ y) *ℤ z ≡ x *ℤ z +ℤ y *ℤ z) (λ a b c d e f. simp ring (diff_eq _ _ _ _ (omega arith)))

-- the two parts of a whole number, one of them 0
pub up : ℤ → ℕ
up (pos n) = n
up (negsuc n) = 0

pub down : ℤ → ℕ
down (pos n) = 0
down (negsuc n) = suc n

pub as_diff : (z : ℤ) → z ≡ diff (up z) (down z)
unfolding up down
as_diff (pos n) = diff-of-pos n
as_diff (negsuc n) = diff-of-negsuc n

pub +ℤ-4 : (a b c d : ℤ) → (a +ℤ b) +ℤ (c +ℤ d) ≡ (a +ℤ c) +ℤ (b +ℤ d)
+ℤ-4 a b c d = rw (as_diff a, as_diff b, as_diff c, as_diff d) (simp ring (diff_eq _ _ _ _ (omega arith)))

pub +ℤ-left : (x y z : ℤ) → x +ℤ (y +ℤ z) ≡ y +ℤ (x +ℤ z)
+ℤ-left x y z = rw (as_diff x, as_diff y, as_diff z) (simp ring (diff_eq _ _ _ _ (omega arith)))

pub *ℤ-left : (x y z : ℤ) → x *ℤ (y *ℤ z) ≡ y *ℤ (x *ℤ z)
*ℤ-left x y z = rw (as_diff x, as_diff y, as_diff z) (simp ring (diff_eq _ _ _ _ (omega arith)))

-- `simp ac` sorts and multiplies out both sides of an identity of sums and products, of any degree, with no negation in it
pub ruleset ac = (+ℤ_assoc, +ℤ_comm, +ℤ-left, *ℤ-assoc, *ℤ_comm, *ℤ-left, *ℤ-+ℤ, +ℤ-*ℤ)

-- the order of two differences, both ways
pub diff-≤ : (a b c d : ℕ) → a + d ≤ c + b → diff a b ≤ℤ diff c d
diff-≤ a b c d h = diff_cases a b (λ z. z ≤ℤ diff c d)
    (λ x e. diff_cases c d (λ z. pos x ≤ℤ z)
    (λ y k. record { le = le→leb x y (omega arith) })
    (λ y k. absurd (omega arith)))
    (λ x e. diff_cases c d (λ z. negsuc x ≤ℤ z)
    (λ y k. record { le = tt })
    (λ y k. record { le = le→leb y x (omega arith) }))

pub ≤-diff : (a b c d : ℕ) → diff a b ≤ℤ diff c d → a + d ≤ c + b
≤-diff a b c d = diff_cases a b (λ z. z ≤ℤ diff c d → a + d ≤ c + b)
    (λ x e. diff_cases c d (λ z. pos x ≤ℤ z → a + d ≤ c + b)
    (λ y k h. omega (arith, leb→le x y h.le))
    (λ y k h. absurd h.le))
    (λ x e. diff_cases c d (λ z. negsuc x ≤ℤ z → a + d ≤ c + b)
    (λ y k h. omega arith)
    (λ y k h. omega (arith, leb→le y x h.le)))

-- a sum keeps the order
pub ≤ℤ-+ℤ : (x y z : ℤ) → x ≤ℤ y → (x +ℤ z) ≤ℤ (y +ℤ z)
≤ℤ-+ℤ = by_diff₃ (λ x y z. x ≤ℤ y → (x +ℤ z) ≤ℤ (y +ℤ z)) (λ a b c d e f h. simp ring (diff-≤ _ _ _ _ (omega (arith, ≤-diff a b c d h))))
