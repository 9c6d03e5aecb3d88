-- Sums of products: their sizes, and how they grow.
use mathlib.Core.Path.{◌≡◌, sym, ◌∙◌, ap, ap₂}
use mathlib.Core.List.{List}
use Prim.Native.Nat.{ℕ, ◌+◌, ◌-◌, ◌*◌, ◌^◌, ◌<◌, ◌≤◌}
use native.Mathlib.Omega.{arith}
use native.Mathlib.Nat.{add_assoc, add-zero, zero-add, mul-le-mul, mul-le-mul_right}
use lib.ListN.{get_or}
use lib.IntN.{ℤ, pos, nat_abs, ◌+ℤ◌, ◌*ℤ◌, zero-*ℤ, +ℤ_idl}
use mir.Syntax.{w16, w32, w64}
use mir.Val.{SFits, to_z, of_z}
use mir.ValLaws.{to_z-of_z}
use Rattle.integers.specs.Sums.{sum}
use Rattle.integers.proofs.Sizes.{nat_abs-+, nat_abs-*, fits-size}
use Rattle.integers.proofs.Sums.{sum_cong, sum-split, sum_past, nat_abs-sum, sum_ℕ_cong, sum_ℕ-split, sum_ℕ-le}
use Rattle.integers.proofs.Words.{Held, held, read_back}
use Rattle.matrices.specs.Elements.{exactly}
use Rattle.matrices.proofs.Elements.{exactly-sums, turn}
use Rattle.small_rows.specs.Small.{Within}
use Rattle.dots.specs.Dots.{dots, sizes_of}

-- a number of 16 bits in 32, and the product of two
wide : (z : ℤ) → SFits w16 z → Held w32 (to_z w16 (of_z w16 z)) z
wide z f = held w32 (to_z-of_z w16 z f) (omega (arith, fits-size w16 z f))

module _ (a b : ℤ) (fa : SFits w16 a) (fb : SFits w16 b) where
  pub left-wide : Held w32 (to_z w16 (of_z w16 a)) a
  left-wide = wide a fa

  pub right-wide : Held w32 (to_z w16 (of_z w16 b)) b
  right-wide = wide b fb

  pub product_wide : Held w32 (to_z w32 (of_z w32 (to_z w16 (of_z w16 a))) *ℤ to_z w32 (of_z w32 (to_z w16 (of_z w16 b)))) (a *ℤ b)
  product_wide = held w32 (ap₂ ◌*ℤ◌ left-wide.read right-wide.read) (omega (arith, nat_abs-* a b, mul-le-mul (fits-size w16 a fa) (fits-size w16 b fb)))

module _ (p q : List ℤ) where
  -- n such products and k more
  pub dots-more : (x y n k : ℕ) → dots p q x y n +ℤ dots p q (x + n) (y + n) k ≡ dots p q x y (n + k)
  dots-more x y n k =
      ap (λ (z : ℤ). dots p q x y n +ℤ z)
      (sum_cong k _ _ (λ r h. ap₂ (λ (a b : ℕ). get_or p a (pos 0) *ℤ get_or q b (pos 0)) (add_assoc x n r) (add_assoc y n r)))
      ∙ sym (sum-split n k (λ r. get_or p (x + r) (pos 0) *ℤ get_or q (y + r) (pos 0)))

  -- the same of the sizes
  sizes-more : (x y n k : ℕ) → sizes_of p q x y n + sizes_of p q (x + n) (y + n) k ≡ sizes_of p q x y (n + k)
  sizes-more x y n k =
      ap (λ (s : ℕ). sizes_of p q x y n + s)
      (sum_ℕ_cong k _ _ (λ r h. ap₂ (λ (a b : ℕ). nat_abs (get_or p a (pos 0) *ℤ get_or q b (pos 0))) (add_assoc x n r) (add_assoc y n r)))
      ∙ sym (sum_ℕ-split n k (λ r. nat_abs (get_or p (x + r) (pos 0) *ℤ get_or q (y + r) (pos 0))))

  pub dots-size : (x y n : ℕ) → nat_abs (dots p q x y n) ≤ sizes_of p q x y n
  dots-size x y n = nat_abs-sum n (λ r. get_or p (x + r) (pos 0) *ℤ get_or q (y + r) (pos 0))

  -- a sum of them in 32 bits
  pub dots-held : (x y n : ℕ) {u : ℤ} → sizes_of p q x y n < 2 ^ 31 → u ≡ dots p q x y n → Held w32 u (dots p q x y n)
  dots-held x y n h e = held w32 e (omega (arith, dots-size x y n))

  -- one product of numbers as the machine reads them
  pub dots-one : (x y : ℕ) {u : ℤ} → SFits w16 (get_or p x (pos 0)) → SFits w16 (get_or q y (pos 0))
      → u ≡ to_z w16 (of_z w16 (get_or p x (pos 0))) *ℤ to_z w16 (of_z w16 (get_or q y (pos 0))) → u ≡ dots p q x y 1
  unfolding sum
  dots-one x y fp fq e = e ∙ ap₂ ◌*ℤ◌ (to_z-of_z w16 (get_or p x (pos 0)) fp) (to_z-of_z w16 (get_or q y (pos 0)) fq) ∙ rw (add-zero x, add-zero y, +ℤ_idl)

  -- the same of places that are told by their values
  pub one_at : (x y : ℕ) {i j : ℕ} {u : ℤ} → SFits w16 (get_or p i (pos 0)) → SFits w16 (get_or q j (pos 0))
      → u ≡ to_z w16 (of_z w16 (get_or p i (pos 0))) *ℤ to_z w16 (of_z w16 (get_or q j (pos 0))) → i ≡ x → j ≡ y → u ≡ dots p q x y 1
  one_at x y {i} {j} fp fq e ex ey = dots-one i j fp fq e ∙ ap₂ (λ (v w : ℕ). dots p q v w 1) ex ey

  -- one product more, as the machine adds it
  pub dots-next : (x y n k : ℕ) {s a : ℤ} → k < n → sizes_of p q x y n < 2 ^ 31 → s ≡ dots p q x y k → a ≡ dots p q (x + k) (y + k) 1
      → Held w32 (s +ℤ to_z w32 (of_z w32 a)) (dots p q x y (k + 1))
  dots-next x y n k h fits es ea =
      let e : k + 1 + (n - (k + 1)) ≡ n = omega arith in
      let rest = rw e at (sizes-more x y (k + 1) (n - (k + 1))) in
      let whole : sizes_of p q x y (k + 1) < 2 ^ 31 = omega (arith, rest) in
      let one : sizes_of p q (x + k) (y + k) 1 < 2 ^ 31 = omega (arith, sizes-more x y k 1) in
      dots-held x y (k + 1) whole (ap₂ ◌+ℤ◌ es (dots-held (x + k) (y + k) 1 one ea).read ∙ dots-more x y k 1)

  -- 32 of them in 64 bits
  pub dots-wide : (x y : ℕ) {v : ℤ} → sizes_of p q x y 32 < 2 ^ 31 → v ≡ dots p q x y 32 → Held w64 (to_z w32 (of_z w32 v)) (dots p q x y 32)
  dots-wide x y h e = held w64 (dots-held x y 32 h e).read (omega (arith, dots-size x y 32))

  -- a sum of up to 512 of them by steps of 32, of numbers within h and k
  module _ (h k : ℕ) (left : Within h p) (right : Within k q) (few : 512 * (h * k) < 2 ^ 31) where
    sizes-within : (x y n : ℕ) → sizes_of p q x y n ≤ n * (h * k)
    sizes-within x y n = sum_ℕ-le n (h * k) _
        (λ r l. rw (nat_abs-* (get_or p (x + r) (pos 0)) (get_or q (y + r) (pos 0))) (mul-le-mul (left (x + r)) (right (y + r))))

    pub steps_fit : (x y : ℕ) → sizes_of p q x y 32 < 2 ^ 31
    steps_fit x y = omega (arith, sizes-within x y 32)

    size-to : (y n : ℕ) → n ≤ 512 → nat_abs (dots p q 0 y n) < 2 ^ 31
    size-to y n l = omega (arith, dots-size 0 y n, sizes-within 0 y n, mul-le-mul_right (h * k) l)

    pub dots-read : (y n : ℕ) {a : ℕ} → n ≤ 512 → a ≡ of_z w64 (dots p q 0 y n) → to_z w64 a ≡ dots p q 0 y n
    dots-read y n l e = ap (to_z w64) e ∙ read_back w64 (dots p q 0 y n) (omega (arith, size-to y n l))

    -- a turn of that sum, which adds 32 of them
    pub dots-on : (y n : ℕ) {a : ℕ} {v : ℤ} → n ≤ 512 → a ≡ of_z w64 (dots p q 0 y n) → v ≡ dots p q n (y + n) 32
        → Held w64 (to_z w64 a +ℤ to_z w64 (of_z w64 (to_z w32 (of_z w32 v)))) (dots p q 0 y (n + 32))
    dots-on y n {a} l ea ev =
        let next : dots p q 0 y (n + 32) ≡ dots p q 0 y n +ℤ dots p q n (y + n) 32 = sym (rw (zero-add n) at (dots-more 0 y n 32)) in
        let term = dots-wide n (y + n) (steps_fit n (y + n)) ev in
        held w64
        (turn exactly exactly-sums (dots p q 0 y n) (dots p q n (y + n) 32) next (dots-read y n l ea) (ap (λ (z : ℤ). to_z w64 a +ℤ z) term.read))
        (rw next (omega (arith, nat_abs-+ (dots p q 0 y n) (dots p q n (y + n) 32), size-to y n l, dots-size n (y + n) 32, steps_fit n (y + n))))

  -- numbers of 0 at the end add nothing
  pub dots-past : (y n k : ℕ) → n ≤ k → ((x : ℕ) → n ≤ x → get_or p x (pos 0) ≡ pos 0) → dots p q 0 y k ≡ dots p q 0 y n
  dots-past y n k h zero = sum_past n k (λ r. get_or p (0 + r) (pos 0) *ℤ get_or q (y + r) (pos 0)) h
      (λ r l. ap (λ (z : ℤ). z *ℤ get_or q (y + r) (pos 0)) (zero (0 + r) (omega arith)) ∙ zero-*ℤ (get_or q (y + r) (pos 0)))
