-- The radius is the greatest number whose square times m is at most B, and a witness entry is within it.
use Rattle.std.proofs.Common.{◌≡◌, ℕ, zero, suc, ◌+◌, ◌-◌, ◌*◌, ◌/◌, ◌%◌, ◌^◌, ◌<◌, ◌≤◌, Bool, true, false, cond, leb, ℤ, pos, ◌-ℤ◌, nat_abs, refl, ap, ◌∙◌, ⊎_elim, le_refl, mul-le-mul_right, mod-lt, mul_comm, mul-le-mul, pow-suc, le-div_iff_mul-le, add-one, arith, pow_pos, le-leb}
use native.Mathlib.Omega.{by_contra}
use borrow.Author.Tests.{lt-leb}
use Rattle.integers.proofs.Tests.{le_or_lt, leb-same}
use Rattle.integers.proofs.Ring.{pos-minus, diff_cases}
use Rattle.draws.specs.Draws.{upper, witness_of, reaches, radius_from, radius}

-- ---- the turns of the search, which compares r² with B / m

by_division : (m B x : ℕ) → 1 ≤ m → leb (x * m) B ≡ leb x (B / m)
by_division m B x low = leb-same (x * m) B x (B / m) ((λ h. (le-div_iff_mul-le low).1 h), (λ h. (le-div_iff_mul-le low).0 h))

-- one bit
pub turn : (m B n r : ℕ) → 1 ≤ m → radius_from (n + 1) m B r ≡ radius_from n m B (cond (leb ((r + 2 ^ n) * (r + 2 ^ n)) (B / m)) (r + 2 ^ n) r)
unfolding radius_from
turn m B n r low = rw (add-one n) (ap (λ (c : Bool). radius_from n m B (cond c (r + 2 ^ n) r)) (by_division m B ((r + 2 ^ n) * (r + 2 ^ n)) low))

pub turns_done : (m B r : ℕ) → radius_from 0 m B r ≡ r
unfolding radius_from
turns_done m B r = refl

-- whichever of two numbers is kept, it is at most the larger
pub kept_small : (c : Bool) (r x : ℕ) → r ≤ x → cond c x r ≤ x
kept_small true r x h = le_refl x
kept_small false r x h = h

-- a power of two and its half
pub half_of : (n : ℕ) → 0 < n → (2 ^ n ≡ 2 * 2 ^ (n - 1)) × (1 ≤ 2 ^ (n - 1))
half_of zero h = absurd (omega arith)
half_of (suc n) h = (rw (back n) (pow-suc 2 n ∙ mul_comm (2 ^ n) 2), pow_pos (suc n - 1))
  where
    back : (n : ℕ) → suc n - 1 ≡ n
    back n = omega arith

-- ---- what it finds

-- with n bits left: what stands so far reaches, and nothing from 2^n above it on does
record Search (m B n r : ℕ) : Type 0 where
  low : r * r * m ≤ B
  high : B < (r + 2 ^ n) * (r + 2 ^ n) * m

-- one bit
module _ (m B n r : ℕ) (s : Search m B (suc n) r) where
  above : B < (r + 2 ^ n + 2 ^ n) * (r + 2 ^ n + 2 ^ n) * m
  above = let e : r + 2 ^ n + 2 ^ n ≡ r + 2 ^ suc n = omega (arith, pow-suc 2 n) in rw e s.high

  bit : Search m B n (cond (reaches m B (r + 2 ^ n)) (r + 2 ^ n) r)
  bit = ⊎_elim
      (λ (l : (r + 2 ^ n) * (r + 2 ^ n) * m ≤ B). rw (le-leb _ _ l) (record { low = l; high = above }))
      (λ (l : B < (r + 2 ^ n) * (r + 2 ^ n) * m). rw (lt-leb _ _ l) (record { low = s.low; high = l }))
      (le_or_lt ((r + 2 ^ n) * (r + 2 ^ n) * m) B)

searched : (m B n r : ℕ) → Search m B n r → Search m B 0 (radius_from n m B r)
unfolding radius_from
searched m B zero r s = s
searched m B (suc n) r s = searched m B n _ (bit m B n r s)

-- r² m ≤ B, and (r + 1)² m is above it
found : (m B : ℕ) → 1 ≤ m → B < 2 ^ 64 → Search m B 0 (radius m B)
found m B m-low B_high = searched m B 32 0 (record { low = omega arith; high = omega (arith, m-low, B_high) })

-- it is the only such number: that whose square is the last one up to B / m
pub radius-is-root : (m B r : ℕ) → 1 ≤ m → B < 2 ^ 64 → r * r ≤ B / m → B / m < (r + 1) * (r + 1) → r ≡ radius m B
radius-is-root m B r m-low B_high low high =
    let f = found m B m-low B_high in
    let r-low : r * r * m ≤ B = (le-div_iff_mul-le m-low).0 low in
    let up : r ≤ radius m B = by_contra r (radius m B) (λ l.
    let k : radius m B + 1 ≤ r = omega arith in
    omega (arith, r-low, f.high, mul-le-mul_right m (mul-le-mul k k))) in
    let down : radius m B ≤ r = by_contra (radius m B) r (λ l.
    let k : r + 1 ≤ radius m B = omega arith in
    let s : (r + 1) * (r + 1) * m ≤ B = omega (arith, f.low, mul-le-mul_right m (mul-le-mul k k)) in
    let q : (r + 1) * (r + 1) ≤ B / m = (le-div_iff_mul-le m-low).1 s in
    omega (arith, q, high)) in
    omega (arith, up, down)

-- no greater number x has x² m ≤ B
pub radius-greatest : (m B : ℕ) → 1 ≤ m → B ≤ 2 ^ 62 → (radius m B * radius m B * m ≤ B) × ((x : ℕ) → x * x * m ≤ B → x ≤ radius m B)
radius-greatest m B m-low B_high =
    let f = found m B m-low (omega (arith, B_high)) in (
      f.low,
      λ x h. by_contra x (radius m B) (λ l.
          let k : radius m B + 1 ≤ x = omega arith in
          omega (arith, h, f.high, mul-le-mul_right m (mul-le-mul k k))),
    )

-- so r is well below 2^32
pub radius-small : (m B : ℕ) → 1 ≤ m → B ≤ 2 ^ 62 → radius m B < 2 ^ 32
radius-small m B m-low B_high = by_contra (suc (radius m B)) (2 ^ 32) (λ l.
    let r : 2 ^ 32 ≤ radius m B = omega arith in
    omega (arith, B_high, (radius-greatest m B m-low B_high).0, mul-le-mul (mul-le-mul r r) m-low))

-- an entry is within r: d − r for d from 0 to 2r
less : (d r : ℕ) → d < 2 * r + 1 → nat_abs (pos d -ℤ pos r) ≤ r
less d r h = rw (pos-minus d r) (diff_cases d r (λ (z : ℤ). nat_abs z ≤ r) (λ c e. omega (arith, e, h)) (λ c e. omega (arith, e)))

pub entry-within : (r x : ℕ) → nat_abs (witness_of r x) ≤ r
entry-within r x = less (upper x % (2 * r + 1)) r (mod-lt (upper x) (omega arith))
