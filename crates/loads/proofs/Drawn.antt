-- What is drawn: how many entries, which, and of what size.
use mathlib.Core.Path.{◌≡◌, sym, subst}
use Prim.Native.Nat.{ℕ, ◌+◌, ◌*◌, ◌%◌, ◌^◌, ◌≤◌, ◌<◌}
use native.Mathlib.Omega.{arith, by_contra}
use native.Mathlib.Nat.{le_trans, mul-le-mul, mod-lt}
use lib.Arith.{digits_lt}
use lib.IntN.{ℤ, pos, nat_abs}
use lib.ListN.{length, get_or}
use mir.Syntax.{w64}
use mir.Val.{SFits}
use Rattle.integers.proofs.Lists.{length-build, get_or-build}
use Rattle.integers.proofs.Sizes.{fits-by-size}
use Rattle.matrices.proofs.Bounds.{squared-bound}
use Rattle.settings.specs.Settings.{Parameters}
use Rattle.lova.specs.Stored.{matrix_A, matrix_S, size_C}
use Rattle.lova.specs.Calls.{Fits, FitsC, Short, Ternary}
use Rattle.text.proofs.Records.{Each, each_index}
use Rattle.draws.specs.Draws.{next, after, draw, drawn, upper, challenge_of, witness_of}
use Rattle.draws.proofs.Radius as Radius
use Rattle.loads.specs.Files.{radius_of, drawn_A, drawn_S, drawn_c}

-- a draw is a word
draw-below : (s i : ℕ) → draw s i < 2 ^ 64
unfolding after next
draw-below s i = mod-lt (after i s * 6364136223846793005 + 1442695040888963407) (omega arith)

-- entries of any kind
module _ {A : Type 0} (entry : ℕ → A) (n s : ℕ) where
  drawn-long : length (drawn entry n s) ≡ n
  unfolding drawn
  drawn-long = length-build n (λ i. entry (draw s i))

  drawn-at : (i : ℕ) (d : A) → i < n → get_or (drawn entry n s) i d ≡ entry (draw s i)
  unfolding drawn
  drawn-at i d h = get_or-build n (λ i. entry (draw s i)) i d h

  -- what every word's entry is, each of them is
  drawn-each : (P : A → Type 0) → A → ((x : ℕ) → x < 2 ^ 64 → P (entry x)) → Each P (drawn entry n s)
  drawn-each P d h = each_index P (drawn entry n s) d (λ i l.
      subst P (sym (drawn-at i d (subst (λ (k : ℕ). i < k) drawn-long l))) (h (draw s i) (draw-below s i)))

module _ (p : Parameters) where
  -- ---- A: words

  pub A-fits : (s : ℕ) → Fits (matrix_A p) (drawn_A p s)
  unfolding drawn_A
  A-fits s = drawn-long _ (matrix_A p).size s

  pub A-words : (s : ℕ) → Each (λ x. x < 2 ^ 64) (drawn_A p s)
  unfolding drawn_A
  A-words s = drawn-each _ (matrix_A p).size s (λ x. x < 2 ^ 64) 0 (λ x h. h)

  -- ---- challenges: bytes 0, 1 and 2

  byte_small : (x : ℕ) → challenge_of x ≤ 2
  byte_small x = let l : upper x % 3 < 3 = mod-lt (upper x) (omega arith) in omega arith

  pub C-fits : (s : ℕ) → FitsC p (drawn_c p s)
  unfolding drawn_c
  C-fits s = drawn-long _ (size_C p) s

  pub C-bytes : (s : ℕ) → Each (λ x. x ≤ 2) (drawn_c p s)
  unfolding drawn_c
  C-bytes s = drawn-each _ (size_C p) s (λ x. x ≤ 2) 0 (λ x h. byte_small x)

  pub challenges_ternary : (s : ℕ) → Ternary p (drawn_c p s)
  unfolding drawn_c
  challenges_ternary s i j hi hj =
      subst (λ (x : ℕ). x ≤ 2) (sym (drawn-at _ (size_C p) s (i * p.t + j) 0 (digits_lt hi hj))) (byte_small (draw s (i * p.t + j)))

  -- ---- witnesses: within r

  pub S-fits : (s : ℕ) → Fits (matrix_S p) (drawn_S p s)
  unfolding drawn_S
  S-fits s = drawn-long _ (matrix_S p).size s

  module _ (m-low : 1 ≤ p.m) (B_high : p.bound ≤ 2 ^ 62) where
    -- r² m ≤ B, and no greater number has it
    pub radius-greatest : (radius_of p * radius_of p * p.m ≤ p.bound) × ((x : ℕ) → x * x * p.m ≤ p.bound → x ≤ radius_of p)
    radius-greatest = Radius.radius-greatest p.m p.bound m-low B_high

    -- so r² ≤ 2^62, and r ≤ 2^31
    radius-small : radius_of p ≤ 2 ^ 31
    radius-small = by_contra (radius_of p) (2 ^ 31) (λ l.
        let k : 2 ^ 31 + 1 ≤ radius_of p = omega arith in
        omega (arith, radius-greatest.0, B_high, mul-le-mul (mul-le-mul k k) m-low))

    entry-fits : (x : ℕ) → SFits w64 (witness_of (radius_of p) x)
    entry-fits x = fits-by-size (witness_of (radius_of p) x) (omega (arith, Radius.entry-within (radius_of p) x, radius-small))

    pub S-words : (s : ℕ) → Each (SFits w64) (drawn_S p s)
    unfolding drawn_S
    S-words s = drawn-each _ (matrix_S p).size s (SFits w64) (pos 0) (λ x h. entry-fits x)

    -- such leaves are never too long, for every seed and every state
    pub leaves-short : (s : ℕ) → Short p (drawn_S p s)
    unfolding drawn_S
    leaves-short s j hj =
        let within : (i : ℕ) → i < p.m → nat_abs ((matrix_S p).read (drawn_S p s) i j) ≤ radius_of p
        = λ i hi. subst (λ (z : ℤ). nat_abs z ≤ radius_of p)
        (sym (drawn-at _ (matrix_S p).size s (i * p.t + j) (pos 0) (digits_lt hi hj)))
        (Radius.entry-within (radius_of p) (draw s (i * p.t + j))) in
        le_trans (squared-bound p.m (radius_of p) ((matrix_S p).read (drawn_S p s)) j within) (omega (arith, radius-greatest.0))
