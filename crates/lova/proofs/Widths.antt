-- How many columns and rows the matrices of a call have, in either profile.
use mathlib.Core.Path.{◌≡◌, refl, sym, ◌∙◌, ap}
use mathlib.Core.List.{List}
use Prim.Native.Nat.{ℕ, ◌+◌, ◌*◌, ◌≤◌}
use native.Mathlib.Omega.{arith}
use native.Mathlib.Nat.{le_trans, mul-le-mul_right}
use lib.Dec.{leb}
use lib.IntN.{ℤ}
use Rattle.integers.specs.Tests.{all}
use Rattle.matrices.specs.Matrices.{squared_length, contracted}
use Rattle.matrices.specs.Tables.{signed}
use Rattle.settings.specs.declared.Setting.{Setting}
use Rattle.settings.specs.Settings.{Parameters, k_of, NOf, parameters_of}
use Rattle.lova.specs.declared.Profile.{Profile}
use Rattle.lova.specs.declared.Profile.TheVariants.{General, Fresh}
use Rattle.lova.specs.Stored.{right_for, right_of, copies_for, columns_of, read_C}
use Rattle.lova.specs.Repeats.{challenge_in}
use Rattle.lova.specs.Tests.{short_right}
use Rattle.lova.specs.Calls.{Rebuilt}
use Rattle.lova.proofs.Rebuilding.{rebuilt-accepted, k-is}

distributes : (a b k : ℕ) → (a + b) * k ≡ a * k + b * k
distributes a b k = omega arith

-- the second witness has 1 to t columns, and each stands 1 to t times
pub right-low : (t : ℕ) (f : Profile) → 1 ≤ t → 1 ≤ right_for t f
right-low t General h = h
right-low t Fresh h = omega arith

pub right-high : (t : ℕ) (f : Profile) → 1 ≤ t → right_for t f ≤ t
right-high t General h = omega arith
right-high t Fresh h = h

pub copies_low : (t : ℕ) (f : Profile) → 1 ≤ t → 1 ≤ copies_for t f
copies_low t General h = omega arith
copies_low t Fresh h = h

pub copies_high : (t : ℕ) (f : Profile) → 1 ≤ t → copies_for t f ≤ t
copies_high t General h = h
copies_high t Fresh h = omega arith

-- the columns of T~, D~ and S~: k for each column of [S1 S2], or of [S1 v]; N at the most
pub columns-are : (p : Parameters) (f : Profile) → columns_of p f ≡ (p.t + right_of p f) * k_of p
columns-are p General = omega arith
columns-are p Fresh = omega arith

pub columns-most : (p : Parameters) (f : Profile) → 1 ≤ p.t → columns_of p f ≤ NOf p
columns-most p General low = omega arith
columns-most p Fresh low = let more = mul-le-mul_right (k_of p) low in omega arith

-- the rows of C: k for each column of S1, and k for each copy of each column of S2, or of v
pub rows_are : (p : Parameters) (f : Profile) → p.t * k_of p + copies_for p.t f * (right_of p f * k_of p) ≡ NOf p
rows_are p General = omega arith
rows_are p Fresh = omega arith

-- the same in a setting built anew
module _ (s : Setting) (r : Rebuilt s) (f : Profile) where
  abbrev p : Parameters
  p = parameters_of s

  pub wide_is : (s.t + right_for s.t f) * s.k ≡ columns_of p f
  wide_is = ap (λ (k : ℕ). (s.t + right_for s.t f) * k) (k-is s r) ∙ sym (columns-are p f)

  pub wide_high : columns_of p f ≤ 512
  wide_high = le_trans (columns-most p f (rebuilt-accepted s r).t-low) (rebuilt-accepted s r).columns

  -- with what `Profile::right` gives
  module _ (right : ℕ) (right_is : right ≡ right_for s.t f) where
    pub right-most : right ≤ s.t
    right-most = rw right_is (right-high s.t f (rebuilt-accepted s r).t-low)

    pub right-few : right ≤ 16
    right-few = le_trans right-most (rebuilt-accepted s r).t-high

    pub wide_of : (s.t + right) * s.k ≡ columns_of p f
    wide_of = ap (λ (w : ℕ). (s.t + w) * s.k) right_is ∙ wide_is

    pub wide-few : (s.t + right) * s.k ≤ 512
    wide-few = rw wide_of wide_high

    -- the columns of S1's digits, and the block beside them
    pub parts_are : s.t * s.k + right * s.k ≡ columns_of p f
    parts_are = sym (distributes s.t right s.k) ∙ wide_of

    -- the test of the second witness's columns
    pub short-of : (S : List ℤ) → all right (λ j. leb (squared_length s.m (signed right S) j) s.bound) ≡ short_right p f S
    unfolding short_right
    short-of S = ap (λ (w : ℕ). all w (λ j. leb (squared_length s.m (signed w S) j) s.bound)) right_is

    -- and with what `Profile::copies` gives
    module _ (copies : ℕ) (copies-is : copies ≡ copies_for s.t f) where
      pub copies_some : 1 ≤ copies
      copies_some = rw copies-is (copies_low s.t f (rebuilt-accepted s r).t-low)

      pub copies_few : copies ≤ 16
      copies_few = le_trans (rw copies-is (copies_high s.t f (rebuilt-accepted s r).t-low)) (rebuilt-accepted s r).t-high

      -- C's rows: as many blocks as there are copies
      pub copies_are : s.t * s.k + copies * (right * s.k) ≡ NOf p
      copies_are = rw (right_is, copies-is, k-is s r) (rows_are p f)

      pub challenge-is : (C : List ℕ) → contracted (s.t * s.k) (right * s.k) copies (read_C p C) ≡ challenge_in p f C
      challenge-is C = rw (right_is, copies-is, k-is s r) refl

  -- a product that the code makes before it has asked for the profile's columns
  pub left-few : s.t * s.k ≤ 512
  left-few = omega (arith, parts_are (right_for s.t f) refl, wide_high)
