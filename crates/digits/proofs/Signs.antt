-- The sign of an entry, by arithmetic: what the machine's shift, product and sum make of it.
use mathlib.Core.Path.{◌≡◌, refl, ◌∙◌, ap}
use Prim.Native.Nat.{ℕ, suc, ◌^◌, ◌<◌}
use native.Mathlib.Omega.{arith}
use native.Mathlib.Nat.{div-eq_of_lt, one-mul}
use lib.IntN.{ℤ, pos, negsuc, neg_ℤ, nat_abs, ◌+ℤ◌, ◌*ℤ◌}
use lib.Signed.{shr_z}
use mir.Syntax.{w64}
use mir.Val.{SFits, to_z, of_z}
use mir.ValLaws.{to_z-of_z}
use Rattle.integers.proofs.Words.{Held, held}
use Rattle.digits.specs.Digits.{sign_of}

-- x >> 63: 0, or −1 where x is below 0
abbrev top_of : ℤ → ℤ
top_of (pos n) = pos 0
top_of (negsuc n) = negsuc 0

shifted : (x : ℤ) → SFits w64 x → shr_z x (2 ^ 63) ≡ top_of x
shifted (pos n) f = ap pos (div-eq_of_lt f.sfits)
shifted (negsuc n) f = ap negsuc (div-eq_of_lt f.sfits)

top-doubled : (x : ℤ) → nat_abs (pos 2 *ℤ top_of x) < 2 ^ 63
top-doubled (pos n) = omega arith
top-doubled (negsuc n) = omega arith

sign-by-top : (x : ℤ) → pos 2 *ℤ top_of x +ℤ pos 1 ≡ sign_of x
unfolding sign_of
sign-by-top (pos n) = refl
sign-by-top (negsuc n) = refl

pub sign-size : (x : ℤ) → nat_abs (sign_of x) ≡ 1
unfolding sign_of
sign-size (pos n) = refl
sign-size (negsuc n) = refl

-- the sign times the entry is its size
pub sign-times : (x : ℤ) → sign_of x *ℤ x ≡ pos (nat_abs x)
unfolding sign_of
sign-times (pos n) = ap pos (one-mul n)
sign-times (negsuc n) = ap pos (one-mul (suc n))

-- times a sign
pub one-times : (z : ℤ) → pos 1 *ℤ z ≡ z
one-times (pos n) = ap pos (one-mul n)
one-times (negsuc n) = ap (λ (m : ℕ). neg_ℤ (pos m)) (one-mul (suc n))

pub minus-one-times : (z : ℤ) → negsuc 0 *ℤ z ≡ neg_ℤ z
minus-one-times (pos n) = ap (λ (m : ℕ). neg_ℤ (pos m)) (one-mul n)
minus-one-times (negsuc n) = ap pos (one-mul (suc n))

-- the machine's 2 (x >> 63), and that plus 1
module _ (x : ℤ) (fits : SFits w64 x) where
  top : Held w64 (shr_z (to_z w64 (of_z w64 x)) (2 ^ 63)) (top_of x)
  top = held w64 (ap (λ (z : ℤ). shr_z z (2 ^ 63)) (to_z-of_z w64 x fits) ∙ shifted x fits) (top_small x)
    where
      top_small : (x : ℤ) → nat_abs (top_of x) < 2 ^ 63
      top_small (pos n) = omega arith
      top_small (negsuc n) = omega arith

  pub doubled : Held w64 (pos 2 *ℤ to_z w64 (of_z w64 (shr_z (to_z w64 (of_z w64 x)) (2 ^ 63)))) (pos 2 *ℤ top_of x)
  doubled = held w64 (ap (λ (z : ℤ). pos 2 *ℤ z) top.read) (top-doubled x)

  pub sign-held : Held w64 (to_z w64 (of_z w64 (pos 2 *ℤ to_z w64 (of_z w64 (shr_z (to_z w64 (of_z w64 x)) (2 ^ 63))))) +ℤ pos 1) (sign_of x)
  sign-held = held w64 (ap (λ (z : ℤ). z +ℤ pos 1) doubled.read ∙ sign-by-top x) (omega (arith, sign-size x))
