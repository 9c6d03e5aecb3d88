-- Signed words: what a test against 0 tells, −1 − s of a negative s, and a word by its size and its sign.
use Rattle.std.proofs.Common.{◌≡◌, ℕ, suc, ◌*◌, ◌^◌, ◌<◌, ◌≤◌, Bool, true, false, T, ◌↔◌, ℤ, pos, negsuc, ◌+ℤ◌, ◌-ℤ◌, ◌*ℤ◌, neg_ℤ, nat_abs, sym, refl, ap, ◌∙◌, subst, ap₂, arith, w64, Fits, SFits, to_z, of_z, ltb-true, lt_of_not-le, le-leb}
use lib.IntN.{pred_ℤ, pred_ℤ-+ℤ, +ℤ_idl, pos-ne-negsuc}
use lib.Signed.{lt_z, non_neg}
use borrow.Author.Tests.{lt-leb}
use mir.Syntax.{Width}
use mir.Val.{hbits}
use mir.Facts.{Fits-nat_abs}
use mir.ValLaws.{to_z-of_z}
use Rattle.integers.proofs.Sizes.{nat_abs_negate, nat_abs-+, nat_abs-*, fits_in}
use Rattle.std.specs.Prelude.{Option, Some, None}
use Rattle.std.specs.Option.{SomeIff}
use Rattle.integers.specs.Residues.{residue, word}
use Rattle.integers.specs.Words.{largest, signed_by, signed_word}

-- -1 - (-(k + 1)) is k
pub flip : (k : ℕ) → negsuc 0 -ℤ negsuc k ≡ pos k
flip k = pred_ℤ-+ℤ (pos 0) (pos (suc k)) ∙ ap pred_ℤ (+ℤ_idl (pos (suc k)))

no_below : (n : ℕ) → n < 0 → ⊥
no_below n h = omega arith

pub negative : (z : ℤ) → lt_z z (pos 0) ≡ true → (k : ℕ) × (z ≡ negsuc k)
negative (pos n) e = absurd (no_below n (ltb-true n 0 e))
negative (negsuc k) e = (k, refl)

pub nonnegative : (z : ℤ) → lt_z z (pos 0) ≡ false → z ≡ pos (nat_abs z)
nonnegative (pos n) e = refl
nonnegative (negsuc k) e = absurd (subst T e tt)

-- a signed word z for which the machine's test z < 0 held
pub record Negative (z : ℤ) : Type 0 where
  pub k : ℕ
  pub is : z ≡ negsuc k
  pub small : k < 2 ^ 63
  pub flipped : negsuc 0 -ℤ to_z w64 (of_z w64 z) ≡ pos k
  pub read : to_z w64 (of_z w64 (negsuc 0 -ℤ to_z w64 (of_z w64 z))) ≡ pos k

negsuc-small : (k : ℕ) → SFits w64 (negsuc k) → k < 2 ^ 63
negsuc-small k f = f.sfits

pub tested_negative : (z : ℤ) → SFits w64 z → lt_z (to_z w64 (of_z w64 z)) (pos 0) ≡ true → Negative z
tested_negative z f e =
    let n = negative z (subst (λ (y : ℤ). lt_z y (pos 0) ≡ true) (to_z-of_z w64 z f) e) in
    let s : n.0 < 2 ^ 63 = negsuc-small n.0 (subst (SFits w64) n.1 f) in
    let d : negsuc 0 -ℤ to_z w64 (of_z w64 z) ≡ pos n.0 = ap (λ (y : ℤ). negsuc 0 -ℤ y) (to_z-of_z w64 z f ∙ n.1) ∙ flip n.0 in
    record { k = n.0; is = n.1; small = s; flipped = d; read = ap (λ (y : ℤ). to_z w64 (of_z w64 y)) d ∙ to_z-of_z w64 (pos n.0) (record { sfits = s }) }

-- and one for which it failed
pub tested_nonnegative : (z : ℤ) → SFits w64 z → lt_z (to_z w64 (of_z w64 z)) (pos 0) ≡ false → z ≡ pos (nat_abs z)
tested_nonnegative z f e = nonnegative z (subst (λ (y : ℤ). lt_z y (pos 0) ≡ false) (to_z-of_z w64 z f) e)

-- what the cast of such a word to u64 asks
non_neg_pos : (z : ℤ) → z ≡ pos (nat_abs z) → T (non_neg z)
non_neg_pos (pos n) e = tt
non_neg_pos (negsuc n) e = absurd (pos-ne-negsuc (suc n) n (sym e))

pub read-nonnegative : (z : ℤ) → SFits w64 z → lt_z (to_z w64 (of_z w64 z)) (pos 0) ≡ false
    → T (non_neg (to_z w64 (of_z w64 z))) × Fits w64 (nat_abs (to_z w64 (of_z w64 z)))
read-nonnegative z f e =
    subst (λ (y : ℤ). T (non_neg y) × Fits w64 (nat_abs y)) (sym (to_z-of_z w64 z f))
    (non_neg_pos z (tested_nonnegative z f e), Fits-nat_abs {w = w64} {z = z} tt f)

-- a signed word by its size and its sign
pub word-within : (n : ℕ) (negative : Bool) → n ≤ largest negative → signed_word n negative ≡ Some (signed_by negative n)
unfolding signed_word
word-within n negative h = rw (le-leb n (largest negative) h) refl

pub word-beyond : (n : ℕ) (negative : Bool) → largest negative < n → signed_word n negative ≡ None
unfolding signed_word
word-beyond n negative h = rw (lt-leb n (largest negative) h) refl

-- what is a word of this size and sign exactly where it fits is the one that there is
pub word-iff : (o : Option ℤ) (n : ℕ) (negative : Bool) (P : Type 0) → SomeIff o P (signed_by negative n) → P ↔ (n ≤ largest negative) → o ≡ signed_word n negative
word-iff None n negative P none fits = sym (word-beyond n negative (lt_of_not-le (λ h. none (fits.1 h))))
word-iff (Some z) n negative P some fits = ap Some some.1 ∙ sym (word-within n negative (fits.0 some.0))

pub nat_abs-signed_by : (negative : Bool) (n : ℕ) → nat_abs (signed_by negative n) ≡ n
unfolding signed_by
nat_abs-signed_by true n = nat_abs_negate (pos n)
nat_abs-signed_by false n = refl

-- What the machine has as u is the number a, which fits the width w: what a cast, a sum or a product asks of u, and what is read of it.
pub record Held (w : Width) (u a : ℤ) : Type 0 where
  pub fits : SFits w u
  pub read : to_z w (of_z w u) ≡ a
  pub bits : of_z w u ≡ of_z w a

pub held : (w : Width) {u a : ℤ} → u ≡ a → nat_abs a < 2 ^ hbits w → Held w u a
held w {u} {a} e h =
    let f : SFits w a = fits_in w a h in
    record { fits = subst (SFits w) (sym e) f; read = ap (λ (z : ℤ). to_z w (of_z w z)) e ∙ to_z-of_z w a f; bits = ap (of_z w) e }

pub read_back : (w : Width) (z : ℤ) → nat_abs z < 2 ^ hbits w → to_z w (of_z w z) ≡ z
read_back w z h = (held w {u = z} {a = z} refl h).read

-- sums, differences and products of two words: u and w are what the machine has for a and x
module _ {u w : ℤ} (a x : ℤ) (hu : u ≡ a) (hw : w ≡ x) where
  pub plus : nat_abs a ≤ 2 ^ 61 → nat_abs x ≤ 2 ^ 61 → Held w64 (u +ℤ w) (a +ℤ x)
  plus ha hx = held w64 (ap₂ ◌+ℤ◌ hu hw) (omega (arith, nat_abs-+ a x))

  pub minus : nat_abs a ≤ 2 ^ 61 → nat_abs x ≤ 2 ^ 61 → Held w64 (u -ℤ w) (a -ℤ x)
  minus ha hx = held w64 (ap₂ ◌-ℤ◌ hu hw) (omega (arith, nat_abs-+ a (neg_ℤ x), nat_abs_negate x))

  pub times : nat_abs a * nat_abs x ≤ 2 ^ 61 → Held w64 (u *ℤ w) (a *ℤ x)
  times h = held w64 (ap₂ ◌*ℤ◌ hu hw) (omega (arith, nat_abs-* a x))

-- a word's bits, read and written again, are its residue
pub bits_word : (z : ℤ) → SFits w64 z → of_z w64 (to_z w64 (of_z w64 z)) ≡ word z
unfolding residue
bits_word (pos n) f = ap (of_z w64) (to_z-of_z w64 (pos n) f) ∙ omega (arith, f.sfits)
bits_word (negsuc n) f = ap (of_z w64) (to_z-of_z w64 (negsuc n) f) ∙ omega (arith, f.sfits)
