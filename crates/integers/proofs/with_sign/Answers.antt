-- `integers::with_sign` meets its contract: each way out is one case of the definition.
use Rattle.std.proofs.Common.{◌≡◌, ℕ, zero, suc, ◌+◌, ◌-◌, ◌%◌, ◌^◌, ◌≤◌, ◌<◌, Bool, true, false, ℤ, pos, neg_ℤ, sym, refl, ap, ◌∙◌, arith, w64, SFits, to_z, of_z}
use Rattle.std.specs.Prelude.{Some, None}
use mir.ValLaws.{to_z-of_z, to_z_pos, to_z-neg}
use Rattle.integers.specs.Words.{signed_by, signed_word}
use Rattle.integers.proofs.Words.{word-within, word-beyond}
use Rattle.integers.proofs.with_sign.Goals as goal

-- the machine's 0 - n
lowered : (n : ℕ) → n ≤ 2 ^ 63 → to_z w64 ((0 + (2 ^ 64 - n)) % 2 ^ 64) ≡ neg_ℤ (pos n)
lowered zero h = refl
lowered (suc k) h = let e : (0 + (2 ^ 64 - suc k)) % 2 ^ 64 ≡ 2 ^ 64 - suc k = omega arith in rw e (to_z-neg w64 k (omega arith))

below_fits : (n : ℕ) → n ≤ 2 ^ 63 → SFits w64 (neg_ℤ (pos n))
below_fits zero h = record { sfits = omega arith }
below_fits (suc k) h = record { sfits = omega arith }

below : (z : ℤ) (n : ℕ) (negative : Bool) → negative ≡ true → n ≤ 2 ^ 63 → z ≡ to_z w64 ((0 + (2 ^ 64 - n)) % 2 ^ 64) → Some (to_z w64 (of_z w64 z)) ≡ signed_word n negative
unfolding signed_by
below z n negative e h is = rw (is ∙ lowered n h) (ap Some (to_z-of_z w64 (neg_ℤ (pos n)) (below_fits n h)) ∙ sym (rw e (word-within n true h)))

pub returns-then-size-le-LOWEST : goal.returns-then-size-le-LOWEST
returns-then-size-le-LOWEST c = below c.wrapping_sub_unsigned.result c.args.size c.args.negative c.if-negative.true (omega arith) c.wrapping_sub_unsigned.ensures

too-low : (n : ℕ) (negative : Bool) → negative ≡ true → 2 ^ 63 < n → None ≡ signed_word n negative
too-low n negative e h = sym (rw e (word-beyond n true h))

pub returns-else-size-le-LOWEST : goal.returns-else-size-le-LOWEST
returns-else-size-le-LOWEST c = too-low c.args.size c.args.negative c.if-negative.true (omega arith)

above : (n : ℕ) (negative : Bool) → negative ≡ false → n < 2 ^ 63 → Some (to_z w64 n) ≡ signed_word n negative
unfolding signed_by
above n negative e h = ap Some (to_z_pos w64 n h) ∙ sym (rw e (word-within n false (omega arith)))

pub returns-then-size-le-LARGEST : goal.returns-then-size-le-LARGEST
returns-then-size-le-LARGEST c = above c.args.size c.args.negative c.if-negative.false (omega arith)

too-high : (n : ℕ) (negative : Bool) → negative ≡ false → 2 ^ 63 ≤ n → None ≡ signed_word n negative
too-high n negative e h = sym (rw e (word-beyond n false (omega arith)))

pub returns-else-size-le-LARGEST : goal.returns-else-size-le-LARGEST
returns-else-size-le-LARGEST c = too-high c.args.size c.args.negative c.if-negative.false (omega arith)
