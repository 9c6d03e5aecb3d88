-- Lists of numbers of at most M in size.
use mathlib.Core.Path.{◌≡◌, refl}
use mathlib.Core.List.{List}
use Prim.Native.Nat.{ℕ, zero, suc, ◌+◌, ◌*◌, ◌^◌, ◌<◌, ◌≤◌}
use native.Mathlib.Omega.{arith}
use native.Mathlib.Nat.{mul-le-mul}
use native.Mathlib.Decide.{ℕ_discrete}
use lib.ListN.{length, get_or, set, take, drop, replicate}
use lib.Seq.{get_or-set_same, get_or-set_other}
use lib.IntN.{ℤ, pos, nat_abs, ◌*ℤ◌}
use mir.Syntax.{w16, w64}
use mir.Val.{SFits, to_z, of_z}
use mir.ValLaws.{to_z-of_z}
use Rattle.integers.proofs.Lists.{everywhere, part-everywhere}
use Rattle.integers.proofs.Sizes.{nat_abs-*, fits-size}
use Rattle.integers.proofs.Words.{Held, held}
use Rattle.integers.proofs.Sums.{sum_ℕ-le}
use Rattle.matrices.specs.Tables.{signed}
use Rattle.small_rows.specs.Small.{Within, SmallBlocks}

module _ (M : ℕ) where
  -- past a list's end there is nothing to show
  pub within_list : (xs : List ℤ) → ((i : ℕ) → i < length xs → nat_abs (get_or xs i (pos 0)) ≤ M) → Within M xs
  within_list xs h = everywhere (λ z. nat_abs z ≤ M) (pos 0) xs (omega arith) h

  pub within-set : (xs : List ℤ) (i : ℕ) (v : ℤ) → i < length xs → nat_abs v ≤ M → Within M xs → Within M (set xs i v)
  within-set xs i v room hv small k = go (ℕ_discrete k i)
    where
      go : Dec (k ≡ i) → nat_abs (get_or (set xs i v) k (pos 0)) ≤ M
      go (yes e) = rw (e, get_or-set_same xs i v (pos 0) room) hv
      go (no f) = rw (get_or-set_other xs i k v (pos 0) f) (small k)

  -- a part of a list
  pub within-part : (a k : ℕ) (xs : List ℤ) → Within M xs → Within M (take k (drop a xs))
  within-part a k xs small = part-everywhere (λ z. nat_abs z ≤ M) (pos 0) a k xs (omega arith) small

pub zeros : (n x : ℕ) → get_or (replicate n (pos 0)) x (pos 0) ≡ pos 0
zeros zero x = refl
zeros (suc n) zero = refl
zeros (suc n) (suc x) = zeros n x

-- 32 products of numbers of at most h in size
pub small-blocks : (h n : ℕ) (s : List ℤ) → 32 * (h * h) < 2 ^ 31 → Within h s → SmallBlocks n s
small-blocks h n s few small base a b ha hb = omega (
  arith,
  sum_ℕ-le 32 (h * h) (λ r. nat_abs (signed n s (base + r) a *ℤ signed n s (base + r) b))
      (λ r l. rw (nat_abs-* (signed n s (base + r) a) (signed n s (base + r) b)) (mul-le-mul (small ((base + r) * n + a)) (small ((base + r) * n + b)))),
)

-- a number of 16 bits in 64
pub widened : (z : ℤ) → SFits w16 z → Held w64 (to_z w16 (of_z w16 z)) z
widened z f = held w64 (to_z-of_z w16 z f) (omega (arith, fits-size w16 z f))

pub within-zeros : (M n : ℕ) → Within M (replicate n (pos 0))
within-zeros M n i = rw (zeros n i) (omega arith)
