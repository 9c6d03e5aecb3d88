-- The entry that digits stand for.
use Rattle.std.specs.Prelude.{Bool, cond, List, ℕ, ◌/◌, ◌^◌, ◌≤◌, leb, ℤ, pos, nat_abs, ◌*ℤ◌, length, get_or}
use Rattle.integers.specs.Sums.{sum}
use Rattle.integers.specs.Tests.{all}
use Rattle.digits.specs.Digits.{sign_of, digit_of}
use Rattle.lova.specs.Tests.{eq_Z}

-- each number of the list is at most h = b/2 in size (past its end stands 0)
abbrev pub Digits : ℕ → List ℤ → Type 0
Digits b ds = (q : ℕ) → nat_abs (get_or ds q (pos 0)) ≤ b / 2

-- what digits to the base b stand for: each times its power, power 0 first
abbrev pub entry_of : ℕ → List ℤ → ℤ
entry_of b ds = sum (length ds) (λ q. get_or ds q (pos 0) *ℤ pos (b ^ q))

-- z where its size is at most so much, else that much by its sign
unfoldable pub clamped : ℕ → ℤ → ℤ
clamped most z = cond (leb (nat_abs z) most) z (sign_of z *ℤ pos most)

-- a size whose square exceeds every bound
abbrev pub limit : ℕ
limit = 2 ^ 32

-- whether digits are those that the rule gives for the entry that they stand for
abbrev pub follow_rule : ℕ → List ℤ → Bool
follow_rule b ds = all (length ds) (λ q. eq_Z (digit_of b (entry_of b ds) q) (get_or ds q (pos 0)))
