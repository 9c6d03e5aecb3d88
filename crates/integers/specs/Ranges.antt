-- Ranges of whole numbers.
use Rattle.std.specs.Prelude.{ℕ, ◌≤◌, Bool, ◌&&◌, nat_le}

-- the whole numbers from `low` to `high`, both among them
pub record Range : Type 0 where
  pub low : ℕ
  pub high : ℕ

infix 25 ◌to◌
abbrev pub ◌to◌ : ℕ → ℕ → Range
◌to◌ l h = record { low = l; high = h }

-- whether a number is in the range
abbrev pub within : Range → ℕ → Bool
within r x = nat_le r.low x && nat_le x r.high

-- it is
abbrev pub In : Range → ℕ → Type 0
In r x = (r.low ≤ x) × (x ≤ r.high)
