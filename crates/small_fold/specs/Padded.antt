-- A row with zeros after its numbers.
use Rattle.std.specs.Prelude.{◌≡◌, List, ℕ, ◌≤◌, length, get_or, ℤ, pos}
use Rattle.small_rows.specs.Small.{Within}

-- a row of n numbers of at most h in size, with zeros after them up to 512
pub record Padded (h n : ℕ) (p : List ℤ) : Type 0 where
  pub long : length p ≡ 512
  pub few : n ≤ 512
  pub small : Within h p
  pub zero : (x : ℕ) → n ≤ x → get_or p x (pos 0) ≡ pos 0
