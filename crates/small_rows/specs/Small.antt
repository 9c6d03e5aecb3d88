-- Bounds of a list's numbers.
use Rattle.std.specs.Prelude.{◌≡◌, List, ℕ, ◌+◌, ◌*◌, ◌^◌, ◌<◌, ◌≤◌, length, get_or, ℤ, pos, nat_abs, ◌*ℤ◌}
use Rattle.integers.specs.Sums.{sum_ℕ}
use Rattle.matrices.specs.Tables.{signed}

-- each number of the list is at most M in size (past its end stands 0)
abbrev pub Within : ℕ → List ℤ → Type 0
Within M xs = (i : ℕ) → nat_abs (get_or xs i (pos 0)) ≤ M

-- an m by n matrix stored by rows, with at most 512 columns and entries of at most h in size
pub record SmallMatrix (h m n : ℕ) (s : List ℤ) : Type 0 where
  pub long : length s ≡ m * n
  pub few : n ≤ 512
  pub small : Within h s

-- of any 32 rows, the sizes of the products that make an entry of their Gram matrix sum to less than 2^31
abbrev pub SmallBlocks : ℕ → List ℤ → Type 0
SmallBlocks n s = (base a b : ℕ) → a < n → b < n → sum_ℕ 32 (λ r. nat_abs (signed n s (base + r) a *ℤ signed n s (base + r) b)) < 2 ^ 31
