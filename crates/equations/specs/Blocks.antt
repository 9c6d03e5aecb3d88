-- Blocks of k rows and k columns of a symmetric matrix that is stored as its lower triangle x, summed up by powers.
use Rattle.std.specs.Prelude.{Bool, cond, ◌&&◌, List, ℕ, ◌+◌, ◌*◌, ◌^◌, ◌<◌, ◌≤◌, ltb, ℤ, pos, nat_abs, ◌+ℤ◌, ◌*ℤ◌, length, get_or}
use Rattle.integers.specs.Sums.{sum, sum_ℕ}
use Rattle.matrices.specs.Matrices.{Matrix}
use Rattle.matrices.specs.Triangles.{triangular}
use Rattle.lova.specs.Tests.{eq_Z}

-- k powers and entries within `bound`, small enough that no sum over a block leaves a signed word
pub record Small (x : List ℤ) (powers : List ℕ) (k : ℕ) : Type 0 where
  pub long : k ≤ length powers
  pub power-low : (q : ℕ) → q < k → 1 ≤ get_or powers q 0
  pub power-fits : (q : ℕ) → q < k → get_or powers q 0 < 2 ^ 63
  pub bound : ℕ
  pub within : (y : ℕ) → nat_abs (get_or x y (pos 0)) ≤ bound
  pub fits : bound * (sum_ℕ k (λ q. get_or powers q 0) * sum_ℕ k (λ q. get_or powers q 0)) < 2 ^ 63

module _ (x : List ℤ) (powers : List ℕ) (k i j : ℕ) where
  -- entry (q, u) of block (i, j), on or below the diagonal, times power u
  abbrev pub entry_term : ℕ → ℕ → ℤ
  entry_term q u = get_or x (triangular (i * k + q) + j * k + u) (pos 0) *ℤ pos (get_or powers u 0)

  -- the sum over row q of block (i, j); of a block on the diagonal, over the row up to the diagonal and over the mirror image of what is before it
  unfoldable pub row_sum : ℕ → ℤ
  row_sum q = cond (ltb j i) (sum k (entry_term q)) (sum q (entry_term q) +ℤ sum q (entry_term q) +ℤ entry_term q q)

  -- that sum times power q
  abbrev pub row_term : ℕ → ℤ
  row_term q = row_sum q *ℤ pos (get_or powers q 0)

-- whether X at (i, j) equals Y there and in its mirror image
abbrev pub equal_both : Matrix → Matrix → ℕ → ℕ → Bool
equal_both X Y i j = eq_Z (X i j) (Y i j) && eq_Z (X i j) (Y j i)
