-- Sums of products of two lists' numbers.
use Rattle.std.specs.Prelude.{List, ℕ, ◌+◌, ◌^◌, ◌<◌, ◌≤◌, length, get_or, ℤ, pos, nat_abs, ◌*ℤ◌}
use Rattle.integers.specs.Sums.{sum, sum_ℕ}

-- p[x] q[y] + … + p[x + n − 1] q[y + n − 1]
abbrev pub dots : List ℤ → List ℤ → ℕ → ℕ → ℕ → ℤ
dots p q x y n = sum n (λ r. get_or p (x + r) (pos 0) *ℤ get_or q (y + r) (pos 0))

-- the sizes of these products, summed
abbrev pub sizes_of : List ℤ → List ℤ → ℕ → ℕ → ℕ → ℕ
sizes_of p q x y n = sum_ℕ n (λ r. nat_abs (get_or p (x + r) (pos 0) *ℤ get_or q (y + r) (pos 0)))

-- p has n numbers from x on and q from y on, and the sizes of their products sum to less than 2^31
pub record Reach (p q : List ℤ) (x y n : ℕ) : Type 0 where
  pub left : x + n ≤ length p
  pub right : y + n ≤ length q
  pub fits : sizes_of p q x y n < 2 ^ 31
