-- A row times a column of a decoded challenge, by its first terms.
use mathlib.Core.List.{List}
use Prim.Native.Nat.{ℕ, ◌+◌, ◌*◌, ◌^◌, ◌≤◌}
use native.Mathlib.Omega.{arith}
use lib.ListN.{length, get_or}
use lib.IntN.{ℤ, pos, nat_abs, ◌*ℤ◌}
use Rattle.integers.specs.Sums.{sum}
use Rattle.matrices.proofs.Bounds.{product-bound}
use Rattle.small_rows.specs.Small.{Within}
use Rattle.small_rows.specs.Columns.{by_columns}

-- the first k terms of a row times column j of the challenge
abbrev pub terms : List ℤ → List ℤ → ℕ → ℕ → ℤ
terms e q j k = sum k (λ k. get_or e k (pos 0) *ℤ by_columns q k j)

module _ (e q : List ℤ) (j : ℕ) (few : length e ≤ 512) (small : Within (2 ^ 45) e) (factors : Within 16 q) where
  pub terms-size : (k : ℕ) → k ≤ length e → nat_abs (terms e q j k) ≤ 2 ^ 58
  terms-size k h = omega (arith, product-bound k (2 ^ 45) 16 (λ i k. get_or e k (pos 0)) (by_columns q) 0 j (λ r l. small r) (λ r l. factors (j * 512 + r)))
