-- Finite sums over an index.
use Rattle.std.specs.Prelude.{ℕ, zero, suc, ◌+◌, ℤ, pos, ◌+ℤ◌}

-- f 0 + … + f (n − 1), of whole numbers
unfoldable pub sum : ℕ → (ℕ → ℤ) → ℤ
sum zero f = pos 0
sum (suc n) f = sum n f +ℤ f n

-- f 0 + … + f (n − 1), of natural numbers
unfoldable pub sum_ℕ : ℕ → (ℕ → ℕ) → ℕ
sum_ℕ zero f = 0
sum_ℕ (suc n) f = sum_ℕ n f + f n
