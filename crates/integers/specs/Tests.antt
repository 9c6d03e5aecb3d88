-- Tests of many numbers.
use Rattle.std.specs.Prelude.{ℕ, zero, suc, Bool, true, ◌&&◌}

-- a test of every number below n
unfoldable pub all : ℕ → (ℕ → Bool) → Bool
all zero P = true
all (suc n) P = all n P && P n
