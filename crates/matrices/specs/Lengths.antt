-- The test of a squared length: squares are taken from a bound, one after the other.
use Rattle.std.specs.Prelude.{ℕ, ◌-◌, ◌*◌, cond, Option, Some, None, ℤ, nat_le, unsigned_abs}

-- what the square of x leaves of what is left, if it is within that
abbrev pub less_square : ℕ → ℤ → Option ℕ
less_square left x = cond (nat_le (unsigned_abs x * unsigned_abs x) left) (Some (left - unsigned_abs x * unsigned_abs x)) None
