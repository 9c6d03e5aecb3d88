-- How the digit writer divides by a base: by its reciprocal, which takes a product and a shift.
use Rattle.std.specs.Prelude.{◌≡◌, List, ℕ, ◌+◌, ◌*◌, ◌/◌, ◌^◌, ◌<◌, ◌≤◌, ℤ, pos, nat_abs, get_or}
use Rattle.digits.specs.declared.Base.{Base}

-- what reciprocals are scaled by
abbrev pub scale : ℕ
scale = 2 ^ 33

-- the base b with its reciprocal
abbrev pub base_of : ℕ → Base
base_of b = record { b = b; reciprocal = scale / b + 1 }

-- a base as `Base::new` gives it
pub record IsBase (base : Base) : Type 0 where
  pub low : 2 ≤ base.b
  pub high : base.b < 2 ^ 16
  pub whole : base ≡ base_of base.b

-- a size that the reciprocal of b divides exactly
abbrev pub InReach : ℕ → ℕ → Type 0
InReach b w = w * b < scale

-- the size of each number of the list is one (past its end stands 0)
abbrev pub AllInReach : ℕ → List ℤ → Type 0
AllInReach b xs = (i : ℕ) → InReach b (nat_abs (get_or xs i (pos 0)))
