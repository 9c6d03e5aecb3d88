-- The groups that share a machine.
use Rattle.std.specs.Prelude.{Bool, List, ℕ, ◌-◌, get_or}
use Rattle.integers.specs.Ranges.{◌to◌, within, In}

-- there are eight
abbrev pub groups : ℕ
groups = 8

-- whether a number is a group's: 1 to 8
abbrev pub is_group : ℕ → Bool
is_group g = within (1 to groups) g

-- it is
abbrev pub Group : ℕ → Type 0
Group g = In (1 to groups) g

-- of a number for each group, that of group g
infix 80 ◌of◌
abbrev pub ◌of◌ : List ℕ → ℕ → ℕ
◌of◌ xs g = get_or xs (g - 1) 0
