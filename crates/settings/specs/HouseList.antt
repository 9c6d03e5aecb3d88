-- The house list of document 01.
use Rattle.std.specs.Prelude.{cond, List, [], ◌∷◌, ℕ, ◌-◌, length, get_or, Result, Ok, Err}
use Rattle.integers.specs.Ranges.{within, ◌to◌}
use Rattle.settings.specs.Settings.{Parameters, setting_of}
use Rattle.settings.specs.declared.Setting.{Setting}

abbrev pub parameters : ℕ → ℕ → ℕ → ℕ → ℕ → Parameters
parameters n m t b bound = record { n = n; m = m; t = t; b = b; bound = bound }

-- the settings 1 to 4
abbrev pub house_list : List Parameters
house_list =
    parameters 1 1 1 2 100
    ∷ parameters 4 16 2 32 1048576
    ∷ parameters 8 64 4 128 268435456
    ∷ parameters 16 256 1 64 16777216
    ∷ []

-- the answer for a number of the list: its setting, or 12 for a number outside 1..4
unfoldable pub listed_of : ℕ → Result Setting ℕ
listed_of number =
    cond (within (1 to length house_list) number)
    (Ok (setting_of (get_or house_list (number - 1) (parameters 0 0 0 0 0))))
    (Err 12)
