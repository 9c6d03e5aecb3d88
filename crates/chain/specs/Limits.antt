-- The chain program's own limits.
use Rattle.std.specs.Prelude.{Bool, not, ◌&&◌, List, [], ◌∷◌, ◌++◌, ℕ, ◌^◌, leb}
use Rattle.integers.specs.Ranges.{◌to◌}
use Rattle.settings.specs.Rules.{Rule, ◌gives◌}
use Rattle.settings.specs.Settings.{Parameters, Limits, k_of, setting_rules}

-- the limits of the settings that the program takes: document 01's
abbrev pub setting_limits : Limits
setting_limits = record { n = 1 to 64; m = 1 to 4096; t = 1 to 16; b = 2 to 65535; bound = 1 to 2 ^ 62; columns = 512; width = 2 ^ 62 }

-- n, m, t and k that the program takes at most
pub record ProgramLimits : Type 0 where
  pub n : ℕ
  pub m : ℕ
  pub t : ℕ
  pub k : ℕ

abbrev pub program_limits : ProgramLimits
program_limits = record { n = 8; m = 16; t = 2; k = 8 }

-- a setting with all four at their most: its matrices are the largest that the program takes
abbrev pub largest : Parameters
largest = record { n = program_limits.n; m = program_limits.m; t = program_limits.t; b = 3; bound = 3 ^ 12 }

-- a setting that is small enough for the program
unfoldable pub small : ProgramLimits → Parameters → Bool
small l p = leb p.n l.n && leb p.m l.m && leb p.t l.t && leb (k_of p) l.k

-- 1 to 6, then 14 for n > 8, m > 16, t > 2 or k > 8
abbrev pub program_rules : Parameters → List Rule
program_rules p = setting_rules setting_limits p ++ (not (small program_limits p) gives 14) ∷ []
