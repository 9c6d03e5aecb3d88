-- The program's limits of a setting beside the library's: today they are the same.
use mathlib.Core.Path.{◌≡◌, refl}
use Rattle.settings.specs.Rules.{first_of}
use Rattle.settings.specs.Settings.{Parameters, setting_rules, setting_refusal}
use Rattle.chain.specs.Limits.{setting_limits}

-- a setting that meets the program's limits is one that the library accepts
pub program-accepts : (p : Parameters) → first_of (setting_rules setting_limits p) ≡ 0 → setting_refusal p ≡ 0
unfolding setting_refusal
program-accepts p e = e

-- the number with which the program refuses a setting is the library's
pub program-refusal : (p : Parameters) → first_of (setting_rules setting_limits p) ≡ setting_refusal p
unfolding setting_refusal
program-refusal p = refl
