-- The record `param`, with which an input begins.
use Rattle.std.specs.Prelude.{cond, List, [], ◌∷◌, ℕ, eqb, get_or, Result, Ok, Err}
use Rattle.std.specs.Prelude.{Option, Some, None}
use Rattle.settings.specs.Rules.{first_of}
use Rattle.settings.specs.Settings.{Parameters, setting_of}
use Rattle.settings.specs.HouseList.{parameters}
use Rattle.settings.specs.declared.Setting.{Setting}
use Rattle.settings.specs.declared.refused.Refusal.{Refusal}
use Rattle.settings.specs.Refusals.{number_of}
use Rattle.chain.specs.declared.small_settings.SmallSetting.{SmallSetting}
use Rattle.chain.specs.Limits.{program_rules}

-- `param`
abbrev pub param_word : List ℕ
param_word = 112 ∷ 97 ∷ 114 ∷ 97 ∷ 109 ∷ []

-- the setting of the five numbers of a `param` record
abbrev pub from_five : List ℕ → Parameters
from_five xs = parameters (get_or xs 0 0) (get_or xs 1 0) (get_or xs 2 0) (get_or xs 3 0) (get_or xs 4 0)

-- the five numbers that were read, if any, as a setting
unfoldable pub param_setting : Option (List ℕ) → Parameters
param_setting None = from_five []
param_setting (Some xs) = from_five xs

-- the number that refuses the record: 13, then 1 to 6, then 14; 0 where none does
unfoldable pub param_refusal : Option (List ℕ) → ℕ
param_refusal None = 13
param_refusal (Some xs) = first_of (program_rules (from_five xs))

-- the answer for the record: the number that refuses it, or its setting
unfoldable pub opened_of : Option (List ℕ) → Result Setting ℕ
opened_of o = cond (eqb (param_refusal o) 0) (Ok (setting_of (param_setting o))) (Err (param_refusal o))

-- the answer with the setting itself, and with the number of the refusal
abbrev pub opened_as : Result SmallSetting Refusal → Result Setting ℕ
opened_as (Ok s) = Ok s.accepted.setting
opened_as (Err r) = Err (number_of r)
