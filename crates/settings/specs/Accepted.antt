-- Settings that were accepted.
use Rattle.std.specs.Prelude.{ℕ, Result, Ok, Err}
use Rattle.settings.specs.declared.Setting.{Setting}
use Rattle.settings.specs.declared.acceptance.AcceptedSetting.{AcceptedSetting}
use Rattle.settings.specs.declared.refused.Refusal.{Refusal}
use Rattle.settings.specs.Refusals.{number_of}
use Rattle.settings.specs.Settings.{Parameters, parameters_of}

-- an answer with the setting itself, and with the number of the refusal
abbrev pub accepted_as : Result AcceptedSetting Refusal → Result Setting ℕ
accepted_as (Ok a) = Ok a.setting
accepted_as (Err r) = Err (number_of r)

-- the five numbers of a setting that was accepted
abbrev pub parameters_in : AcceptedSetting → Parameters
parameters_in a = parameters_of a.setting
