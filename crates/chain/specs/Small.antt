-- The settings that the program takes.
use Rattle.settings.specs.Settings.{Parameters}
use Rattle.settings.specs.Accepted.{parameters_in}
use Rattle.chain.specs.declared.small_settings.SmallSetting.{SmallSetting}

-- the five numbers of a setting that the program takes
abbrev pub numbers_in : SmallSetting → Parameters
numbers_in s = parameters_in s.accepted
