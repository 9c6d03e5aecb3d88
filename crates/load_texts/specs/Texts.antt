-- What the lines of a load's file are written for, and how much room they take.
use Rattle.std.specs.Prelude.{ℕ}
use Rattle.settings.specs.Settings.{Parameters}
use Rattle.settings.specs.Accepted.{parameters_in}
use Rattle.load_texts.specs.declared.load_settings.LoadSetting.{LoadSetting}

-- the five numbers that a load is drawn for
abbrev pub parameters_for : LoadSetting → Parameters
parameters_for l = parameters_in l.small.accepted

-- the longest line of a file, with its line feed, is that of A: a tab and a numeral take at most 21 bytes
abbrev pub longest_text : ℕ
longest_text = 2690
