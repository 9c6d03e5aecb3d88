-- What the two C functions that give numbers of a setting leave.
use Rattle.std.specs.Prelude.{not, List, [], ◌∷◌, ℕ, ◌+◌, eqb, length, Result, Ok, Err}
use Rattle.settings.specs.declared.Setting.{Setting}
use Rattle.settings.specs.Rules.{Rule, ◌gives◌, first_of}
use Rattle.settings.specs.Settings.{Parameters, places, checked_of}
use Rattle.settings.specs.HouseList.{listed_of}
use Rattle.lova.specs.Answers.{done, refused, Outcome, ends, unless_refused}

-- k, N and the powers of b
abbrev pub worked_out : Setting → List ℕ
worked_out s = s.k ∷ s.columns ∷ s.powers

-- n, m, t, b and B
abbrev pub five_of : Setting → List ℕ
five_of s = s.n ∷ s.m ∷ s.t ∷ s.b ∷ s.bound ∷ []

-- 7 where the slice has not as many places as there are numbers
abbrev pub given_rules : ℕ → List ℕ → List Rule
given_rules size out = (not (eqb (length out) size) gives 7) ∷ []

-- what a call that gives numbers of a checked setting leaves
unfoldable pub given : Result Setting ℕ → ℕ → (Setting → List ℕ) → List ℕ → Outcome (List ℕ)
given (Ok s) size numbers out = unless_refused (first_of (given_rules size out)) out (ends done (numbers s))
given (Err r) size numbers out = ends (refused r) out

-- k, N and the 33 powers of the setting of five numbers
abbrev pub setting_given : Parameters → List ℕ → Outcome (List ℕ)
setting_given p out = given (checked_of p) (2 + places) worked_out out

-- the five numbers of a row of the house list
abbrev pub listed_given : ℕ → List ℕ → Outcome (List ℕ)
listed_given number out = given (listed_of number) 5 five_of out
