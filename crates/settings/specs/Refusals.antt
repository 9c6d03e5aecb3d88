-- The numbers of the refusals.
use Rattle.std.specs.Prelude.{ℕ, Result, Ok, Err}
use Rattle.settings.specs.declared.refused.Refusal.{Refusal}
use Rattle.settings.specs.declared.refused.Refusal.TheVariants as Refusals

-- the number of a refusal in documents 01 and 02
abbrev pub number_of : Refusal → ℕ
number_of Refusals.Sizes = 1
number_of Refusals.Base = 2
number_of Refusals.Bound = 3
number_of Refusals.Columns = 4
number_of Refusals.Growth = 5
number_of Refusals.Width = 6
number_of Refusals.Lengths = 7
number_of Refusals.LongColumn = 8
number_of Refusals.Challenge = 9
number_of Refusals.LargeProduct = 10
number_of Refusals.LargeDigit = 11
number_of Refusals.NotListed = 12
number_of Refusals.BadLine = 13
number_of Refusals.LargeSetting = 14
number_of Refusals.Leaves = 15
number_of Refusals.OtherDigits = 16
number_of Refusals.Turn = 20
number_of Refusals.Rows = 24
number_of Refusals.LargeEntry = 25

-- the number of the refusal in an answer; 0 in one that is none
abbrev pub number_in : {X : Type 0} → Result X Refusal → ℕ
number_in (Ok x) = 0
number_in (Err r) = number_of r

-- an answer with the number of the refusal in its place
abbrev pub numbered : {X : Type 0} → Result X Refusal → Result X ℕ
numbered (Ok x) = Ok x
numbered (Err r) = Err (number_of r)
