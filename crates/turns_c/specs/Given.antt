-- What `lova_next_fold` leaves.
use Rattle.std.specs.Prelude.{Bool, cond, ◌&&◌, List, [], ◌∷◌, ℕ, eqb, length, get_or, Some, None, Ok, Err}
use Rattle.groups.specs.Groups.{groups}
use Rattle.turns.specs.declared.Turn.{Turn}
use Rattle.turns.specs.Turns.{turn, Meaning, Outcome, next_fold}
use Rattle.codes.specs.Codes.{Returned, returned}

-- 0 where a group is named, 104 for none, and a refusal's own number
unfoldable pub code_of : Meaning → ℕ
code_of (Ok (Some g)) = 0
code_of (Ok None) = 104
code_of (Err r) = r

-- what a caller lends to be written: the waiting counts, and the turn as two numbers, its group and the folds used in it
pub record Lent : Type 0 where
  pub waiting : List ℕ
  pub turn : List ℕ

abbrev pub lent : List ℕ → List ℕ → Lent
lent W t = record { waiting = W; turn = t }

abbrev pub turn_of : List ℕ → Turn
turn_of xs = turn (get_or xs 0 0) (get_or xs 1 0)

abbrev pub numbers_of : Turn → List ℕ
numbers_of t = t.group ∷ t.used ∷ []

-- whether there are eight weights and eight counts, and the turn has two numbers
abbrev pub fits : List ℕ → Lent → Bool
fits w x = eqb (length w) groups && eqb (length x.waiting) groups && eqb (length x.turn) 2

-- an outcome, with its answer as a code
abbrev pub coded : Outcome → Returned Lent
coded o = returned (code_of o.answer) (lent o.waiting (numbers_of o.turn))

-- 7 for another length, with all as it was; else what the next fold returns for what is lent
unfoldable pub next_given : List ℕ → Lent → Returned Lent
next_given w x = cond (fits w x) (coded (next_fold w x.waiting (turn_of x.turn))) (returned 7 x)
