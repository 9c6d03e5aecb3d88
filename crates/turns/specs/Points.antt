-- Points of request 10, as one table.
use Rattle.std.specs.Prelude.{List, [], ◌∷◌, ℕ, replicate}
use Rattle.groups.specs.Groups.{groups}
use Rattle.turns.specs.declared.Turn.{Turn}
use Rattle.turns.specs.Turns.{turn, named, none, refused, Outcome, returns}

-- a call, and what it returns
pub record Point : Type 0 where
  pub weights : List ℕ
  pub waiting : List ℕ
  pub turn : Turn
  pub outcome : Outcome

abbrev pub point : List ℕ → List ℕ → Turn → Outcome → Point
point w W t o = record { weights = w; waiting = W; turn = t; outcome = o }

-- weights whose sum is 29
abbrev pub agreed : List ℕ
agreed = 3 ∷ 1 ∷ 2 ∷ 16 ∷ 1 ∷ 1 ∷ 4 ∷ 1 ∷ []

-- everybody waits with nine folds, and nobody waits
abbrev pub everybody : List ℕ
everybody = replicate groups 9

abbrev pub nobody : List ℕ
nobody = replicate groups 0

-- group 3 alone waits
abbrev pub third : ℕ → List ℕ
third folds = 0 ∷ 0 ∷ folds ∷ 0 ∷ 0 ∷ 0 ∷ 0 ∷ 0 ∷ []

-- turned away, with all as it came
abbrev pub away : List ℕ → List ℕ → Turn → Point
away w W t = point w W t (returns (refused 20) t W)

abbrev pub points : List Point
points =
    -- a turn goes on, from its first fold to its last
    point agreed everybody (turn 4 0) (returns (named 4) (turn 4 1) (9 ∷ 9 ∷ 9 ∷ 8 ∷ 9 ∷ 9 ∷ 9 ∷ 9 ∷ []))
    ∷ point agreed everybody (turn 4 15) (returns (named 4) (turn 4 16) (9 ∷ 9 ∷ 9 ∷ 8 ∷ 9 ∷ 9 ∷ 9 ∷ 9 ∷ []))
    -- at its weight it passes on, from 8 to 1, and past groups that do not wait
    ∷ point agreed everybody (turn 1 3) (returns (named 2) (turn 2 1) (9 ∷ 8 ∷ 9 ∷ 9 ∷ 9 ∷ 9 ∷ 9 ∷ 9 ∷ []))
    ∷ point agreed everybody (turn 8 1) (returns (named 1) (turn 1 1) (8 ∷ 9 ∷ 9 ∷ 9 ∷ 9 ∷ 9 ∷ 9 ∷ 9 ∷ []))
    ∷ point agreed (third 4294967295) (turn 4 16) (returns (named 3) (turn 3 1) (third 4294967294))
    -- before its weight it passes on when its group has none waiting
    ∷ point agreed (third 1) (turn 4 1) (returns (named 3) (turn 3 1) (third 0))
    -- it comes round to its own group
    ∷ point agreed (third 5) (turn 3 2) (returns (named 3) (turn 3 1) (third 4))
    -- nobody waits
    ∷ point agreed nobody (turn 3 1) (returns none (turn 3 1) nobody)
    -- a weight out of range, a turn group outside 1..8, used folds above its weight, whoever waits
    ∷ away (0 ∷ 1 ∷ 2 ∷ 16 ∷ 1 ∷ 1 ∷ 4 ∷ 1 ∷ []) everybody (turn 2 0)
    ∷ away (3 ∷ 1 ∷ 2 ∷ 16 ∷ 1 ∷ 1 ∷ 4 ∷ 17 ∷ []) everybody (turn 2 0)
    ∷ away agreed everybody (turn 0 0)
    ∷ away agreed everybody (turn 9 0)
    ∷ away agreed everybody (turn 1 4)
    ∷ away agreed nobody (turn 1 4)
    ∷ []
