-- Every point of the table holds, and the bound is met: by computing.
use mathlib.Core.Path.{◌≡◌, refl}
use mathlib.Core.List.{map}
use lib.ListN.{replicate}
use Rattle.integers.specs.Tests.{all}
use Rattle.integers.specs.Sums.{sum_ℕ}
use Rattle.settings.specs.Rules.{first_of}
use Rattle.turns.specs.Turns.{turn, turn_refusal, next_waiting, goes_on, next_turn, found_by, found, counts_after, next_fold}
use Rattle.turns.specs.Calls.{others, answers, served_before}
use Rattle.turns.specs.Points.{Point, agreed, everybody, points}

pub every-point : map (λ (p : Point). next_fold p.weights p.waiting p.turn) points ≡ map (λ (p : Point). p.outcome) points
unfolding all first_of turn_refusal next_waiting goes_on next_turn found_by found counts_after
every-point = refl

-- while everybody waits, all the others' weights are served before the first group's next fold
pub bound-is_met : served_before 1 (answers agreed (turn 1 3) (replicate 27 everybody)) ≡ others agreed 1
unfolding all sum_ℕ first_of turn_refusal next_waiting goes_on next_turn found_by found counts_after answers served_before
bound-is_met = refl
