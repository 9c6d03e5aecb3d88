-- Document 02, request 10: taking turns on the machine.
use Rattle.std.specs.Prelude.{Bool, not, cond, ◌&&◌, List, [], ◌∷◌, ℕ, zero, suc, ◌+◌, ◌-◌, ◌%◌, leb, ltb, eqb, get_or, set, Option, Some, None, Result, Ok, Err}
use Rattle.integers.specs.Tests.{all}
use Rattle.integers.specs.Ranges.{Range, ◌to◌, within}
use Rattle.settings.specs.Rules.{Rule, ◌gives◌, first_of}
use Rattle.groups.specs.Groups.{groups, is_group, ◌of◌}
use Rattle.turns.specs.declared.Turn.{Turn}

-- a turn: its group, and the folds used in it
abbrev pub turn : ℕ → ℕ → Turn
turn group used = record { group = group; used = used }

-- weights are 1 to 16
abbrev pub weight_range : Range
weight_range = 1 to 16

-- whether each of the eight weights is in its range
abbrev pub weights_inside : List ℕ → Bool
weights_inside w = all groups (λ i. within weight_range (get_or w i 0))

-- whether a call is proper: its weights, the turn's group, and the used folds, which are at most that group's weight
abbrev pub is_proper : List ℕ → Turn → Bool
is_proper w t = weights_inside w && is_group t.group && leb t.used (w of t.group)

-- 20 for a weight out of range, a turn group outside 1..8, or used folds above its weight
abbrev pub turn_rules : List ℕ → Turn → List Rule
turn_rules w t = (not (is_proper w t) gives 20) ∷ []

-- 20, or 0 where the call is not refused
unfoldable pub turn_refusal : List ℕ → Turn → ℕ
turn_refusal w t = first_of (turn_rules w t)

-- whether a group has a fold waiting
abbrev pub waits : List ℕ → ℕ → Bool
waits W g = ltb 0 (W of g)

-- the group after g: rising, from 8 to 1
abbrev pub after : ℕ → ℕ
after g = g % groups + 1

-- the first of the n groups after g that has a fold waiting; 0 where none has
unfoldable pub next_waiting : ℕ → List ℕ → ℕ → ℕ
next_waiting zero W g = 0
next_waiting (suc n) W g = cond (waits W (after g)) (after g) (next_waiting n W (after g))

-- a group that was found, for the code's answer
abbrev pub if_any : ℕ → Option ℕ
if_any zero = None
if_any (suc g) = Some (suc g)

-- whether the turn goes on: it ends at its weight or when its group has none waiting
unfoldable pub goes_on : List ℕ → List ℕ → Turn → Bool
goes_on w W t = ltb t.used (w of t.group) && waits W t.group

-- the turn that the next fold belongs to, this fold counted; its group is 0 where nobody waits
unfoldable pub next_turn : List ℕ → List ℕ → Turn → Turn
next_turn w W t = cond (goes_on w W t) (turn t.group (t.used + 1)) (turn (next_waiting groups W t.group) 1)

-- what an answer says: the next fold's group, if anybody's, or a refusal's number
abbrev pub Meaning : Type 0
Meaning = Result (Option ℕ) ℕ

abbrev pub named : ℕ → Meaning
named g = Ok (Some g)

abbrev pub none : Meaning
none = Ok None

abbrev pub refused : ℕ → Meaning
refused r = Err r

-- an answer, and the turn that is returned with it
pub record Found : Type 0 where
  pub answer : Meaning
  pub turn : Turn

abbrev pub finds : Meaning → Turn → Found
finds a t = record { answer = a; turn = t }

-- what follows from the next turn: its group is named; where nobody waits it is none, with the turn as it came
unfoldable pub found_by : Turn → Turn → Found
found_by t next = cond (eqb next.group 0) (finds none t) (finds (named next.group) next)

-- whose fold is next; a refusal returns the turn as it came
unfoldable pub found : List ℕ → List ℕ → Turn → Found
found w W t = cond (eqb (turn_refusal w t) 0) (found_by t (next_turn w W t)) (finds (refused (turn_refusal w t)) t)

-- the waiting counts, one less for a group
abbrev pub one_less : List ℕ → ℕ → List ℕ
one_less W g = set W (g - 1) (W of g - 1)

-- the waiting counts after an answer: one less for the group that it names
unfoldable pub counts_after : Meaning → List ℕ → List ℕ
counts_after (Ok (Some g)) W = one_less W g
counts_after (Ok None) W = W
counts_after (Err r) W = W

-- what a call returns: its answer, the turn and the waiting counts
pub record Outcome : Type 0 where
  pub answer : Meaning
  pub turn : Turn
  pub waiting : List ℕ

abbrev pub returns : Meaning → Turn → List ℕ → Outcome
returns a t W = record { answer = a; turn = t; waiting = W }

-- the next fold: whose it is, the turn with this fold counted, and the waiting counts
abbrev pub next_fold : List ℕ → List ℕ → Turn → Outcome
next_fold w W t = returns (found w W t).answer (found w W t).turn (counts_after (found w W t).answer W)
