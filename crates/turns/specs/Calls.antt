-- Calls one after the other: the weights stay, and each call gets the turn that the last one returned.
use Rattle.std.specs.Prelude.{◌≡◌, ◌≢◌, ◌⊎◌, cond, List, [], ◌∷◌, ℕ, zero, suc, ◌+◌, ◌<◌, ◌≤◌, eqb, get_or, Some, None, Ok, Err}
use Rattle.integers.specs.Sums.{sum_ℕ}
use Rattle.integers.specs.Ranges.{In}
use Rattle.groups.specs.Groups.{groups, Group, ◌of◌}
use Rattle.turns.specs.declared.Turn.{Turn}
use Rattle.turns.specs.Turns.{weight_range, after, Meaning, named, next_fold}

-- a proper call: each weight is 1 to 16, the turn's group is 1 to 8, and its used folds are at most its weight
pub record Proper (w : List ℕ) (t : Turn) : Type 0 where
  pub weights : (i : ℕ) → i < groups → In weight_range (get_or w i 0)
  pub group : Group t.group
  pub used : t.used ≤ w of t.group

-- what a call is turned away for: a weight out of range, a turn group outside 1..8, or used folds above its weight
abbrev pub TurnedAway : List ℕ → Turn → Type 0
TurnedAway w t = ((i : ℕ) × (i < groups) × (In weight_range (get_or w i 0) → ⊥)) ⊎ ((Group t.group → ⊥) ⊎ (w of t.group < t.used))

-- nobody waits
abbrev pub NobodyWaits : List ℕ → Type 0
NobodyWaits W = (g : ℕ) → Group g → W of g ≡ 0

-- the group n places after g, in rising order, from 8 to 1
unfoldable pub further : ℕ → ℕ → ℕ
further zero g = g
further (suc n) g = further n (after g)

-- the sum of the others' weights
abbrev pub others : List ℕ → ℕ → ℕ
others w g = sum_ℕ groups (λ i. cond (eqb (i + 1) g) 0 (get_or w i 0))

-- what calls with these waiting counts answer, one after the other
unfoldable pub answers : List ℕ → Turn → List (List ℕ) → List Meaning
answers w t [] = []
answers w t (W ∷ Ws) = (next_fold w W t).answer ∷ answers w (next_fold w W t).turn Ws

-- how many folds of others are served before the first of group g
unfoldable pub served_before : ℕ → List Meaning → ℕ
served_before g [] = 0
served_before g (Ok (Some h) ∷ rest) = cond (eqb h g) 0 (suc (served_before g rest))
served_before g (Ok None ∷ rest) = served_before g rest
served_before g (Err r ∷ rest) = served_before g rest

-- one of the answers names group g
abbrev pub Names : ℕ → List Meaning → Type 0
Names g [] = ⊥
Names g (a ∷ rest) = (a ≡ named g) ⊎ Names g rest

-- each of the calls finds a fold of group g waiting, up to the one that names g
abbrev pub KeepsWaiting : List ℕ → Turn → ℕ → List (List ℕ) → Type 0
KeepsWaiting w t g [] = Unit {0}
KeepsWaiting w t g (W ∷ Ws) = (0 < W of g) × ((next_fold w W t).answer ≢ named g → KeepsWaiting w (next_fold w W t).turn g Ws)

-- waiting counts with what has arrived
unfoldable pub arrived : List ℕ → List ℕ → List ℕ
arrived [] more = []
arrived (x ∷ xs) [] = x ∷ xs
arrived (x ∷ xs) (a ∷ more) = (x + a) ∷ arrived xs more

-- the counts of a call, and of one more after each of the arrivals: what the last call returned, with what has arrived since
unfoldable pub counts : List ℕ → Turn → List ℕ → List (List ℕ) → List (List ℕ)
counts w t W [] = W ∷ []
counts w t W (a ∷ later) = W ∷ counts w (next_fold w W t).turn (arrived (next_fold w W t).waiting a) later
