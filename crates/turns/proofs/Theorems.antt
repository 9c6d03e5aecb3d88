-- What is proved of taking turns, for all weights w, waiting counts W and turns t.
use mathlib.Core.Path.{◌≡◌}
use mathlib.Core.Logic.{◌↔◌, ◌⊎◌, ⊎_elim}
use mathlib.Core.List.{List}
use Prim.Native.Nat.{ℕ, suc, ◌+◌, ◌≤◌, ◌<◌}
use native.Mathlib.Omega.{arith}
use lib.ListN.{length, replicate}
use Rattle.groups.specs.Groups.{groups, Group, ◌of◌}
use Rattle.turns.specs.declared.Turn.{Turn}
use Rattle.turns.specs.Turns.{turn, turn_refusal, named, none, refused, one_less, returns, next_fold}
use Rattle.turns.specs.Calls.{Proper, TurnedAway, NobodyWaits, further, others, answers, served_before, Names, KeepsWaiting, counts}
use Rattle.turns.specs.Points.{agreed, everybody}
use Rattle.turns.proofs.Finding.{accepted-proper, proper-accepted}
use Rattle.turns.proofs.Fair.{turn-proper, all_fair, named_or_all, keeps_waiting}
use Rattle.turns.proofs.Answering as answering
use Rattle.turns.proofs.Points as points

module _ (w W : List ℕ) (t : Turn) where
  -- no number is given exactly for proper calls
  pub accepted : (turn_refusal w t ≡ 0) ↔ Proper w t
  accepted = (accepted-proper w t, proper-accepted w t)

  -- 20 exactly for a weight out of range, a turn group outside 1..8, or used folds above its weight
  pub refused_20 : ((next_fold w W t).answer ≡ refused 20) ↔ TurnedAway w t
  refused_20 = answering.refused_20 w W t

  -- there is no other number, and a refusal changes nothing
  pub refused_keeps : (r : ℕ) → (next_fold w W t).answer ≡ refused r → next_fold w W t ≡ returns (refused 20) t W
  refused_keeps = answering.refused_keeps w W t

  -- none is given only if nobody waits, and changes nothing
  pub none_keeps : (next_fold w W t).answer ≡ none → NobodyWaits W × (next_fold w W t ≡ returns none t W)
  none_keeps = answering.none_keeps w W t

  module _ (p : Proper w t) where
    -- and a proper call gives it wherever nobody waits
    pub none-exactly : ((next_fold w W t).answer ≡ none) ↔ NobodyWaits W
    none-exactly = ((λ e. (none_keeps e).0), answering.nobody-none w W t p)

    -- a turn goes on below its weight while its group waits
    pub goes_on : t.used < w of t.group → 0 < W of t.group
        → next_fold w W t ≡ returns (named t.group) (turn t.group (t.used + 1)) (one_less W t.group)
    goes_on = answering.goes_on_lem w W t p

    -- else it passes to the first group that waits in rising order, from 8 to 1
    pub passes_on : (w of t.group ≤ t.used) ⊎ (W of t.group ≡ 0)
        → (n : ℕ) → n < groups → 0 < W of (further (suc n) t.group) → ((i : ℕ) → i < n → W of (further (suc i) t.group) ≡ 0)
        → next_fold w W t ≡ returns (named (further (suc n) t.group)) (turn (further (suc n) t.group) 1) (one_less W (further (suc n) t.group))
    passes_on = answering.passes_on w W t p

    -- the returned turn is not refused while the weights stay
    pub turn-accepted : Proper w (next_fold w W t).turn
    turn-accepted = turn-proper w W t p

module _ (w : List ℕ) (t : Turn) (p : Proper w t) (g : ℕ) (one : Group g) where
  -- a group that keeps waiting sees at most the sum of the others' weights served before it, whatever the counts of the calls are
  pub fair : (Ws : List (List ℕ)) → KeepsWaiting w t g Ws → served_before g (answers w t Ws) ≤ others w g
  fair Ws keeps = all_fair w g one Ws t p keeps

  -- with any new arrivals between calls a group that waits keeps waiting
  pub fair_with_arrivals : (W : List ℕ) → 0 < W of g → (later : List (List ℕ)) → served_before g (answers w t (counts w t W later)) ≤ others w g
  fair_with_arrivals W waiting later = fair (counts w t W later) (keeps_waiting w g one later W t waiting)

  -- and one call more than that names it
  pub named_in_time : (Ws : List (List ℕ)) → KeepsWaiting w t g Ws → others w g < length Ws → Names g (answers w t Ws)
  named_in_time Ws keeps long = ⊎_elim
      (λ (n : Names g (answers w t Ws)). n)
      (λ (e : served_before g (answers w t Ws) ≡ length Ws). absurd (omega (arith, fair Ws keeps, e, long)))
      (named_or_all w g one Ws t p keeps)

-- the bound is met
pub bound-is_met : served_before 1 (answers agreed (turn 1 3) (replicate 27 everybody)) ≡ others agreed 1
bound-is_met = points.bound-is_met
