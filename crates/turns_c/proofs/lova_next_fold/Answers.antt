-- `turns_c::lova_next_fold` meets its contract: three lengths, then what was found.
use mathlib.Core.Path.{◌≡◌, sym, ap, ◌∙◌}
use Prim.Native.Nat.{◌-◌, ◌<◌}
use native.Mathlib.Omega.{arith}
use lib.ListN.{length, length-set}
use Rattle.std.specs.Prelude.{ℕ, Option, Some, Result, Ok}
use Rattle.settings.specs.declared.refused.Refusal.{Refusal}
use Rattle.settings.specs.Refusals.{numbered}
use Rattle.turns.specs.Turns.{Found, finds, found}
use Rattle.turns.proofs.Finding.{Waiting, found-named}
use Rattle.turns_c.specs.Given.{turn_of}
use Rattle.turns_c.proofs.Giving.{weights_seven, waiting_seven, turn_seven, group-given, none-given, refused-given}
use Rattle.turns_c.proofs.lova_next_fold.Goals as goal
use Rattle.turns_c.proofs.lova_next_fold.Goals.{After-find_next-found, In-Some}

-- what was found, where the case of the answer is known
told : (c : After-find_next-found) (n : Result (Option ℕ) Refusal) → c.find_next-found.result.next ≡ n →
    finds (numbered n) c.find_next-found.result.turn ≡ found c.args.weights.now c.args.waiting.now (turn_of c.args.turn.now)
told c n e = ap (λ (x : Result (Option ℕ) Refusal). finds (numbered x) c.find_next-found.result.turn) (sym e) ∙ c.find_next-found.ensures

found-is : (c : In-Some) → c.find_next-found.result.next ≡ Ok (Some c.in-Some.group)
found-is c = c.in-Ok.is ∙ ap Ok c.in-Some.is

-- the group that is named
named_here : (c : In-Some) → Waiting c.args.waiting.now c.in-Some.group
named_here c = found-named _ _ _ _ (sym (ap (λ (x : Found). x.answer) (told (goal.at.In-Some c).After-find_next-found (Ok (Some c.in-Some.group)) (found-is c))))

place : (c : In-Some) → c.in-Some.group - 1 < length c.args.waiting.now
place c = omega (arith, (named_here c).group.0, (named_here c).group.1, c.if-waiting-ne-GROUPS.false)

pub returns-then-weights-ne-GROUPS : goal.returns-then-weights-ne-GROUPS
returns-then-weights-ne-GROUPS c = rw c.number.ensures (weights_seven _ _ _ c.if-weights-ne-GROUPS.true)

pub returns-then-waiting-ne-GROUPS : goal.returns-then-waiting-ne-GROUPS
returns-then-waiting-ne-GROUPS c = rw c.number-then-waiting-ne-GROUPS.ensures (waiting_seven _ _ _ c.if-weights-ne-GROUPS.false c.if-waiting-ne-GROUPS.true)

pub returns-then-turn-ne2 : goal.returns-then-turn-ne2
returns-then-turn-ne2 c = rw c.number-then-turn-ne2.ensures (turn_seven _ _ _ c.if-weights-ne-GROUPS.false c.if-waiting-ne-GROUPS.false c.if-turn-ne2.true)

pub overflow_sub-waiting : goal.overflow_sub-waiting
overflow_sub-waiting c = (named_here (goal.at.overflow_sub-waiting c).In-Some).group.0

pub bounds-turn-1-in-Some : goal.bounds-turn-1-in-Some
bounds-turn-1-in-Some c = simp length-set (omega (arith, c.if-turn-ne2.false))

pub offset_bounds-waiting-group : goal.offset_bounds-waiting-group
offset_bounds-waiting-group c = record { fits = omega (arith, (named_here (goal.at.offset_bounds-waiting-group c).In-Some).group.1) }

pub bounds-waiting-group : goal.bounds-waiting-group
bounds-waiting-group c = place (goal.at.bounds-waiting-group c).In-Some

pub overflow_sub-waiting-in-Some : goal.overflow_sub-waiting-in-Some
overflow_sub-waiting-in-Some c = (named_here (goal.at.overflow_sub-waiting-in-Some c).In-Some).waiting

pub bounds-waiting-group-in-Some : goal.bounds-waiting-group-in-Some
bounds-waiting-group-in-Some c = place (goal.at.bounds-waiting-group-in-Some c).In-Some

pub returns-in-Some : goal.returns-in-Some
returns-in-Some c =
    group-given _ _ _ c.if-weights-ne-GROUPS.false c.if-waiting-ne-GROUPS.false c.if-turn-ne2.false _ _ (told (goal.at.returns-in-Some c).After-find_next-found _ (found-is (goal.at.returns-in-Some c).In-Some))

pub returns-in-None : goal.returns-in-None
returns-in-None c =
    none-given _ _ _ c.if-weights-ne-GROUPS.false c.if-waiting-ne-GROUPS.false c.if-turn-ne2.false _ (told (goal.at.returns-in-None c).After-find_next-found _ (c.in-Ok.is ∙ ap Ok c.in-None.is))

pub returns-in-Err : goal.returns-in-Err
returns-in-Err c =
    rw c.number-in-Err.ensures
    (refused-given _ _ _ c.if-weights-ne-GROUPS.false c.if-waiting-ne-GROUPS.false c.if-turn-ne2.false _ _ (told (goal.at.returns-in-Err c).After-find_next-found _ c.in-Err.is))
