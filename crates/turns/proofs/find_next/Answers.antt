-- `turns::find_next` meets its contract: each of its four ways out is one of `found`.
use mathlib.Core.Path.{◌≡◌, sym, ◌∙◌, ap}
use mathlib.Core.Bool.{true, false}
use mathlib.Core.List.{List}
use Prim.Native.Nat.{ℕ, ◌-◌}
use native.Mathlib.Omega.{arith}
use Rattle.turns.specs.declared.Turn.{Turn}
use Rattle.turns.specs.Turns.{turn, is_proper, goes_on}
use Rattle.turns.specs.Calls.{Proper}
use Rattle.turns.proofs.Finding.{proper_elim, says-refused, says-group, says_none, turn_on, turn-over, if_some, if_none}
use Rattle.turns.proofs.find_next.Goals as goal
use Rattle.turns.proofs.find_next.Goals.{After-is_proper, Else-goes_on, Else-not-is_proper}

-- what is lent: the weights, the waiting counts and the turn
abbrev w : After-is_proper → List ℕ
w c = c.args.weights.now

abbrev W : After-is_proper → List ℕ
W c = c.args.waiting.now

abbrev t : After-is_proper → Turn
t c = c.args.turn

-- the call is proper
is-proper-so : (c : Else-not-is_proper) → is_proper (w (goal.at.Else-not-is_proper c).After-is_proper) (t (goal.at.Else-not-is_proper c).After-is_proper) ≡ true
is-proper-so c = sym c.is_proper.ensures ∙ c.if-not-is_proper.false

proper : (c : Else-not-is_proper) → Proper (w (goal.at.Else-not-is_proper c).After-is_proper) (t (goal.at.Else-not-is_proper c).After-is_proper)
proper c = proper_elim _ _ (rw (is-proper-so c) tt)

-- its turn is over
over : (c : Else-goes_on) → let a = (goal.at.Else-goes_on c).After-is_proper in goes_on (w a) (W a) (t a) ≡ false
over c = sym c.goes_on.ensures ∙ c.if-goes_on.false

pub returns-then-not-is_proper : goal.returns-then-not-is_proper
returns-then-not-is_proper c =
    let a = (goal.at.returns-then-not-is_proper c).After-is_proper in
    c.with_turn.ensures ∙ says-refused (w a) (W a) (t a) (sym a.is_proper.ensures ∙ c.if-not-is_proper.true)

pub goes_on-requires : goal.goes_on-requires
goes_on-requires c = let s = c in (s.requires.0, s.requires.1, (proper c).group)

pub overflow_add-used : goal.overflow_add-used
overflow_add-used c =
    let e = (goal.at.overflow_add-used c).Else-not-is_proper in
    let p = proper e in
    let most = (p.weights ((t (goal.at.overflow_add-used c).After-is_proper).group - 1) (omega (arith, p.group.0, p.group.1))).1 in
    record { fits = omega (arith, p.used, most) }

pub returns-then-goes_on : goal.returns-then-goes_on
returns-then-goes_on c =
    let e = (goal.at.returns-then-goes_on c).Else-not-is_proper in
    let a = (goal.at.returns-then-goes_on c).After-is_proper in
    let on = sym c.goes_on.ensures ∙ c.if-goes_on.true in
    c.with_turn-then-goes_on.ensures
    ∙ says-group (w a) (W a) (t a) _ _ (is-proper-so e) (turn_on (w a) (W a) (t a) on) (λ z. absurd (omega (arith, z, (proper e).group.0)))

pub next_waiting-requires : goal.next_waiting-requires
next_waiting-requires c = let e = (goal.at.next_waiting-requires c).Else-not-is_proper in (e.requires.1, (proper e).group)

pub returns-in-Some : goal.returns-in-Some
returns-in-Some c =
    let e = (goal.at.returns-in-Some c).Else-not-is_proper in
    let a = (goal.at.returns-in-Some c).After-is_proper in
    let found = if_some _ c.in-Some.next c.in-Some.ensures in
    let next = turn-over (w a) (W a) (t a) (over (goal.at.returns-in-Some c).Else-goes_on) ∙ ap (λ (h : ℕ). turn h 1) found.0 in
    c.with_turn-in-Some.ensures ∙ says-group (w a) (W a) (t a) _ _ (is-proper-so e) next found.1

pub returns-in-None : goal.returns-in-None
returns-in-None c =
    let e = (goal.at.returns-in-None c).Else-not-is_proper in
    let a = (goal.at.returns-in-None c).After-is_proper in
    c.with_turn-in-None.ensures
    ∙ says_none (w a) (W a) (t a) (is-proper-so e) (over (goal.at.returns-in-None c).Else-goes_on) (if_none _ c.in-None.ensures)
