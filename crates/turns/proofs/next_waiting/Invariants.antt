-- `turns::next_waiting` meets its contract: after i steps what is left of the search gives the answer.
use mathlib.Core.Path.{◌≡◌}
use Prim.Native.Nat.{◌-◌, ◌≤◌}
use Rattle.groups.specs.Groups.{Group}
use Rattle.turns.specs.Turns.{next_waiting}
use Rattle.turns.proofs.next_waiting.Given as goal

abbrev pub invariant-loop : goal.invariant-loop
invariant-loop l = (l.counter ≤ 8) × Group l.next × (next_waiting 8 l.waiting l.group ≡ next_waiting (8 - l.counter) l.waiting l.next)
