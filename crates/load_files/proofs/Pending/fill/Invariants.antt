-- `Pending::fill` meets its contract: what stands in the buffer and what is still to come is what was to come.
use mathlib.Core.Path.{◌≡◌}
use mathlib.Core.List.{◌++◌}
use Prim.Native.Nat.{◌-◌, ◌≤◌}
use lib.ListN.{length, take}
use Rattle.load_files.specs.Pending.{to_come}
use Rattle.load_files.proofs.Pending.fill.Given as goal

abbrev pub invariant-loop-at : goal.invariant-loop-at
invariant-loop-at l = (l.at ≤ length l.out) × (take l.at l.out ++ to_come l.self ≡ to_come l.initial.self)

abbrev pub decreases-loop-at : goal.decreases-loop-at
decreases-loop-at l = length l.initial.out - l.at
