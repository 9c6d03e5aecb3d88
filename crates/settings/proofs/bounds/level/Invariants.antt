-- `settings::bounds::level` meets its contract. The loop's invariant: `power` is b^(2l), at most B and above l.
use mathlib.Core.Path.{◌≡◌}
use Prim.Native.Nat.{◌≤◌, ◌<◌, ◌-◌, ◌*◌, ◌^◌}
use Rattle.settings.proofs.bounds.level.Given as goal

abbrev pub invariant-loop-power : goal.invariant-loop-power
invariant-loop-power l = (l.power ≡ l.b ^ (2 * l.l)) × (l.power ≤ l.bound) × (l.l < l.power)

abbrev pub decreases-loop-power : goal.decreases-loop-power
decreases-loop-power l = l.bound - l.power
