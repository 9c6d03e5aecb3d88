-- `settings::bounds::repunit_of` meets its contract. The loop's invariant: `r` is the repunit of the places passed.
use mathlib.Core.Path.{◌≡◌}
use Prim.Native.Nat.{◌≤◌, ◌-◌, ◌+◌, ◌*◌, ◌^◌}
use Rattle.settings.proofs.bounds.repunit_of.Given as goal

abbrev pub invariant-loop-p : goal.invariant-loop-p
invariant-loop-p l = (l._p ≤ l.k) × (l.r * (l.b - 1) + 1 ≡ l.b ^ l._p)
