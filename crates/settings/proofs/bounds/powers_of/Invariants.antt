-- `settings::bounds::powers_of` meets its contract. The loop's invariant: the powers below b^p are written, and `power` is the next.
use mathlib.Core.Path.{◌≡◌}
use Prim.Native.Nat.{◌≤◌, ◌^◌}
use Rattle.integers.specs.Lists.{build}
use Rattle.settings.proofs.PowerSteps.{placed}
use Rattle.settings.proofs.bounds.powers_of.Given as goal

abbrev pub invariant-loop-p : goal.invariant-loop-p
invariant-loop-p l = (l.p ≤ l.k) × (l.power ≡ l.b ^ l.p) × (l.powers ≡ build 33 (placed l.b l.p))
