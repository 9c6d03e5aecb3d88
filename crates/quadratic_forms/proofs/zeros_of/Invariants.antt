-- `quadratic_forms::zeros_of` meets its contract: the form's first r rows are counted.
use mathlib.Core.Path.{◌≡◌}
use Prim.Native.Nat.{◌≤◌}
use lib.ListN.{length}
use Rattle.matrices.specs.Triangles.{mirrored}
use Rattle.quadratic_forms.specs.Forms.{zeros}
use Rattle.quadratic_forms.proofs.zeros_of.Given as goal

abbrev pub invariant-loop-r : goal.invariant-loop-r
invariant-loop-r l = (1 ≤ l.r) × (l.r ≤ l.n) × (l.total ≡ zeros l.r (mirrored l.e)) × (length l.up ≡ 12)
