-- `small_gram::packed_gram` meets its contract: `out` holds the Gram matrix of the first `base` rows.
use mathlib.Core.Path.{◌≡◌}
use Prim.Native.Nat.{◌+◌, ◌<◌}
use lib.ListN.{length}
use Rattle.matrices.specs.Matrices.{gram}
use Rattle.matrices.specs.Tables.{signed}
use Rattle.matrices.specs.Triangles.{lower}
use Rattle.small_rows.specs.Small.{Within}
use Rattle.small_gram.proofs.packed_gram.Given as goal

abbrev pub invariant-loop-base : goal.invariant-loop-base
invariant-loop-base l = (l.base < l.m + 32) × (length l.p ≡ 16384) × Within 32767 l.p × (l.out ≡ lower l.cols (gram l.base (signed l.cols l.s)))
