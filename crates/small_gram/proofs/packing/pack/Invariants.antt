-- `small_gram::packing::pack` meets its contract: the first k rows stand in p by columns.
use mathlib.Core.Path.{◌≡◌}
use Prim.Native.Nat.{◌+◌, ◌*◌, ◌≤◌}
use lib.ListN.{length}
use Rattle.matrices.specs.Tables.{signed}
use Rattle.small_rows.specs.Columns.{Columns}
use Rattle.small_gram.proofs.packing.pack.Given as goal

abbrev pub invariant-loop-k : goal.invariant-loop-k
invariant-loop-k l = (l.k ≤ 32) × (length l.p ≡ length l.initial.p) × Columns 32767 32 l.n (λ i j. signed l.n l.s (l.base + i) j) (l.k * l.n) l.p
