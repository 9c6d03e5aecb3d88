-- `small_gram::packing::pack_row` meets its contract: row base + k of s stands at place k of the first c columns.
use mathlib.Core.Path.{◌≡◌}
use Prim.Native.Nat.{◌+◌, ◌*◌, ◌≤◌}
use lib.ListN.{length}
use Rattle.matrices.specs.Tables.{signed}
use Rattle.small_rows.specs.Columns.{Columns}
use Rattle.small_gram.proofs.packing.pack_row.Given as goal

abbrev pub invariant-loop-c : goal.invariant-loop-c
invariant-loop-c l = (l.c ≤ l.n) × (length l.p ≡ length l.initial.p) × Columns 32767 32 l.n (λ i j. signed l.n l.s (l.base + i) j) (l.k * l.n + l.c) l.p
