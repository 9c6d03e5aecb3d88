-- `fold_gram::fold_rows` meets its contract: the first i rows are written, and settled in the first i columns.
use mathlib.Core.Path.{◌≡◌}
use Prim.Native.Nat.{◌*◌, ◌≤◌}
use lib.IntN.{pos}
use lib.ListN.{length}
use Rattle.matrices.proofs.Tables.{TableTo}
use Rattle.small_rows.specs.Columns.{by_columns}
use Rattle.fold_gram.proofs.Settling.{made}
use Rattle.fold_gram.proofs.fold_rows.Given as goal

abbrev pub invariant-loop-i : goal.invariant-loop-i
invariant-loop-i l = (l.i ≤ l.t) × (length l.e ≡ l.n) × TableTo (pos 0) l.t l.t (made l.n (by_columns l.q) l.d l.i) l.out (l.i * l.t)
