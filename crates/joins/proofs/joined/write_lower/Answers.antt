-- `joins::joined::write_lower` meets its contract: the first i rows are written.
use mathlib.Core.Path.{◌≡◌, sym, ◌∙◌, ap, subst}
use mathlib.Core.List.{List, ◌++◌}
use Prim.Native.Nat.{ℕ, ◌+◌, ◌-◌, ◌*◌, ◌<◌}
use native.Mathlib.Omega.{arith}
use native.Mathlib.Nat.{add-mul}
use lib.IntN.{ℤ, pos}
use lib.ListN.{length, get_or, take, drop}
use Rattle.integers.proofs.Lists.{length-build, get_or-build}
use Rattle.matrices.specs.Tables.{table, signed}
use Rattle.matrices.proofs.Tables.{row_within, TableTo, table-all}
use Rattle.joins.specs.Columns.{column_of}
use Rattle.joins.proofs.Columns.{column-within, room-long, half-long, half_at}
use Rattle.joins.proofs.Halves.{table-half, beside_first, beside-second}
use Rattle.joins.proofs.joined.write_lower.Invariants.{turned, second, joined}
use Rattle.joins.proofs.joined.write_lower.Goals as goal

pub loop-i-preserved : goal.loop-i-preserved
loop-i-preserved c =
    let a = c.args in
    let l = c.loop-i in
    let right = c.right-right.result in
    let place = c.column_of-place in
    let p = l.i * (2 * a.cols) in
    let turn = turned a.profile right a.v.now in
    let other = second a.profile right a.d2.now in
    let whole = joined a.profile a.cols right a.v.now a.d2.now in
    let column : ℕ → ℤ = λ j. signed right a.v.now j place.result in
    let left = take p l.out ++ (c.copy_column.new.out ++ drop (p + a.cols - p) (drop p l.out)) in
    let below : place.result < right = subst (λ (n : ℕ). n < right) (sym place.ensures) (subst (λ (n : ℕ). column_of a.profile l.i < n) (sym c.right-right.ensures) (column-within a.cols a.profile l.i c.loop-i-test.true)) in
    let long : length a.d2.now ≡ right * right = c.requires.1 ∙ ap (λ (n : ℕ). n * n) (sym c.right-right.ensures) in
    let first : TableTo (pos 0) a.cols (2 * a.cols) whole left (p + a.cols) =
    table-half (pos 0) a.cols a.cols whole l.out l.i 0 p c.copy_column.new.out (omega arith) c.loop-i-test.true (omega arith)
    (ap length c.copy_column.ensures ∙ length-build a.cols column)
    (λ j h. ap (λ (xs : List ℤ). get_or xs j (pos 0)) c.copy_column.ensures ∙ get_or-build a.cols column j (pos 0) h
    ∙ ap (λ (x : ℕ). signed right a.v.now j x) place.ensures
    ∙ beside_first a.cols turn other l.i j h)
    l.invariant
    in
    let room : length (take (p + a.cols + a.cols - (p + a.cols)) (drop (p + a.cols) left)) ≡ a.cols = room-long (p + a.cols) a.cols left (omega (arith, first.long, row_within a.cols (2 * a.cols) l.i c.loop-i-test.true)) in
    let next : (l.i + 1) * (2 * a.cols) ≡ p + a.cols + a.cols = omega (arith, add-mul l.i 1 (2 * a.cols)) in
    rw next (table-half (pos 0) a.cols a.cols whole left l.i a.cols (p + a.cols) c.spread.new.out (omega arith) c.loop-i-test.true (omega arith)
    (half-long (pos 0) a.profile right a.cols right place.result a.d2.now c.right-right.ensures long below room c.spread.new.out (c.spread.ensures (pos 0)))
    (λ j h. half_at (pos 0) a.profile right a.cols right place.result a.d2.now c.right-right.ensures long below room c.spread.new.out (c.spread.ensures (pos 0)) j h
    ∙ ap (λ (x : ℕ). signed right a.d2.now x (column_of a.profile j)) place.ensures
    ∙ beside-second a.cols turn other l.i j)
    first)

pub returns : goal.returns
returns c =
    let a = c.args in
    table-all (pos 0) a.cols (2 * a.cols) (joined a.profile a.cols c.right-right.result a.v.now a.d2.now) c.loop-i.out c.loop-i.i (omega arith) c.loop-i.invariant
    ∙ ap (λ (n : ℕ). table a.cols (2 * a.cols) (joined a.profile a.cols n a.v.now a.d2.now)) c.right-right.ensures
