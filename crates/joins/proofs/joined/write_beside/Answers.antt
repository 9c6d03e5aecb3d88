-- `joins::joined::write_beside` meets its contract: the first i rows are written.
use mathlib.Core.Path.{◌≡◌, sym, ◌∙◌, ap}
use mathlib.Core.List.{List, ◌++◌}
use Prim.Native.Nat.{ℕ, ◌+◌, ◌-◌, ◌*◌}
use native.Mathlib.Omega.{arith}
use native.Mathlib.Nat.{add-mul}
use lib.ListN.{length, get_or, take, drop}
use Rattle.matrices.specs.Tables.{entry, table}
use Rattle.matrices.proofs.Tables.{row_within, row_at, row-long, TableTo, table-all}
use Rattle.joins.specs.Columns.{halves}
use Rattle.joins.proofs.Columns.{room-long, half-long, half_at}
use Rattle.joins.proofs.Halves.{table-half, halves_first, halves-second}
use Rattle.joins.proofs.joined.write_beside.Goals as goal

pub loop-i-preserved : goal.loop-i-preserved
loop-i-preserved g c d =
    let a = c.args in
    let l = c.loop-i in
    let right = c.right-right.result in
    let X = entry d a.cols a.x.now in
    let Y = entry d right a.y.now in
    let whole = halves a.profile a.cols X Y in
    let p = l.i * (2 * a.cols) in
    let left = take p l.out ++ (c.copy.new.to ++ drop (p + a.cols - p) (drop p l.out)) in
    let long : length a.y.now ≡ a.rows * right = c.requires.1 ∙ ap (λ (n : ℕ). a.rows * n) (sym c.right-right.ensures) in
    let first : TableTo d a.rows (2 * a.cols) whole left (p + a.cols) =
    table-half d a.rows a.cols whole l.out l.i 0 p c.copy.new.to (omega arith) c.loop-i-test.true (omega arith)
    (ap length c.copy.ensures ∙ row-long a.rows a.cols l.i a.x.now c.requires.0 c.loop-i-test.true)
    (λ j h. ap (λ (xs : List _). get_or xs j d) c.copy.ensures ∙ row_at d a.cols l.i a.x.now j h ∙ halves_first a.profile a.cols X Y l.i j h)
    (l.invariant d)
    in
    let room : length (take (p + a.cols + a.cols - (p + a.cols)) (drop (p + a.cols) left)) ≡ a.cols = room-long (p + a.cols) a.cols left (omega (arith, first.long, row_within a.rows (2 * a.cols) l.i c.loop-i-test.true)) in
    let next : (l.i + 1) * (2 * a.cols) ≡ p + a.cols + a.cols = omega (arith, add-mul l.i 1 (2 * a.cols)) in
    rw next (table-half d a.rows a.cols whole left l.i a.cols (p + a.cols) c.spread.new.out (omega arith) c.loop-i-test.true (omega arith)
    (half-long d a.profile a.rows a.cols right l.i a.y.now c.right-right.ensures long c.loop-i-test.true room c.spread.new.out (c.spread.ensures d))
    (λ j h. half_at d a.profile a.rows a.cols right l.i a.y.now c.right-right.ensures long c.loop-i-test.true room c.spread.new.out (c.spread.ensures d) j h
    ∙ halves-second a.profile a.cols X Y l.i j)
    first)

pub returns : goal.returns
returns g c d =
    let a = c.args in
    let whole = λ (n : ℕ). halves a.profile a.cols (entry d a.cols a.x.now) (entry d n a.y.now) in
    table-all d a.rows (2 * a.cols) (whole c.right-right.result) c.loop-i.out c.loop-i.i (omega arith) (c.loop-i.invariant d)
    ∙ ap (λ (n : ℕ). table a.rows (2 * a.cols) (whole n)) c.right-right.ensures
