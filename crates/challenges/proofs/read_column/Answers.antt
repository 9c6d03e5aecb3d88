-- `challenges::read_column` meets its contract: the first k numbers are those of the column.
use Prim.Native.Nat.{◌+◌, ◌*◌}
use native.Mathlib.Omega.{arith}
use lib.IntN.{pos}
use lib.ListN.{get_or}
use mir.Syntax.{w16}
use Rattle.integers.proofs.Lists.{filled_more, filled-all}
use Rattle.integers.proofs.Words.{Held, held}
use Rattle.matrices.specs.Tables.{ternary, challenge}
use Rattle.matrices.proofs.Ternary.{ternary-size}
use Rattle.challenges.proofs.read_column.Goals as goal
use Rattle.challenges.proofs.read_column.Goals.{In-loop-k}

pub loop-k-preserved : goal.loop-k-preserved
loop-k-preserved c =
    let a = c.args in
    let v = get_or a.c.now (c.loop-k.k * a.t + a.j) 0 in
    let h : Held w16 c.number.result (ternary v) = held w16 c.number.ensures (omega (arith, ternary-size v)) in
    filled_more a.rows (λ k. challenge a.t a.c.now k a.j) (pos 0) c.loop-k.k c.loop-k.column _ (omega arith) h.read c.loop-k.invariant

pub returns : goal.returns
returns c =
    let l = c.loop-k in
    let a = c.args in
    filled-all a.rows (λ k. challenge a.t a.c.now k a.j) (pos 0) l.k l.column (omega arith) l.invariant
