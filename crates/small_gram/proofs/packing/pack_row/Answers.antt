-- `small_gram::packing::pack_row` meets its contract: row base + k of s stands at place k of the first c columns.
use mathlib.Core.Path.{◌≡◌, ◌∙◌}
use Prim.Native.Nat.{◌+◌, ◌*◌, ◌≤◌}
use native.Mathlib.Omega.{arith}
use lib.IntN.{pos, nat_abs}
use lib.ListN.{get_or, length-set}
use mir.Syntax.{w16}
use Rattle.integers.proofs.Words.{Held, held}
use Rattle.matrices.specs.Tables.{signed}
use Rattle.small_rows.proofs.Columns.{columns-more}
use Rattle.small_gram.proofs.packing.pack_row.Goals as goal

pub loop-c-preserved : goal.loop-c-preserved
loop-c-preserved c =
    let l = c in
    let s = c in
    let a = s.args in
    let at = (a.base + a.k) * a.n + l.loop-c.c in
    let small : nat_abs (get_or a.s.now at (pos 0)) ≤ 32767 = s.requires.small_matrix.0.small at in
    let h : Held w16 c.fetch.result (get_or a.s.now at (pos 0)) = held w16 c.fetch.ensures (omega arith) in (
      omega arith,
      length-set l.loop-c.p (l.loop-c.c * 32 + a.k) _ ∙ l.loop-c.invariant.1,
      columns-more 32767 32 a.n (λ i j. signed a.n a.s.now (a.base + i) j) l.loop-c.p a.k l.loop-c.c _
          s.requires.small_matrix.2 c.loop-c-test.true (omega arith) (rw h.read small) h.read l.loop-c.invariant.2,
    )

pub returns : goal.returns
returns c =
    let e : c.loop-c.c ≡ c.args.n = omega arith in
    rw e at c.loop-c.invariant.2
