-- `small_gram::packing::pack` meets its contract: the first k rows stand in p by columns.
use mathlib.Core.Path.{◌≡◌, refl, ◌∙◌}
use Prim.Native.Nat.{◌+◌, ◌*◌}
use native.Mathlib.Omega.{arith}
use native.Mathlib.Nat.{zero-mul, add-mul, one-mul}
use Rattle.matrices.specs.Tables.{signed}
use Rattle.small_rows.proofs.Columns.{columns-none}
use Rattle.small_gram.proofs.packing.pack.Goals as goal

pub loop-k-init : goal.loop-k-init
loop-k-init c =
    let a = c.args in
    (omega arith, refl, rw (zero-mul a.n) (columns-none 32767 32 a.n (λ i j. signed a.n a.s.now (a.base + i) j) a.p.now c.requires.3))

pub pack_row-requires : goal.pack_row-requires
pack_row-requires c =
    let l = c in
    let s = c in
    record { small_matrix = (s.requires.0, s.requires.1, c.loop-k-test.true, omega (arith, l.loop-k.invariant.1)); columns = l.loop-k.invariant.2 }

pub loop-k-preserved : goal.loop-k-preserved
loop-k-preserved c =
    let l = c in
    let n = l.args.n in
    let e : (l.loop-k.k + 1) * n ≡ l.loop-k.k * n + n = omega (arith, add-mul l.loop-k.k 1 n, one-mul n) in
    (omega arith, c.pack_row.auto.p ∙ l.loop-k.invariant.1, rw e c.pack_row.ensures)

pub returns : goal.returns
returns c =
    let e : c.loop-k.k ≡ 32 = omega arith in
    rw e at c.loop-k.invariant.2
