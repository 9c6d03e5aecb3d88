-- `small_rows::fetch` meets its contract: an entry of at most 32767 in size fits 16 bits, and past the last row there is none.
use mathlib.Core.Path.{sym}
use Prim.Native.Nat.{◌+◌, ◌*◌, ◌<◌}
use native.Mathlib.Omega.{arith}
use native.Mathlib.Nat.{mul-le-mul_right}
use lib.Arith.{digits_lt}
use lib.IntN.{pos}
use lib.ListN.{get_or, get_or-eq_default}
use mir.Syntax.{w16, w64}
use mir.Val.{to_z, of_z}
use Rattle.integers.proofs.Words.{Held, held, read_back}
use Rattle.matrices.specs.Tables.{signed}
use Rattle.small_rows.proofs.fetch.Goals as goal
use Rattle.small_rows.proofs.fetch.Goals.{After-result-1, Then-r-m}

-- the place that is read
cell : (c : Then-r-m) → let a = c.args in a.r * a.n + a.c < a.m * a.n
cell c = digits_lt c.if-r-m.true c.requires.1

pub overflow_mul-result : goal.overflow_mul-result
overflow_mul-result c = omega (arith, cell c, c.requires.0.long)

pub overflow_add-result : goal.overflow_add-result
overflow_add-result c = omega (arith, cell c, c.requires.0.long)

pub offset_bounds-s-r : goal.offset_bounds-s-r
offset_bounds-s-r c = omega (arith, cell c, c.requires.0.long)

pub bounds-s-r : goal.bounds-s-r
bounds-s-r c = omega (arith, cell c, c.requires.0.long)

-- the entry in 16 bits
narrow : (c : After-result-1) →
    let a = c.args in
    let z = signed a.n a.s.now a.r a.c in
    Held w16 (to_z w64 (of_z w64 z)) z
narrow c =
    let s = c.before.before in
    let k = s.args.r * s.args.n + s.args.c in
    let z = get_or s.args.s.now k (pos 0) in
    held w16 (read_back w64 z (omega (arith, s.requires.0.small k))) (omega (arith, s.requires.0.small k))

pub overflow_cast-result : goal.overflow_cast-result
overflow_cast-result c = (narrow c).fits

pub returns-then-r-m : goal.returns-then-r-m
returns-then-r-m c = (narrow c).read

pub returns-else-r-m : goal.returns-else-r-m
returns-else-r-m c =
    let s = c.before in
    sym (get_or-eq_default s.args.s.now (pos 0) (omega (arith, s.requires.0.long, mul-le-mul_right s.args.n c.if-r-m.false)))
