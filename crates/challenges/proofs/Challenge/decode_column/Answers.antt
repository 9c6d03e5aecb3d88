-- `Challenge::decode_column` meets its contract: the first a copies are added up.
use Rattle.std.proofs.Common.{◌≡◌, ◌+◌, ◌*◌, ◌≤◌, length, arith}
use native.Mathlib.Nat.{mul-le-mul}
use Rattle.challenges.proofs.Sums.{copy_within, sums-once, sums-long, sums-within, sums-more}
use Rattle.challenges.proofs.Challenge.decode_column.Goals as goal
use Rattle.challenges.proofs.Challenge.decode_column.Goals.{In-loop-a}

pub read_column-requires : goal.read_column-requires
read_column-requires c =
    let a = c.args.self in
    (omega (arith, a.whole, copy_within a.left a.block a.copies a.columns 0 a.some), c.requires.0, c.requires.1)

pub loop-a-init : goal.loop-a-init
loop-a-init c =
    let a = c.args.self in
    sums-once a.left a.block a.columns c.args.j a.bytes.now (a.left + a.block) _ c.read_column.ensures

-- the rows that a turn adds
rows : (c : In-loop-a) → let a = c.args.self in (a.left + a.block + c.loop-a.a * a.block) * a.columns ≤ length a.bytes.now
rows c =
    let a = c.args.self in
    rw a.whole (copy_within a.left a.block a.copies a.columns c.loop-a.a c.loop-a-test.true)

pub overflow_mul-a : goal.overflow_mul-a
overflow_mul-a c =
    let a = c.args.self in
    let h : 1 ≤ a.columns = omega (arith, c.requires.0) in
    let n = a.left + a.block + c.loop-a.a * a.block in
    let l : n ≤ n = omega arith in
    omega (arith, rows (goal.at.overflow_mul-a c).In-loop-a, mul-le-mul l h)

pub add_rows-requires : goal.add_rows-requires
add_rows-requires c =
    let a = c.args.self in
    let w = c.loop-a.invariant in
    let long : length c.loop-a.column ≡ a.left + a.block = sums-long a.left a.block a.columns c.args.j a.bytes.now c.loop-a.a c.loop-a.column w in (
      omega (arith, long),
      rw long (rows (goal.at.add_rows-requires c).In-loop-a),
      c.requires.0,
      sums-within a.left a.block a.columns c.args.j a.bytes.now c.loop-a.a c.loop-a.column w 15 c.loop-a.auto.a (omega (arith, c.loop-a-test.true, a.few)),
    )

pub loop-a-preserved : goal.loop-a-preserved
loop-a-preserved c =
    let a = c.args.self in
    sums-more a.left a.block a.columns c.args.j a.bytes.now c.loop-a.a c.loop-a.column c.loop-a.invariant _ c.add_rows.ensures

pub returns : goal.returns
returns c =
    let e : c.loop-a.a ≡ c.args.self.copies = omega (arith, c.loop-a.auto.a-end c.args.self.some) in
    rw e at c.loop-a.invariant
