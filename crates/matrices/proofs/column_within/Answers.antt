-- `matrices::column_within` meets its contract: the squares of the first k entries and what is left sum to the bound.
use Rattle.std.proofs.Common.{◌≡◌, ◌+◌, ◌*◌, ◌<◌, ℤ, nat_abs, ap, arith, w64, SFits, to_z, of_z, rules}
use lib.Arith.{digits_lt}
use mir.ValLaws.{to_z-of_z}
use Rattle.matrices.specs.Tables.{signed}
use Rattle.matrices.proofs.Lengths.{none-taken, one-taken, too_long, all-taken}
use Rattle.matrices.proofs.column_within.Invariants.{squares}
use Rattle.matrices.proofs.column_within.Goals as goal
use Rattle.matrices.proofs.column_within.Goals.{At-loop-k, In-loop-k}

pub loop-k-init : goal.loop-k-init
loop-k-init c =
    let a = c.args in
    (search rules, none-taken a.rows (squares a.cols a.s.now a.j) a.bound)

-- the place of s that a turn reads is within s
within : (c : In-loop-k) →
    let a = c.args in
    c.loop-k.k * a.cols + a.j < a.rows * a.cols
within c = digits_lt c.loop-k-test.true c.requires.1

pub overflow_mul-k : goal.overflow_mul-k
overflow_mul-k c = omega (arith, within c)

pub overflow_add-k : goal.overflow_add-k
overflow_add-k c = omega (arith, within c)

pub offset_bounds-s-k : goal.offset_bounds-s-k
offset_bounds-s-k c = omega (arith, within c)

pub bounds-s-k : goal.bounds-s-k
bounds-s-k c = omega (arith, within c)

-- the entry that a turn reads, and its square
abbrev read : At-loop-k → ℤ
read l = to_z w64 (of_z w64 (signed l.args.cols l.args.s.now l.loop-k.k l.args.j))

square-is : (l : At-loop-k) → SFits w64 (signed l.args.cols l.args.s.now l.loop-k.k l.args.j)
    → nat_abs (read l) * nat_abs (read l) ≡ squares l.args.cols l.args.s.now l.args.j l.loop-k.k
square-is l fits = ap (λ (z : ℤ). nat_abs z * nat_abs z) (to_z-of_z w64 (signed l.args.cols l.args.s.now l.loop-k.k l.args.j) fits)

pub returns-in_default : goal.returns-in_default
returns-in_default c =
    let l = (goal.at.returns-in_default c).At-loop-k in
    let a = c.args in
    too_long a.rows (squares a.cols a.s.now a.j) a.bound c.loop-k.k c.loop-k.left (read l) c.take_square.result c.loop-k.invariant.1
    (square-is l (record { sfits = c.take_square-arg-1.given })) c.take_square.ensures (omega arith) c.in_default.is

pub loop-k-preserved : goal.loop-k-preserved
loop-k-preserved c =
    let l = (goal.at.loop-k-preserved c).At-loop-k in
    let a = c.args in (
      omega arith,
      one-taken a.rows (squares a.cols a.s.now a.j) a.bound c.loop-k.k c.loop-k.left (read l) c.take_square.result c.loop-k.invariant.1
          (square-is l (record { sfits = c.take_square-arg-1.given })) c.take_square.ensures c.in-Some.rest c.in-Some.is,
    )

pub returns : goal.returns
returns c =
    let a = c.args in
    all-taken a.rows (squares a.cols a.s.now a.j) a.bound c.loop-k.k c.loop-k.left (omega arith) c.loop-k.invariant.1
