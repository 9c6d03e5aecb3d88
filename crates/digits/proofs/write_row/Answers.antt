-- `digits::write_row` meets its contract: after j turns the blocks of the first j entries are written.
use mathlib.Core.Path.{sym, subst}
use Prim.Native.Nat.{◌+◌, ◌*◌, ◌-◌}
use native.Mathlib.Omega.{arith}
use native.Mathlib.Nat.{zero-mul, mul-le-mul_right}
use lib.IntN.{ℤ, pos, nat_abs}
use lib.ListN.{length, get_or}
use mir.Syntax.{w64}
use mir.Val.{to_z, of_z}
use mir.ValLaws.{to_z-of_z}
use Rattle.integers.proofs.Lists.{filled_none, filled-all}
use Rattle.digits.specs.Bases.{InReach}
use Rattle.digits.proofs.Rows.{digit_at, block-end, row_more}
use Rattle.digits.proofs.write_row.Goals as goal

pub loop-j-init : goal.loop-j-init
loop-j-init c =
    let a = c.args in
    (omega arith, rw (zero-mul a.k) (filled_none (length a.s.now * a.k) (digit_at a.base.b a.k a.s.now) (pos 0) a.row.now c.requires.row_len))

pub overflow_add-end : goal.overflow_add-end
overflow_add-end c = omega (arith, block-end c.loop-j.j _ c.args.k c.loop-j-test.true)

pub slice_bounds-write_digits-end : goal.slice_bounds-write_digits-end
slice_bounds-write_digits-end c = omega (arith, block-end c.loop-j.j _ c.args.k c.loop-j-test.true)

pub write_digits-requires : goal.write_digits-requires
write_digits-requires c =
    let l = c.before.before.before in
    let s = l.before in
    let z = get_or s.args.s.now l.loop-j.j (pos 0) in
    (s.requires.base.0, subst (λ (y : ℤ). InReach s.args.base.b (nat_abs y)) (sym (to_z-of_z w64 z (record { sfits = c.write_digits-arg-1.given }))) (s.requires.base.1 l.loop-j.j))

pub loop-j-preserved : goal.loop-j-preserved
loop-j-preserved c =
    let t = c.before.before.before.before in
    let a = t.args in
    let l = t.loop-j in
    let z = get_or a.s.now l.j (pos 0) in (
      omega arith,
      row_more a.base.b a.k l.j (l.j * a.k + a.k - l.j * a.k) (to_z w64 (of_z w64 z)) a.s.now l.row _ t.loop-j-test.true (omega arith)
          (to_z-of_z w64 z (record { sfits = c.write_digits-arg-1.given })) c.write_digits.ensures l.invariant.1,
    )

pub returns : goal.returns
returns c =
    let a = c.args in
    let l = c.loop-j in
    filled-all (length a.s.now * a.k) (digit_at a.base.b a.k a.s.now) (pos 0) (l.j * a.k) l.row (mul-le-mul_right a.k c.loop-j-test.false) l.invariant.1
