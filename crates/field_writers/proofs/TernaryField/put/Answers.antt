-- `field_writers::TernaryField::put` meets its contract: a digit, or a minus and a digit.
use mathlib.Core.Path.{refl, ◌∙◌}
use mathlib.Core.List.{[], ◌∷◌}
use native.Mathlib.Omega.{arith}
use Prim.Native.Nat.{◌+◌}
use lib.ListN.{set, length-set}
use Rattle.numerals.proofs.Buffers.{written_one, written_cons}
use Rattle.field_writers.proofs.Ternaries.{below_two, from-two, ternary-short}
use Rattle.field_writers.proofs.TernaryField.put.Goals as goal

pub returns-then-value-lt2-clause-place : goal.returns-then-value-lt2-clause-place
returns-then-value-lt2-clause-place c = rw (below_two c.args.value c.if-value-lt2.true) refl

pub returns-then-value-lt2-clause-bytes : goal.returns-then-value-lt2-clause-bytes
returns-then-value-lt2-clause-bytes c =
    let a = c.args in
    rw (below_two a.value c.if-value-lt2.true) (written_one a.buf.now a.at (48 + a.value) (omega (arith, c.requires)))

pub returns-then-value-lt2-clause-short : goal.returns-then-value-lt2-clause-short
returns-then-value-lt2-clause-short c = omega (arith, ternary-short c.args.value)

pub returns-clause-place : goal.returns-clause-place
returns-clause-place c = rw (from-two c.args.value c.if-value-lt2.false) refl

pub returns-clause-bytes : goal.returns-clause-bytes
returns-clause-bytes c =
    let a = c.args in
    let one = written_one (set a.buf.now a.at 45) (a.at + 1) 49 (rw length-set (omega (arith, c.requires))) in
    rw (from-two a.value c.if-value-lt2.false) (one ∙ written_cons a.buf.now a.at 45 (49 ∷ []) (omega (arith, c.requires)))

pub returns-clause-short : goal.returns-clause-short
returns-clause-short c = omega (arith, ternary-short c.args.value)
