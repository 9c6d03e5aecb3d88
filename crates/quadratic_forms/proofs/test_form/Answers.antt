-- `quadratic_forms::test_form` meets its contract: the three tests one after the other.
use mathlib.Core.Path.{◌≡◌, sym, ◌∙◌}
use mathlib.Core.Bool.{true}
use Prim.Native.Nat.{◌+◌, ◌≤◌}
use native.Mathlib.Omega.{arith}
use native.Mathlib.Nat.{mul-le-mul}
use Rattle.integers.specs.Ranges.{within, In}
use Rattle.integers.proofs.Tests.{within_in}
use Rattle.quadratic_forms.specs.Counts.{row_range}
use Rattle.quadratic_forms.proofs.Refusals.{rows-refused, length-refused, entry-refused, none-refused}
use Rattle.quadratic_forms.proofs.test_form.Goals as goal
use Rattle.quadratic_forms.proofs.test_form.Goals.{Else-not-inside}

-- the number of rows is inside its range
rows : (c : Else-not-inside) → within row_range c.args.n ≡ true
rows c = sym c.inside.ensures ∙ c.if-not-inside.false

range : (c : Else-not-inside) → In row_range c.args.n
range c = (within_in row_range c.args.n).0 (rw (rows c) tt)

pub returns-then-not-inside : goal.returns-then-not-inside
returns-then-not-inside c = let a = c.args in rows-refused a.n a.e.now (sym c.inside.ensures ∙ c.if-not-inside.true)

pub overflow_add-n : goal.overflow_add-n
overflow_add-n c = omega (arith, (range c).1)

pub overflow_mul-n : goal.overflow_mul-n
overflow_mul-n c =
    let high : c.args.n + 1 ≤ 13 = omega (arith, (range c).1) in
    record { fits = omega (arith, mul-le-mul (range c).1 high) }

pub returns-then-e-n : goal.returns-then-e-n
returns-then-e-n c = let a = c.args in length-refused a.n a.e.now (rows (goal.at.returns-then-e-n c).Else-not-inside) c.if-e-n.true

pub returns-then-not-entries_within : goal.returns-then-not-entries_within
returns-then-not-entries_within c =
    let l = c in
    let a = l.args in
    entry-refused a.n a.e.now (rows (goal.at.returns-then-not-entries_within c).Else-not-inside) l.if-e-n.false (sym c.entries_within.ensures ∙ c.if-not-entries_within.true)

pub returns : goal.returns
returns c =
    let l = c in
    let a = l.args in
    none-refused a.n a.e.now (rows (goal.at.returns c).Else-not-inside) l.if-e-n.false (sym c.entries_within.ensures ∙ c.if-not-entries_within.false)
