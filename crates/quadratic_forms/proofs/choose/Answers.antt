-- `quadratic_forms::choose` meets its contract: the first j linear terms are written.
use mathlib.Core.Path.{sym, ap, ◌∙◌}
use Prim.Native.Nat.{◌+◌, ◌≤◌}
use native.Mathlib.Omega.{arith}
use native.Mathlib.Nat.{mul-le-mul}
use lib.IntN.{ℤ, pos}
use mir.Syntax.{w64}
use mir.Val.{to_z, of_z}
use Rattle.integers.proofs.Lists.{filled_none, filled_more}
use Rattle.integers.proofs.Words.{read_back}
use Rattle.quadratic_forms.specs.Search.{terms_of, after_choice}
use Rattle.quadratic_forms.proofs.InWords.{doubled-held, signed-held, made_held, made_chosen}
use Rattle.quadratic_forms.proofs.choose.Goals as goal

pub overflow_mul-start : goal.overflow_mul-start
overflow_mul-start c =
    let low : c.args.r ≤ 11 = omega (arith, c.requires.1.most) in
    let high : c.args.r + 1 ≤ 12 = omega (arith, low) in
    record { fits = omega (arith, mul-le-mul low high) }

pub loop-j-init : goal.loop-j-init
loop-j-init c = (omega arith, filled_none 12 _ (pos 0) _ c.requires.2)

pub overflow_mul-chosen : goal.overflow_mul-chosen
overflow_mul-chosen c = (doubled-held _ _ c.args.linear.now c.requires.1 c.loop-j.j c.loop-j-test.true).fits

pub overflow_mul-chosen-in-loop-j : goal.overflow_mul-chosen-in-loop-j
overflow_mul-chosen-in-loop-j c = (signed-held _ _ c.args.linear.now c.requires.1 c.loop-j.j c.loop-j-test.true c.args.c c.requires.0).fits

pub overflow_add-chosen-in-loop-j : goal.overflow_add-chosen-in-loop-j
overflow_add-chosen-in-loop-j c = (made_held _ _ c.args.linear.now c.requires.1 c.loop-j.j c.loop-j-test.true c.args.c c.requires.0).fits

pub loop-j-preserved : goal.loop-j-preserved
loop-j-preserved c =
    let l = c.loop-j in
    let a = c.args in (
      omega (arith, c.loop-j-test.true),
      filled_more 12 (after_choice a.e.now a.r (to_z w64 (of_z w64 a.c)) (terms_of a.linear.now)) (pos 0) l.j l.chosen _
          (omega (arith, c.loop-j-test.true, c.requires.1.most))
          (made_chosen a.e.now a.r a.linear.now c.requires.1 l.j c.loop-j-test.true a.c c.requires.0) l.invariant.1,
    )

pub shape_of-chosen : goal.shape_of-chosen
shape_of-chosen c = c.loop-j.invariant.1.long ∙ sym c.requires.2

pub returns : goal.returns
returns c =
    let l = c.loop-j in
    let a = c.args in
    λ j h. l.invariant.1.right j (omega (arith, c.loop-j-test.false, h))
    ∙ ap (λ (x : ℤ). after_choice a.e.now a.r x (terms_of a.linear.now) j) (read_back w64 a.c (omega (arith, c.requires.0)))
