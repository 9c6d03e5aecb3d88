-- `small_fold::fold_row` meets its contract: the first j numbers are written.
use mathlib.Core.Path.{◌∙◌}
use Prim.Native.Nat.{◌*◌}
use native.Mathlib.Omega.{arith}
use lib.IntN.{pos}
use mir.Syntax.{w64}
use mir.ValLaws.{to_z-of_z}
use Rattle.integers.proofs.Lists.{filled_none, filled_more, filled-all}
use Rattle.dots.specs.Dots.{dots}
use Rattle.small_fold.proofs.fold_row.Goals as goal

pub loop-j-init : goal.loop-j-init
loop-j-init c =
    let a = c.args in
    filled_none a.t (λ j. dots a.p.now a.q.now 0 (j * 512) a.n) (pos 0) a.out.now c.requires.3

pub dot-requires : goal.dot-requires
dot-requires c =
    let s = c in
    (s.requires.0, s.requires.1, omega (arith, c.loop-j-test.true, s.requires.2))

pub loop-j-preserved : goal.loop-j-preserved
loop-j-preserved c =
    let l = c.loop-j in
    let a = c.args in
    filled_more a.t (λ j. dots a.p.now a.q.now 0 (j * 512) a.n) (pos 0) l.j l.out _ (omega arith)
    (to_z-of_z w64 c.dot.result (record { sfits = c.dot.type_inv }) ∙ c.dot.ensures) l.invariant

pub returns : goal.returns
returns c =
    let l = c.loop-j in
    let a = c.args in
    filled-all a.t (λ j. dots a.p.now a.q.now 0 (j * 512) a.n) (pos 0) l.j l.out (omega arith) l.invariant
