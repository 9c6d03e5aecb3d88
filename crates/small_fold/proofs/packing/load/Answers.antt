-- `small_fold::packing::load` meets its contract: the first k numbers are those of row r.
use mathlib.Core.Path.{◌∙◌}
use native.Mathlib.Omega.{arith}
use lib.IntN.{pos}
use mir.Syntax.{w16}
use mir.ValLaws.{to_z-of_z}
use Rattle.integers.proofs.Lists.{filled_none, filled_more, filled-all}
use Rattle.matrices.specs.Tables.{signed}
use Rattle.small_fold.proofs.packing.load.Goals as goal

pub loop-k-init : goal.loop-k-init
loop-k-init c =
    let a = c.args in
    filled_none a.n (signed a.n a.s.now a.r) (pos 0) a.p.now c.requires.1

pub loop-k-preserved : goal.loop-k-preserved
loop-k-preserved c =
    let l = c.loop-k in
    let a = c.args in
    filled_more a.n (signed a.n a.s.now a.r) (pos 0) l.k l.p _ (omega arith)
    (to_z-of_z w16 c.fetch.result (record { sfits = c.fetch.type_inv }) ∙ c.fetch.ensures) l.invariant

pub returns : goal.returns
returns c =
    let l = c.loop-k in
    let a = c.args in
    filled-all a.n (signed a.n a.s.now a.r) (pos 0) l.k l.p (omega arith) l.invariant
