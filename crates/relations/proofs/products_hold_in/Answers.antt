-- `relations::products_hold_in` meets its contract: s-transposed s is made, and compared with d entry by entry.
use borrow.Author.Tests.{tests}
use mathlib.Core.Path.{refl, ◌∙◌, ap}
use mathlib.Core.Bool.{Bool}
use mathlib.Core.List.{List}
use Prim.Native.Nat.{ℕ, ◌^◌}
use native.Mathlib.Nat.{le_trans}
use native.Mathlib.Omega.{arith}
use lib.IntN.{ℤ, pos}
use lib.ListN.{length, get_or}
use Rattle.std.proofs.Common.{rules}
use Rattle.std.proofs.lemmas.Iterator.{YieldsList-from_range}
use Rattle.std.proofs.lemmas.Iterator.Search.{all_from_yields_List}
use Rattle.matrices.specs.Matrices.{gram}
use Rattle.matrices.specs.Tables.{signed}
use Rattle.matrices.proofs.Bounds.{cross-within}
use Rattle.matrices.proofs.Tables.{length-table}
use Rattle.lova.specs.Tests.{eq_Z}
use Rattle.lova.proofs.Rebuilding.{rebuilt-accepted, rebuilt-is}
use Rattle.scans.proofs.Scans.{all-range}
use Rattle.relations.proofs.Tables.{equal-made}
use Rattle.relations.proofs.products_hold_in.Goals as goal

-- the columns of s are short
pub cross_products-requires-clause-by_index : goal.cross_products-requires-clause-by_index
cross_products-requires-clause-by_index c =
    let a = c.args in
    let s = a.accepted.now.setting in
    let high = (rebuilt-accepted s (rebuilt-is a.accepted.now)).bound-high in
    λ i j hi hj. cross-within s.m (2 ^ 62) (signed s.t a.s.now) (signed s.t a.s.now) i j (le_trans (c.requires.2 i hi) high) (le_trans (c.requires.2 j hj) high)

pub returns : goal.returns
returns c =
    let a = c.args in
    let s = a.accepted.now.setting in
    let made : List ℤ = c.cross_products.new.out in
    let test : ℕ → Bool = λ i. eq_Z (get_or made i (pos 0)) (get_or a.d.now i (pos 0)) in
    all_from_yields_List test _ _ c.all.result c.all.ensures.ran (YieldsList-from_range 0 (length made) (length made) refl (omega arith)) (λ x b q k. search (rules, tests))
    ∙ all-range (length made) test
    ∙ equal-made s.t (gram s.m (signed s.t a.s.now)) made a.d.now c.cross_products.ensures
    (ap length c.cross_products.ensures ∙ length-table s.t s.t (gram s.m (signed s.t a.s.now)))
