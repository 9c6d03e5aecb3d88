-- `verdicts::diagonal_within` meets its contract: each diagonal entry is tested.
use borrow.Author.Tests.{tests}
use mathlib.Core.Bool.{Bool}
use mathlib.Core.Path.{refl, ◌∙◌}
use Prim.Native.Nat.{ℕ}
use native.Mathlib.Omega.{arith}
use lib.IntN.{pos}
use lib.Signed.{le_z}
use Rattle.std.proofs.Common.{rules}
use Rattle.std.proofs.lemmas.Iterator.{YieldsList-from_range}
use Rattle.std.proofs.lemmas.Iterator.Search.{all_from_yields_List}
use Rattle.matrices.specs.Tables.{signed}
use Rattle.scans.proofs.Scans.{all-range}
use Rattle.verdicts.proofs.diagonal_within.Goals as goal

pub returns : goal.returns
returns c =
    let a = c.args in
    let test : ℕ → Bool = λ i. le_z (signed a.cols a.d.now i i) (pos a.bound) in
    all_from_yields_List test _ _ c.all.result c.all.ensures.ran (YieldsList-from_range 0 a.cols a.cols refl (omega arith)) (λ x b q k. search (rules, tests))
    ∙ all-range a.cols test
