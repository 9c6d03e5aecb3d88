-- `scans::columns_within` meets its contract: each column is tested.
use borrow.Author.Tests.{tests}
use mathlib.Core.Path.{refl, ◌∙◌}
use mathlib.Core.Bool.{Bool}
use Prim.Native.Nat.{ℕ}
use native.Mathlib.Omega.{arith}
use lib.Dec.{leb}
use Rattle.std.proofs.Common.{rules}
use Rattle.std.proofs.lemmas.Iterator.{YieldsList-from_range}
use Rattle.std.proofs.lemmas.Iterator.Search.{all_from_yields_List}
use Rattle.matrices.specs.Matrices.{squared_length}
use Rattle.matrices.specs.Tables.{signed}
use Rattle.scans.proofs.Scans.{all-range}
use Rattle.scans.proofs.columns_within.Goals as goal

pub returns : goal.returns
returns c =
    let a = c.args in
    let short : ℕ → Bool = λ j. leb (squared_length a.m (signed a.cols a.s.now) j) a.bound in
    all_from_yields_List short _ _ c.all.result c.all.ensures.ran (YieldsList-from_range 0 a.cols a.cols refl (omega arith)) (λ x b q k. search (rules, tests))
    ∙ all-range a.cols short
