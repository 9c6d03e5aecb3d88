-- `equations::Parts::blocks_equal` meets its contract: each entry of the row is tested.
use borrow.Author.Tests.{tests}
use mathlib.Core.Bool.{Bool}
use mathlib.Core.Path.{refl, ◌∙◌}
use Prim.Native.Nat.{ℕ, ◌+◌}
use native.Mathlib.Omega.{arith}
use Rattle.std.proofs.Common.{rules}
use Rattle.std.proofs.lemmas.Iterator.{YieldsList-from_range}
use Rattle.std.proofs.lemmas.Iterator.Search.{all_from_yields_List}
use Rattle.scans.proofs.Scans.{all-range}
use Rattle.equations.specs.Blocks.{equal_both}
use Rattle.equations.specs.Parts.{joined_D, summed_D}
use Rattle.equations.proofs.Recomposed.{narrow}
use Rattle.equations.proofs.parts.Parts.blocks_equal.Goals as goal

pub overflow_add-i : goal.overflow_add-i
overflow_add-i c = omega (arith, narrow c.args.self.now)

pub returns : goal.returns
returns c =
    let a = c.args in
    let test : ℕ → Bool = λ j. equal_both (summed_D a.self.now) (joined_D a.self.now) a.i j in
    all_from_yields_List test _ _ c.all.result c.all.ensures.ran (YieldsList-from_range 0 (a.i + 1) (a.i + 1) refl (omega arith)) (λ x b q k. search (rules, tests))
    ∙ all-range (a.i + 1) test
