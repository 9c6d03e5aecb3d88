-- `equations::Parts::words_equal` meets its contract: each entry of the row is tested.
use borrow.Author.Tests.{tests}
use mathlib.Core.Bool.{Bool}
use mathlib.Core.Path.{refl, ◌∙◌}
use Prim.Native.Nat.{ℕ}
use native.Mathlib.Omega.{arith}
use lib.Dec.{eqb}
use Rattle.std.proofs.Common.{rules}
use Rattle.std.proofs.lemmas.Iterator.{YieldsList-from_range}
use Rattle.std.proofs.lemmas.Iterator.Search.{all_from_yields_List}
use Rattle.scans.proofs.Scans.{all-range}
use Rattle.integers.specs.Residues.{word}
use Rattle.equations.specs.Parts.{across, joined_T, summed_T}
use Rattle.equations.proofs.Recomposed.{narrow}
use Rattle.equations.proofs.parts.Parts.words_equal.Goals as goal

pub overflow_add-self : goal.overflow_add-self
overflow_add-self c = omega (arith, narrow c.args.self.now)

pub returns : goal.returns
returns c =
    let a = c.args in
    let n = across a.self.now in
    let test : ℕ → Bool = λ j. eqb (word (summed_T a.self.now a.i j)) (word (joined_T a.self.now a.i j)) in
    all_from_yields_List test _ _ c.all.result c.all.ensures.ran (YieldsList-from_range 0 n n refl (omega arith)) (λ x b q k. search (rules, tests))
    ∙ all-range n test
