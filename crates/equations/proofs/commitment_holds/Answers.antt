-- `equations::commitment_holds` meets its contract: each entry is tested.
use borrow.Author.Tests.{tests}
use mathlib.Core.Bool.{Bool}
use mathlib.Core.Path.{refl, ◌∙◌, ap}
use Prim.Native.Nat.{ℕ, ◌+◌}
use native.Mathlib.Omega.{arith}
use lib.Dec.{eqb}
use Rattle.std.proofs.Common.{rules}
use Rattle.std.proofs.lemmas.Iterator.{YieldsList-from_range}
use Rattle.std.proofs.lemmas.Iterator.Search.{all_from_yields_List}
use Rattle.scans.proofs.Scans.{all-range}
use Rattle.integers.specs.Tests.{all}
use Rattle.integers.specs.Residues.{word}
use Rattle.matrices.specs.Matrices.{Matrix, product}
use Rattle.settings.specs.Settings.{Parameters}
use Rattle.settings.specs.Accepted.{parameters_in}
use Rattle.lova.specs.Stored.{columns_of, matrix_T, right_T, sent_T~}
use Rattle.lova.specs.Fold.{beside, gadget}
use Rattle.lova.specs.Tests.{equal_words, every}
use Rattle.equations.proofs.commitment_holds.Goals as goal

pub returns : goal.returns
unfolding every
returns c =
    let a = c.args in
    let f = a.profile in
    let p : Parameters = parameters_in a.accepted.now in
    let X : Matrix = product (columns_of p f) ((sent_T~ p f).read a.message.tt.now) (gadget p) in
    let Y : Matrix = beside p.t ((matrix_T p).read a.first.t.now) ((right_T p f).read a.second.t.now) in
    let test : ℕ → Bool = λ i. all (p.t + c.right-right.result) (λ j. eqb (word (X i j)) (word (Y i j))) in
    all_from_yields_List test _ _ c.all-congruent.result c.all-congruent.ensures.ran (YieldsList-from_range 0 p.n p.n refl (omega arith)) (λ x b q k. search (rules, tests))
    ∙ all-range p.n test
    ∙ ap (λ (right : ℕ). equal_words p.n (p.t + right) X Y) c.right-right.ensures
