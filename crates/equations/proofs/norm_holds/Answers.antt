-- `equations::norm_holds` meets its contract: the lower half is tested, each entry with its mirror image.
use borrow.Author.Tests.{tests}
use mathlib.Core.Bool.{Bool}
use mathlib.Core.Path.{refl, ◌∙◌, ap}
use Prim.Native.Nat.{ℕ, ◌+◌}
use native.Mathlib.Omega.{arith}
use Rattle.std.proofs.Common.{rules}
use Rattle.std.proofs.lemmas.Iterator.{YieldsList-from_range}
use Rattle.std.proofs.lemmas.Iterator.Search.{all_from_yields_List}
use Rattle.scans.proofs.Scans.{all-range}
use Rattle.integers.specs.Tests.{all}
use Rattle.matrices.specs.Matrices.{Matrix, Symmetric, both_sides}
use Rattle.settings.specs.Settings.{Parameters}
use Rattle.settings.specs.Accepted.{parameters_in}
use Rattle.matrices.specs.Triangles.{mirrored}
use Rattle.matrices.proofs.Triangles.{mirrored-symmetric, both_sides-symmetric}
use Rattle.lova.specs.Stored.{columns_of, matrix_D, right_D, sent_V, sent_D~}
use Rattle.lova.specs.Fold.{blocks, gadget}
use Rattle.lova.specs.Tests.{equal}
use Rattle.equations.specs.Blocks.{equal_both}
use Rattle.equations.proofs.Compared.{halves-equal}
use Rattle.equations.proofs.norm_holds.Goals as goal

pub returns : goal.returns
returns c =
    let a = c.args in
    let f = a.profile in
    let p : Parameters = parameters_in a.accepted.now in
    let n = p.t + c.right-right.result in
    let X : Matrix = both_sides (columns_of p f) (gadget p) ((sent_D~ p f).read a.message.dd.now) in
    let Y : Matrix = blocks p.t ((matrix_D p).read a.first.d.now) ((sent_V p f).read a.message.v.now) ((right_D p f).read a.second.d.now) in
    let sides : Symmetric n X = λ i j hi hj. both_sides-symmetric (columns_of p f) (gadget p) (mirrored a.message.dd.now) i j (λ x y hx hy. mirrored-symmetric a.message.dd.now x y) in
    let test : ℕ → Bool = λ i. all (i + 1) (λ j. equal_both X Y i j) in
    all_from_yields_List test _ _ c.all-equal.result c.all-equal.ensures.ran (YieldsList-from_range 0 n n refl (omega arith)) (λ x b q k. search (rules, tests))
    ∙ all-range n test ∙ halves-equal X Y n sides
    ∙ ap (λ (right : ℕ). equal (p.t + right) (p.t + right) X Y) c.right-right.ensures
