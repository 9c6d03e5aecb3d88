-- `relations::commitment_holds_in` meets its contract: a s is made, and compared with t entry by entry.
use borrow.Author.Tests.{tests}
use mathlib.Core.Path.{refl, ◌∙◌, ap}
use mathlib.Core.Bool.{Bool}
use mathlib.Core.List.{List}
use Prim.Native.Nat.{ℕ}
use native.Mathlib.Omega.{arith}
use lib.Dec.{eqb}
use lib.ListN.{length, get_or}
use Rattle.std.proofs.Common.{rules}
use Rattle.std.proofs.lemmas.Iterator.{YieldsList-from_range}
use Rattle.std.proofs.lemmas.Iterator.Search.{all_from_yields_List}
use Rattle.matrices.specs.Matrices.{product}
use Rattle.integers.specs.Residues.{word}
use Rattle.matrices.specs.Tables.{signed, unsigned}
use Rattle.matrices.proofs.Tables.{length-table}
use Rattle.scans.proofs.Scans.{all-range}
use Rattle.relations.proofs.Tables.{words-made}
use Rattle.relations.proofs.commitment_holds_in.Goals as goal

pub returns : goal.returns
returns c =
    let a = c.args in
    let s = a.accepted.now.setting in
    let made : List ℕ = c.commitment.new.out in
    let test : ℕ → Bool = λ i. eqb (get_or made i 0) (get_or a.t.now i 0) in
    all_from_yields_List test _ _ c.all-congruent.result c.all-congruent.ensures.ran (YieldsList-from_range 0 (length made) (length made) refl (omega arith)) (λ x b q k. search (rules, tests))
    ∙ all-range (length made) test
    ∙ words-made s.n s.t (product s.m (unsigned s.m a.a.now) (signed s.t a.s.now)) made a.t.now c.commitment.ensures
    (ap length c.commitment.ensures ∙ length-table s.n s.t (λ i j. word (product s.m (unsigned s.m a.a.now) (signed s.t a.s.now) i j))) c.requires.4
