-- `scans::are_ternary` meets its contract: each byte is tested, and each is an entry.
use borrow.Author.Tests.{tests}
use mathlib.Core.Path.{refl, ◌∙◌}
use lib.Dec.{leb}
use lib.ListN.{length, get_or}
use Rattle.std.proofs.Common.{rules}
use Rattle.std.proofs.lemmas.Iterator.{YieldsList-from_slice}
use Rattle.std.proofs.lemmas.Iterator.Search.{all_from_yields_List}
use Rattle.scans.proofs.Scans.{all-places, all-entries}
use Rattle.scans.proofs.are_ternary.Goals as goal

pub returns : goal.returns
returns c =
    let a = c.args in
    all_from_yields_List (λ x. leb x 2) _ _ c.all.result c.all.ensures.ran (YieldsList-from_slice a.c.now cc) (λ x b q k. search (rules, tests))
    ∙ all-places (λ x. leb x 2) 0 a.c.now (length a.c.now) (λ i. leb (get_or a.c.now i 0) 2) refl (λ i l. refl)
    ∙ all-entries (length a.c.now) a.rows a.cols (λ i. leb (get_or a.c.now i 0) 2) c.requires
