-- `scans::entries_within` meets its contract: each entry is tested by its size.
use borrow.Author.Tests.{tests}
use mathlib.Core.Path.{refl, ◌∙◌}
use lib.Dec.{leb}
use lib.IntN.{pos, nat_abs}
use lib.ListN.{length, get_or}
use Rattle.std.proofs.Common.{rules}
use Rattle.std.proofs.lemmas.Iterator.{YieldsList-from_slice}
use Rattle.std.proofs.lemmas.Iterator.Search.{all_from_yields_List}
use Rattle.scans.proofs.Scans.{all-places}
use Rattle.scans.proofs.entries_within.Goals as goal

pub returns : goal.returns
returns c =
    let a = c.args in
    all_from_yields_List (λ x. leb (nat_abs x) a.limit) _ _ c.all.result c.all.ensures.ran (YieldsList-from_slice a.x.now cc) (λ x b q k. search (rules, tests))
    ∙ all-places (λ x. leb (nat_abs x) a.limit) (pos 0) a.x.now (length a.x.now) (λ i. leb (nat_abs (get_or a.x.now i (pos 0))) a.limit) refl (λ i l. refl)
