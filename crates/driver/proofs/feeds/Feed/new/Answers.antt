-- `Feed::new` meets its contract: a run that has begun, and no byte of a line.
use mathlib.Core.Path.{refl, ap}
use mathlib.Core.List.{[]}
use Rattle.chain.specs.Chain.{State}
use Rattle.driver.proofs.feeds.Feed.new.Goals as goal

pub returns : goal.returns
returns c = let begun = c.new.ensures c.new-2.result in
    (ap (λ (s : State). s.counts.line) begun, refl, ap (λ (s : State). record { state = s; pending = [] }) begun)
