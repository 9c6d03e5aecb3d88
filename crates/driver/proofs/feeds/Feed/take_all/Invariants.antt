-- `Feed::take_all` meets its contract: what is left of the chunk leads where the whole chunk leads from the beginning, and
-- no more lines were taken than bytes.
use Rattle.std.proofs.Common.{◌≤◌, ◌≡◌, ◌+◌, length}
use Rattle.line_machines.specs.Machines.{feed_all}
use Rattle.chain.specs.Chain.{chain_machine}
use Rattle.driver.specs.Feeds.{feeding_of}
use Rattle.driver.proofs.feeds.Feed.take_all.Given as goal

abbrev pub invariant-loop-rest : goal.invariant-loop-rest
invariant-loop-rest g l =
    let i = l.initial in
    (feed_all chain_machine (feeding_of l.self) l.rest ≡ feed_all chain_machine (feeding_of i.self) i.chunk)
    × (l.self.run.line + length l.rest ≤ i.self.run.line + length i.chunk)

abbrev pub decreases-loop-rest : goal.decreases-loop-rest
decreases-loop-rest g l = length l.rest
