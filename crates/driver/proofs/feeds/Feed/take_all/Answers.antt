use Rattle.std.proofs.Common.{rules, ◌≡◌, ◌<◌, ◌∙◌, ap, arith, length}
use Rattle.line_machines.specs.Machines.{feed_all}
use Rattle.chain.specs.Chain.{chain_machine}
use Rattle.driver.specs.Feeds.{feeding_of}
use Rattle.driver.proofs.Reading.{rest-is, rest-long, rest_done, part_and_rest}
use Rattle.driver.proofs.feeds.Feed.take_all.Goals as goal

pub loop-rest-preserved : goal.loop-rest-preserved
loop-rest-preserved g c =
    let l = c.loop-rest in
    let k = c.take-taken in
    let w = k.ensures.within in
    let long = rest-long k.result.used l.rest.now in
    let some : 0 < length l.rest.now = search rules in (
      ap (feed_all chain_machine (feeding_of k.new.self)) (rest-is k.result.used l.rest.now)
          ∙ part_and_rest (feeding_of l.self) (feeding_of k.new.self) k.result.used l.rest.now k.ensures.fed
          ∙ l.invariant.0,
      omega (arith, long, w.used, w.lines, w.moves some, l.invariant.1),
    )

pub returns-clause-fed : goal.returns-clause-fed
returns-clause-fed g c =
    let none : length c.loop-rest.rest.now ≡ 0 = search rules in
    rest_done (feeding_of c.loop-rest.self) c.loop-rest.rest.now none ∙ c.loop-rest.invariant.0
