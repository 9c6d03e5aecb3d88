-- `Feed::take` meets its contract: the bytes up to the cut are taken, and so is a line that has ended.
use Rattle.driver.proofs.Reading.{goes_on, no_output, line-ends, line-output}
use Rattle.driver.proofs.feeds.Feed.take.Goals as goal

pub returns-then-not-cut-clause-fed : goal.returns-then-not-cut-clause-fed
returns-then-not-cut-clause-fed c = goes_on _ _ _ _ c.cut_line-cut.result c.cut_line-cut.ensures.ended_after c.if-not-cut.true

pub returns-then-not-cut-clause-output : goal.returns-then-not-cut-clause-output
returns-then-not-cut-clause-output c = no_output _ _ _ _ c.cut_line-cut.result c.cut_line-cut.ensures.ended_after c.if-not-cut.true

pub returns-clause-fed : goal.returns-clause-fed
returns-clause-fed c = line-ends _ _ _ _ c.cut_line-cut.result c.cut_line-cut.ensures.ended_after c.if-not-cut.false _ c.take-printed.ensures.taken

pub returns-clause-output : goal.returns-clause-output
returns-clause-output c = line-output _ _ _ _ c.cut_line-cut.result c.cut_line-cut.ensures.ended_after c.if-not-cut.false _ c.take-printed.ensures.taken
