-- `driver::run` is safe and ends: it has taken no more lines than bytes.
use Rattle.std.proofs.Common.{◌*◌, ◌≤◌}
use Rattle.driver.proofs.run.Given as goal

abbrev pub invariant-loop : goal.invariant-loop
invariant-loop g l = l.feed.run.line ≤ l.counter * 65536
