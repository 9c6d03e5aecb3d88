-- `relations::entry_equals` meets its contract: the machine compares words.
use Rattle.lova.proofs.Comparisons.{bits-test}
use Rattle.relations.proofs.entry_equals.Goals as goal

pub returns : goal.returns
returns c = bits-test c.args.x c.args.y c.ranges.x c.ranges.y
