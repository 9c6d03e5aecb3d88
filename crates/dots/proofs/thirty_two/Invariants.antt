-- `dots::thirty_two` meets its contract: `sum` is that of the first k products.
use Rattle.std.proofs.Common.{◌≡◌}
use Rattle.dots.specs.Dots.{dots}
use Rattle.dots.proofs.thirty_two.Given as goal

abbrev pub invariant-loop-k : goal.invariant-loop-k
invariant-loop-k l = l.sum ≡ dots l.p l.q l.x l.y l.k
