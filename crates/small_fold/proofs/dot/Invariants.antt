-- `small_fold::dot` meets its contract: a is the sum of the first 32 i products.
use Rattle.std.proofs.Common.{◌≡◌, ◌*◌}
use Rattle.dots.specs.Dots.{dots}
use Rattle.small_fold.proofs.dot.Given as goal

abbrev pub invariant-loop-i : goal.invariant-loop-i
invariant-loop-i l = l.a ≡ dots l.p l.q 0 l.y (l.i * 32)
