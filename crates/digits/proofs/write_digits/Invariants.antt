-- `digits::write_digits` meets its contract: after p turns w is what p steps leave of the size, and the first p digits are written.
use mathlib.Core.Path.{◌≡◌}
use lib.IntN.{pos, nat_abs}
use lib.ListN.{length}
use Rattle.integers.proofs.Lists.{Filled}
use Rattle.digits.specs.Digits.{rest_of, digit_of}
use Rattle.digits.proofs.write_digits.Given as goal

abbrev pub invariant-loop-p : goal.invariant-loop-p
invariant-loop-p l = (l.w ≡ rest_of l.base.b l.p (nat_abs l.x)) × Filled (length l.initial.out) (digit_of l.base.b l.x) (pos 0) l.p l.out
