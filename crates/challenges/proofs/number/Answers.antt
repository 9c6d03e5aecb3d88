-- `challenges::number` meets its contract, byte by byte.
use Rattle.std.proofs.Common.{arith}
use Rattle.matrices.proofs.Ternary.{ternary-zero, ternary-one, ternary-two}
use Rattle.challenges.proofs.number.Goals as goal

pub returns-in-0 : goal.returns-in-0
returns-in-0 c = ternary-zero c.args.v c.in-0.is

pub returns-in-1 : goal.returns-in-1
returns-in-1 c = ternary-one c.args.v c.in-1.is

pub returns-in_default : goal.returns-in_default
returns-in_default c = ternary-two c.args.v (λ e. omega arith) (λ e. omega arith)
