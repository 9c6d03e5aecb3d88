-- `digits::Base::divide` meets its contract: the product fits a word, and its quotient is x / b.
use native.Mathlib.Omega.{arith}
use Rattle.digits.proofs.Bases.{dividing_fits, divided}
use Rattle.digits.proofs.Base.divide.Goals as goal

pub overflow_mul-result : goal.overflow_mul-result
overflow_mul-result c = omega (arith, dividing_fits c.args.self c.requires.0 c.args.x c.requires.1)

pub returns : goal.returns
returns c = divided c.args.self c.requires.0 c.args.x c.requires.1
