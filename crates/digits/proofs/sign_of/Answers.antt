-- `digits::sign_of` meets its contract.
use Rattle.digits.proofs.Signs.{doubled, sign-held}
use Rattle.digits.proofs.sign_of.Goals as goal

pub overflow_mul-result : goal.overflow_mul-result
overflow_mul-result c = (doubled c.args.x c.ranges.x).fits

pub overflow_add-result : goal.overflow_add-result
overflow_add-result c = (sign-held c.args.x c.ranges.x).fits

pub returns : goal.returns
returns c = (sign-held c.args.x c.ranges.x).read
