-- `draws::further` meets its contract: the square of a number below 2^32 does not wrap.
use Rattle.std.proofs.Common.{refl, mul-le-mul, arith, le-leb}
use borrow.Author.Tests.{lt-leb}
use Rattle.draws.proofs.further.Goals as goal

pub overflow_mul-x : goal.overflow_mul-x
overflow_mul-x c = record { fits = omega (arith, mul-le-mul c.requires c.requires) }

pub returns-then-x-most : goal.returns-then-x-most
returns-then-x-most c = rw (le-leb _ _ c.if-x-most.true) refl

pub returns-else-x-most : goal.returns-else-x-most
returns-else-x-most c = rw (lt-leb _ _ c.if-x-most.false) refl
