-- `matrices::add_product` meets its contract: the factors fit, and so do the product and the sum.
use Rattle.std.proofs.Common.{◌+ℤ◌, ◌*ℤ◌, ap₂, arith, w64, to_z, of_z}
use mir.ValLaws.{to_z-of_z}
use Rattle.integers.proofs.Sizes.{nat_abs-+}
use Rattle.integers.proofs.Words.{Held, held, read_back}
use Rattle.matrices.proofs.add_product.Goals as goal
use Rattle.matrices.proofs.add_product.Goals.{Start}

-- the product and the sum, as the machine has them
product : (c : Start) → Held w64 (to_z w64 (of_z w64 c.args.x) *ℤ to_z w64 (of_z w64 c.args.y)) (c.args.x *ℤ c.args.y)
product c = held w64 (ap₂ ◌*ℤ◌ (to_z-of_z w64 c.args.x c.ranges.x) (to_z-of_z w64 c.args.y c.ranges.y)) (omega (arith, c.requires))

sum : (c : Start) →
    Held w64 (to_z w64 (of_z w64 c.args.sum) +ℤ to_z w64 (of_z w64 (to_z w64 (of_z w64 c.args.x) *ℤ to_z w64 (of_z w64 c.args.y)))) (c.args.sum +ℤ c.args.x *ℤ c.args.y)
sum c = held w64 (ap₂ ◌+ℤ◌ (read_back w64 c.args.sum (omega (arith, c.requires))) (product c).read)
    (omega (arith, nat_abs-+ c.args.sum (c.args.x *ℤ c.args.y), c.requires))

pub overflow_mul-result : goal.overflow_mul-result
overflow_mul-result c = (product c).fits

pub overflow_add-result : goal.overflow_add-result
overflow_add-result c = (sum c).fits

pub returns : goal.returns
returns c = (sum c).read
