-- `dots::product` meets its contract: the product of two 16-bit numbers fits 32 bits.
use Rattle.dots.proofs.Trees.{left-wide, right-wide, product_wide}
use Rattle.dots.proofs.product.Goals as goal

pub overflow_cast-result : goal.overflow_cast-result
overflow_cast-result c = (left-wide c.args.a c.args.b c.ranges.a c.ranges.b).fits

pub overflow_cast-result-2 : goal.overflow_cast-result-2
overflow_cast-result-2 c = (right-wide c.args.a c.args.b c.ranges.a c.ranges.b).fits

pub overflow_mul-result : goal.overflow_mul-result
overflow_mul-result c = (product_wide c.args.a c.args.b c.ranges.a c.ranges.b).fits

pub returns : goal.returns
returns c = (product_wide c.args.a c.args.b c.ranges.a c.ranges.b).read
