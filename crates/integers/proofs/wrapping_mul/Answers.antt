-- `integers::wrapping_mul` meets its contract: the product by halves.
use Rattle.integers.proofs.Products.{product}
use Rattle.integers.proofs.wrapping_mul.Goals as goal

pub returns : goal.returns
returns c = product c.args.x c.args.y
