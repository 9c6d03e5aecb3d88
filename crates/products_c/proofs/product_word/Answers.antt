-- `products_c::product_word` meets its contract: that of the function it calls.
use Rattle.products_c.proofs.product_word.Goals as goal

pub returns : goal.returns
returns c = c.wrapping_mul.ensures
