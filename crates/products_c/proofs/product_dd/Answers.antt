-- `products_c::product_dd` meets its contract: that of the function it calls.
use Rattle.products_c.proofs.product_dd.Goals as goal

pub small_gram-requires : goal.small_gram-requires
small_gram-requires c = c.requires

pub returns : goal.returns
returns c = c.small_gram.ensures
