-- `products_c::product_tt` meets its contract: that of the function it calls.
use Rattle.products_c.proofs.product_tt.Goals as goal

pub commitment-requires : goal.commitment-requires
commitment-requires c = c.requires

pub returns : goal.returns
returns c = c.commitment.ensures
