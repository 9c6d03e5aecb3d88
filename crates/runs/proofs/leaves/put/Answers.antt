-- `leaves::put` meets its contract: the node's T and D stand at the beginning of the slot's arrays.
use Rattle.std.proofs.Common.{rules}
use mathlib.Core.Path.{◌≡◌, sym, ◌∙◌}
use native.Mathlib.Omega.{arith}
use lib.ListN.{length}
use Rattle.chain.specs.Small.{numbers_in}
use Rattle.chain.proofs.Numbers.{leaf-prints}
use Rattle.chain.proofs.Small.{sizes-in}
use Rattle.states.specs.Held.{node_in}
use Rattle.states.proofs.Parts.{lent, line-room}
use Rattle.runs.proofs.leaves.put.Goals as goal

pub overflow_mul-size_t : goal.overflow_mul-size_t
overflow_mul-size_t c = omega (arith, (sizes-in c.args.small).T-high)

pub overflow_mul-size_d : goal.overflow_mul-size_d
overflow_mul-size_d c = omega (arith, (sizes-in c.args.small).D-high)

pub shared_ref_as_front-put_leaf : goal.shared_ref_as_front-put_leaf
shared_ref_as_front-put_leaf c = (sizes-in c.args.small).T-high

pub shared_ref_as_front-put_leaf-2 : goal.shared_ref_as_front-put_leaf-2
shared_ref_as_front-put_leaf-2 c = (sizes-in c.args.small).D-high

pub put_leaf-requires : goal.put_leaf-requires
put_leaf-requires c =
    let big = sizes-in c.args.small in
    let t : length c.args.slot.now.t ≡ 16 = search rules in
    let d : length c.args.slot.now.d ≡ 4 = search rules in
    line-room _ _ _ _ _ (sym (lent _ 16 _ big.T-high t)) big.T-high (sym (lent _ 4 _ big.D-high d)) big.D-high c.told-out

pub returns : goal.returns
returns c =
    let p = numbers_in c.args.small in
    let d : length c.args.slot.now.d ≡ 4 = search rules in
    let k = c.put_leaf in
    (omega (arith, k.ensures.0, k.auto.out), k.ensures.1 ∙ leaf-prints p c.args.number (node_in p c.args.slot.now c.args.leaves).instance (sym (lent _ 4 _ (sizes-in c.args.small).D-high d)))
