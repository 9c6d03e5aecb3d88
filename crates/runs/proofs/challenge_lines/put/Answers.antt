-- `challenge_lines::put` meets its contract: the node's T and D stand at the beginning of the slot's arrays.
use Rattle.std.proofs.Common.{rules}
use Rattle.std.specs.Prelude.{Ok}
use mathlib.Core.Path.{◌≡◌, sym, ◌∙◌}
use native.Mathlib.Omega.{arith}
use lib.ListN.{length}
use Rattle.lova.specs.Answers.{verdict_of}
use Rattle.chain.specs.Small.{numbers_in}
use Rattle.chain.proofs.Numbers.{fold-prints}
use Rattle.chain.proofs.Small.{sizes-in}
use Rattle.states.specs.Held.{node_in}
use Rattle.states.proofs.Parts.{lent, line-room}
use Rattle.runs.proofs.challenge_lines.put.Goals as goal

pub overflow_mul-size_t : goal.overflow_mul-size_t
overflow_mul-size_t c = omega (arith, (sizes-in c.args.small).T-high)

pub overflow_mul-size_d : goal.overflow_mul-size_d
overflow_mul-size_d c = omega (arith, (sizes-in c.args.small).D-high)

pub shared_ref_as_front-put_fold : goal.shared_ref_as_front-put_fold
shared_ref_as_front-put_fold c = (sizes-in c.args.small).T-high

pub shared_ref_as_front-put_fold-2 : goal.shared_ref_as_front-put_fold-2
shared_ref_as_front-put_fold-2 c = (sizes-in c.args.small).D-high

pub put_fold-requires : goal.put_fold-requires
put_fold-requires c =
    let big = sizes-in c.args.small in
    let t : length c.args.slot.now.t ≡ 16 = search rules in
    let d : length c.args.slot.now.d ≡ 4 = search rules in
    line-room _ _ _ _ _ (sym (lent _ 16 _ big.T-high t)) big.T-high (sym (lent _ 4 _ big.D-high d)) big.D-high c.told-out

pub returns : goal.returns
returns c =
    let p = numbers_in c.args.small in
    let d : length c.args.slot.now.d ≡ 4 = search rules in
    let k = c.put_fold in (
      omega (arith, k.ensures.0, k.auto.out),
      k.ensures.1 ∙ fold-prints p c.args.number (node_in p c.args.slot.now c.args.leaves).instance (sym (lent _ 4 _ (sizes-in c.args.small).D-high d)) (verdict_of (Ok c.args.verdict)),
    )
