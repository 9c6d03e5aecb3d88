-- `leaves::take_first` meets its contract: refused, or the leaf is the accumulated node.
use mathlib.Core.Path.{sym, ◌∙◌, ap}
use mathlib.Core.List.{List}
use Prim.Native.Nat.{ℕ, ◌+◌}
use Rattle.chain.specs.Small.{numbers_in}
use Rattle.chain.specs.Chain.{leaf, tally, step, refuse, take_due}
use Rattle.states.specs.Held.{part_A, node_in, counts_of, stage_of}
use Rattle.runs.proofs.leaves.take_first.Goals as goal

pub returns-in-Err-clause-taken : goal.returns-in-Err-clause-taken
unfolding stage_of take_due
returns-in-Err-clause-taken c = c.refuse.ensures.whatever _ ∙ ap (refuse (counts_of c.args.run.now)) c.number.ensures ∙ sym (c.in-Err.ensures.comes_to _ _)

pub returns-in-Ok-clause-taken : goal.returns-in-Ok-clause-taken
unfolding stage_of take_due
returns-in-Ok-clause-taken c =
    let p = numbers_in c.args.small in
    let r = c.args.run.now in
    let z = node_in p c.in-Ok.leaf.slot c.in-Ok.leaf.count in
    ap (λ (o : List ℕ). step (tally (r.line + 1) (r.leaves + 1) r.folds) (leaf p (part_A p c.args.store.now.a) z) o) c.put.ensures.1
    ∙ sym (c.in-Ok.ensures.comes_to.1 _ _)
