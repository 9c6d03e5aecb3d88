-- `draws::fill` meets its contract: as many entries are made as the loop has run.
use Rattle.std.proofs.Common.{refl, arith}
use Rattle.integers.specs.Lists.{build}
use Rattle.draws.specs.Draws.{after, drawn}
use Rattle.draws.proofs.Fills.{after_more, drawn-more}
use Rattle.draws.proofs.fill.Goals as goal

pub loop-place-init : goal.loop-place-init
unfolding after drawn build
loop-place-init g c = (c.requires, refl, λ of h. refl)

pub loop-place-preserved : goal.loop-place-preserved
loop-place-preserved g c =
    let l = c.loop-place in
    let x = c.draw-state.result in
    let moved = after_more c.args.s l.place-index l.state x l.invariant.1 c.draw-state.ensures in
    (c.requires, moved, λ of h. drawn-more of c.args.s l.place-index x l.out c.entry.result (omega arith) moved (h x c.entry.result c.draw-state.type_inv c.entry.ensures) (l.invariant.2 of h))
