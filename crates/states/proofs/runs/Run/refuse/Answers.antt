-- `Run::refuse` meets its contract: the line that says so, and nothing is due.
use mathlib.Core.Path.{ap}
use mathlib.Core.List.{List}
use Prim.Native.Nat.{ℕ, ◌+◌}
use Rattle.chain.specs.Chain.{stopped, tally, step}
use Rattle.states.specs.Held.{stage_of}
use Rattle.states.proofs.runs.Run.refuse.Goals as goal

pub returns-clause-whatever : goal.returns-clause-whatever
unfolding stage_of
returns-clause-whatever c =
    let r = c.args.self.now in
    λ m. ap (λ (o : List ℕ). step (tally (r.line + 1) r.leaves r.folds) stopped o) c.put_refused.ensures.1
