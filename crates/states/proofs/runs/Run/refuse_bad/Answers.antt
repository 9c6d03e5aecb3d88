-- `Run::refuse_bad` meets its contract: 13, or nothing where the run has stopped.
use mathlib.Core.Path.{sym, ap, ◌∙◌}
use Rattle.chain.specs.Chain.{refuse}
use Rattle.states.specs.Held.{counts_of}
use Rattle.states.proofs.Steps.{not_stopped, bad_refused, bad_stopped}
use Rattle.states.proofs.runs.Run.refuse_bad.Goals as goal

pub returns-in-Nothing-clause-whatever : goal.returns-in-Nothing-clause-whatever
returns-in-Nothing-clause-whatever c = bad_stopped c.args.self.now c.in-Nothing.is

pub returns-in_default : goal.returns-in_default
returns-in_default c =
    let k = c.refuse in
    let r = c.args.self.now in
    record {
      whatever = λ m. k.ensures.whatever m ∙ ap (refuse (counts_of r)) c.number.ensures ∙ sym (bad_refused (counts_of r) _ (not_stopped r.due r.under m c.in_default.not-Nothing));
      safe = k.ensures.safe;
    }
