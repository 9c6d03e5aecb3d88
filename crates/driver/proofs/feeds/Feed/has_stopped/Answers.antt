-- `Feed::has_stopped` meets its contract: nothing is due.
use mathlib.Core.Path.{sym, ap}
use Rattle.chain.specs.Chain.{is_stopped}
use Rattle.states.specs.Held.{stage_of}
use Rattle.states.proofs.Steps.{not_stopped}
use Rattle.driver.proofs.feeds.Feed.has_stopped.Goals as goal

pub returns-in-Nothing : goal.returns-in-Nothing
unfolding is_stopped stage_of
returns-in-Nothing c = let f = c.args.self.now in sym (ap (λ d. is_stopped (stage_of d f.run.under f.store)) c.in-Nothing.is)

pub returns-in_default : goal.returns-in_default
returns-in_default c = sym (not_stopped _ _ _ c.in_default.not-Nothing)
