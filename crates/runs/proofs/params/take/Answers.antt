-- `params::take` meets its contract: refused, or taken.
use mathlib.Core.Path.{◌∙◌, ap}
use mathlib.Core.List.{List}
use Prim.Native.Nat.{ℕ}
use Rattle.std.specs.Prelude.{Option}
use Rattle.text.specs.Fields.{record_of, read_u64}
use Rattle.chain.specs.Params.{param_word}
use Rattle.chain.specs.Chain.{refuse, take_due}
use Rattle.states.specs.Held.{stage_of, counts_of}
use Rattle.runs.proofs.ParamLines.{param-refused, param-taken}
use Rattle.runs.proofs.params.take.Goals as goal

-- what was read
abbrev read : List ℕ → Option (List ℕ)
read line = record_of read_u64 param_word 5 line

pub returns-in-Err-clause-whatever : goal.returns-in-Err-clause-whatever
unfolding stage_of take_due
returns-in-Err-clause-whatever c =
    λ m. c.refuse.ensures.whatever m ∙ ap (refuse (counts_of c.args.run.now)) c.number.ensures
    ∙ param-refused (read c.args.line.now) (counts_of c.args.run.now) c.in-Err.refusal c.in-Err.ensures

pub returns-in-Ok-clause-whatever : goal.returns-in-Ok-clause-whatever
unfolding stage_of take_due
returns-in-Ok-clause-whatever c = λ m. param-taken (read c.args.line.now) (counts_of c.args.run.now) c.in-Ok.small c.in-Ok.ensures
