-- `load_of` meets its contract: the first line is bad or refused, or the bytes after it are read.
use mathlib.Core.Path.{◌∙◌, ap}
use Rattle.settings.specs.Refusals.{number_of}
use Rattle.settings.specs.Accepted.{parameters_in}
use Rattle.chain.specs.Reports.{refused_line}
use Rattle.loads.specs.Loads.{load}
use Rattle.load_runs.specs.Inputs.{printed_from}
use Rattle.load_runs.proofs.Reading.{rest-is, first_missing, first-refused, first_taken}
use Rattle.load_runs.proofs.load_of.Goals as goal

pub returns-in_default : goal.returns-in_default
returns-in_default c = c.bad_line.ensures ∙ first_missing c.args.input.now c.in_default.ensures

pub returns-in-Ok : goal.returns-in-Ok
returns-in-Ok c =
    let small = c.in-Ok.small in
    c.load_after.ensures
    ∙ ap (printed_from 1 (load (parameters_in small.accepted))) (rest-is c.args.input.now c.in-Some.cut.used)
    ∙ first_taken _ _ _ c.in-Some.ensures small.accepted.setting c.in-Ok.ensures

pub returns-in-Err : goal.returns-in-Err
returns-in-Err c =
    c.refused.ensures
    ∙ ap (refused_line 1) c.number.ensures
    ∙ first-refused _ _ _ c.in-Some.ensures (number_of c.in-Err.refusal) c.in-Err.ensures
