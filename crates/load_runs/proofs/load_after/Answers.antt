-- `load_after` meets its contract: the second line is bad, or something comes after it, or the file is printed.
use mathlib.Core.Path.{sym, ◌∙◌}
use Rattle.settings.specs.Accepted.{parameters_in}
use Rattle.load_runs.proofs.Asking.{load-some}
use Rattle.load_runs.proofs.Reading.{second-missing, second_bad, third-comes, none-comes}
use Rattle.load_runs.proofs.load_after.Goals as goal

pub returns-in_default : goal.returns-in_default
returns-in_default c = c.bad_line.ensures ∙ second-missing c.args.bytes.now c.in_default.ensures (parameters_in c.args.small.accepted)

pub returns-in_default-read_load : goal.returns-in_default-read_load
returns-in_default-read_load c =
    c.bad_line-in_default-read_load.ensures
    ∙ second_bad _ _ _ c.in-Some.ensures (parameters_in c.args.small.accepted) (sym c.in_default-read_load.ensures)

pub returns-then-cut-bytes : goal.returns-then-cut-bytes
returns-then-cut-bytes c =
    c.bad_line-then-cut-bytes.ensures
    ∙ third-comes _ _ _ c.in-Some.ensures (parameters_in c.args.small.accepted) _ _ (sym c.in-Some-read_load.ensures) c.if-cut-bytes.true

pub file-requires : goal.file-requires
file-requires c = load-some _ _ _ (sym c.in-Some-read_load.ensures)

pub returns : goal.returns
returns c =
    c.file.ensures
    ∙ none-comes _ _ _ c.in-Some.ensures (parameters_in c.args.small.accepted) _ _ (sym c.in-Some-read_load.ensures) c.if-cut-bytes.false
