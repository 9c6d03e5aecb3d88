-- `verifier_c::lova_test_relation` meets its contract: the operation's answer is passed on.
use mathlib.Core.Path.{◌∙◌, ap}
use Rattle.codes.specs.Codes.{code_of}
use Rattle.verifier_c.proofs.lova_test_relation.Goals as goal

pub returns : goal.returns
returns c =
    rw (← c.setting_of-setting.ensures) (c.code_of_membership.ensures ∙ ap code_of c.test_relation-membership.ensures)
