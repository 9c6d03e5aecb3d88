-- `verifier_c::lova_verify` meets its contract: the operation's answer, outputs and leaf count are passed on.
use Rattle.codes.proofs.Passing.{passed_counted}
use Rattle.verifier_c.proofs.lova_verify.Goals as goal

pub returns : goal.returns
returns c =
    rw (← c.setting_of-setting.ensures) (passed_counted _ c.verify-verdict.ensures c.code_of_verdict.ensures c.count_of_verdict.ensures)
