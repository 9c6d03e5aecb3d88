-- `verifier_fresh_c::lova_join_fresh` meets its contract: the operation's answer, outputs and leaf count are passed on.
use Rattle.codes.proofs.Passing.{passed_counted}
use Rattle.verifier_fresh_c.proofs.lova_join_fresh.Goals as goal

pub returns : goal.returns
returns c =
    rw (← c.setting_of-setting.ensures) (passed_counted _ c.join-made.ensures c.code_of_answer.ensures c.count_of_made.ensures)
