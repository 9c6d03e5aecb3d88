-- `settings_c::give_setting` meets its contract: refused, 7, or the numbers are written.
use Rattle.std.proofs.lemmas.Result.{err_from_is_err_and}
use Rattle.lova.specs.Answers.{answer_of}
use Rattle.settings_c.proofs.Giving.{out_refused, out_seven, out_given}
use Rattle.settings_c.proofs.give_setting.Goals as goal

pub returns-in_err-setting : goal.returns-in_err-setting
unfolding answer_of
returns-in_err-setting c =
    let p = err_from_is_err_and c.from_residual.result c.from_residual.ensures.1 in
    rw (p.1, p.2) (out_refused _ 35 _ _ _ c.in_err-setting.ensures)

pub returns-then-out : goal.returns-then-out
unfolding answer_of
returns-then-out c = out_seven _ 35 _ _ _ c.in_ok-setting.ensures c.if-out.true

pub returns : goal.returns
unfolding answer_of
returns c = rw c.write_worked_out.ensures (out_given _ 35 _ _ _ c.in_ok-setting.ensures c.if-out.false)
