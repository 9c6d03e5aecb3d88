-- `settings_c::give_listed` meets its contract: refused, 7, or the numbers are written.
use Rattle.std.proofs.lemmas.Result.{err_from_is_err_and}
use Rattle.lova.specs.Answers.{answer_of}
use Rattle.settings_c.proofs.Giving.{out_refused, out_seven, out_given}
use Rattle.settings_c.proofs.give_listed.Goals as goal

pub returns-in_err-setting : goal.returns-in_err-setting
unfolding answer_of
returns-in_err-setting c =
    let p = err_from_is_err_and c.from_residual.result c.from_residual.ensures.1 in
    rw (p.1, p.2) (out_refused _ 5 _ _ _ c.in_err-setting.ensures)

pub returns-then-out-ne-ROW : goal.returns-then-out-ne-ROW
unfolding answer_of
returns-then-out-ne-ROW c = out_seven _ 5 _ _ _ c.in_ok-setting.ensures c.if-out-ne-ROW.true

pub returns : goal.returns
unfolding answer_of
returns c = rw c.write_five.ensures (out_given _ 5 _ _ _ c.in_ok-setting.ensures c.if-out-ne-ROW.false)
