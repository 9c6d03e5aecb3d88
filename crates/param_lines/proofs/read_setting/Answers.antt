-- `read_setting` meets its contract: unread, refused by the setting or by the program, or taken.
use Rattle.std.proofs.lemmas.Result.{err_from_is_err_and}
use Rattle.text.proofs.Fields.{answer_yes, answer_no}
use Rattle.param_lines.proofs.Opening.{opened-unread, opened-refused, opened-by}
use Rattle.param_lines.proofs.read_setting.Goals as goal

pub returns-then-not-read_u64s : goal.returns-then-not-read_u64s
returns-then-not-read_u64s c = opened-unread _ (answer_no _ _ _ c.read_u64s.ensures c.if-not-read_u64s.true)

pub returns-in_err-accepted : goal.returns-in_err-accepted
returns-in_err-accepted c =
    let read = answer_yes _ _ _ c.read_u64s.ensures c.if-not-read_u64s.false in
    let p = err_from_is_err_and c.from_residual.result c.from_residual.ensures.1 in
    rw (p.1, p.2) (opened-refused _ c.read_u64s.new.out read _ c.in_err-accepted.ensures)

pub returns : goal.returns
returns c =
    let read = answer_yes _ _ _ c.read_u64s.ensures c.if-not-read_u64s.false in
    rw c.ok_or.ensures.value
    (opened-by _ c.read_u64s.new.out read c.in_ok-accepted.accepted c.in_ok-accepted.ensures c.small_setting.result c.small_setting.ensures.taken c.small_setting.ensures.same)
