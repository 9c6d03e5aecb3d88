-- `quadratic_forms::count_zeros` meets its contract: the refusal, or the count.
use mathlib.Core.Path.{sym, ap, ◌∙◌}
use Rattle.std.specs.Prelude.{Ok, Err}
use Rattle.std.proofs.lemmas.Result.{err_from_is_err_and}
use Rattle.settings.proofs.Numbers.{numbered-some}
use Rattle.quadratic_forms.specs.Counts.{is_triangle}
use Rattle.quadratic_forms.proofs.Refusals.{refusal-exactly, says-refused, says-count}
use Rattle.quadratic_forms.proofs.count_zeros.Goals as goal

pub returns-in_err-test_form : goal.returns-in_err-test_form
returns-in_err-test_form c =
    let a = c.args in
    let p = err_from_is_err_and c.from_residual.result c.from_residual.ensures.1 in
    let e = c.in_err-test_form.ensures in
    rw (p.1, p.2) (ap Err e ∙ says-refused a.n (is_triangle a.n a.e.now) a.e.now (λ z. numbered-some c.in_err-test_form.field-0.0 (e ∙ z)))

pub zeros_of-requires : goal.zeros_of-requires
zeros_of-requires c = (refusal-exactly c.args.n c.args.e.now).none.0 (sym c.in_ok-test_form.ensures)

pub returns : goal.returns
returns c =
    let a = c.args in
    ap Ok c.zeros_of.ensures ∙ says-count a.n (is_triangle a.n a.e.now) a.e.now (sym c.in_ok-test_form.ensures)
