-- `quadratic_forms_c::lova_count_zeros` meets its contract: the rows, the place for the count, then what the library answers.
use mathlib.Core.Path.{◌≡◌, sym, ap, ◌∙◌}
use mathlib.Core.Bool.{true}
use Rattle.integers.specs.Ranges.{within}
use Rattle.std.specs.Prelude.{ℕ, Result, Ok, Err}
use Rattle.settings.specs.declared.refused.Refusal.{Refusal}
use Rattle.settings.specs.Refusals.{numbered}
use Rattle.quadratic_forms.specs.Counts.{row_range, count_zeros}
use Rattle.quadratic_forms_c.proofs.Giving.{rows-given, place-given, count-given, refused-given}
use Rattle.quadratic_forms_c.proofs.lova_count_zeros.Goals as goal
use Rattle.quadratic_forms_c.proofs.lova_count_zeros.Goals.{After-count_zeros, Else-not-inside, Start}

abbrev start : Else-not-inside → Start
start c = (goal.at.Else-not-inside c).Start

-- the number of rows is inside its range
rows : (c : Else-not-inside) → within row_range (start c).args.n ≡ true
rows c = sym c.inside.ensures ∙ c.if-not-inside.false

pub returns-then-not-inside : goal.returns-then-not-inside
returns-then-not-inside c =
    let a = c.args in
    rw c.number.ensures (rows-given a.n a.e.now a.count.now (sym c.inside.ensures ∙ c.if-not-inside.true))

pub returns-then-count-ne1 : goal.returns-then-count-ne1
returns-then-count-ne1 c =
    let a = (start (goal.at.returns-then-count-ne1 c).Else-not-inside).args in
    rw c.number-then-count-ne1.ensures (place-given a.n a.e.now a.count.now (rows (goal.at.returns-then-count-ne1 c).Else-not-inside) c.if-count-ne1.true)

-- the library's answer, where its case is known
told : (c : After-count_zeros) (x : Result ℕ Refusal) → c.count_zeros.result ≡ x → let a = (start (goal.at.After-count_zeros c).Else-not-inside).args in
    numbered x ≡ count_zeros a.n a.e.now
told c x e = ap numbered (sym e) ∙ c.count_zeros.ensures

pub returns-in-Ok : goal.returns-in-Ok
returns-in-Ok c =
    let known = (goal.at.returns-in-Ok c).After-count_zeros in
    let a = (start (goal.at.returns-in-Ok c).Else-not-inside).args in
    count-given a.n a.e.now a.count.now known.if-count-ne1.false _ (told (goal.at.returns-in-Ok c).After-count_zeros (Ok c.in-Ok.zeros) c.in-Ok.is)

pub returns-in-Err : goal.returns-in-Err
returns-in-Err c =
    let known = (goal.at.returns-in-Err c).After-count_zeros in
    let a = (start (goal.at.returns-in-Err c).Else-not-inside).args in
    rw c.number-in-Err.ensures
    (refused-given a.n a.e.now a.count.now known.if-count-ne1.false _ (told (goal.at.returns-in-Err c).After-count_zeros (Err c.in-Err.refusal) c.in-Err.is))
