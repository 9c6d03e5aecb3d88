-- `signed_numerals::parse_i64` meets its contract.
use Rattle.std.proofs.Common.{◌∙◌}
use Rattle.numerals.specs.Numerals.{with_minus, without_minus, fit_signed}
use Rattle.numerals.proofs.Signs.{after_minus, no_minus}
use Rattle.signed_numerals.proofs.parse_i64.Goals as goal

pub returns-in_err-parse_u64-in-Some : goal.returns-in_err-parse_u64-in-Some
unfolding fit_signed with_minus
returns-in_err-parse_u64-in-Some c =
    let cut = c.in-Some.ensures.cases in
    let read = after_minus c.args.s.now cut.0 in
    c.from_residual.ensures ∙ (rw (← cut.1, ← c.in_err-parse_u64-in-Some.ensures) at read)

pub returns-in_ok-parse_u64-in-Some : goal.returns-in_ok-parse_u64-in-Some
returns-in_ok-parse_u64-in-Some c =
    let cut = c.in-Some.ensures.cases in
    let read = after_minus c.args.s.now cut.0 in
    c.negative.ensures ∙ (rw (← cut.1, ← c.in_ok-parse_u64-in-Some.ensures) at read)

pub returns-in_err-parse_u64-in-None : goal.returns-in_err-parse_u64-in-None
unfolding fit_signed without_minus
returns-in_err-parse_u64-in-None c =
    let read = no_minus c.args.s.now c.in-None.ensures.cases in
    c.from_residual-in_err-parse_u64-in-None.ensures ∙ (rw (← c.in_err-parse_u64-in-None.ensures) at read)

pub returns-in_ok-parse_u64-in-None : goal.returns-in_ok-parse_u64-in-None
unfolding without_minus
returns-in_ok-parse_u64-in-None c =
    let read = no_minus c.args.s.now c.in-None.ensures.cases in
    c.positive.ensures ∙ (rw (← c.in_ok-parse_u64-in-None.ensures) at read)
