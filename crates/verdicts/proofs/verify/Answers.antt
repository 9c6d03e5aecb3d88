-- `verdicts::verify` meets its contract: refused by the setting's rules or by its own, or judged by the diagonals, then the
-- first equation, then the second; T' and D' are written, and the leaves counted, only where all three hold.
use mathlib.Core.Path.{◌≡◌, refl, sym, ◌∙◌}
use mathlib.Core.List.{List}
use Prim.Native.Nat.{◌≤◌}
use native.Mathlib.Omega.{arith}
use Rattle.std.proofs.lemmas.Result.{err_from_is_err_and}
use Rattle.settings.proofs.Numbers.{numbered-some}
use Rattle.settings.specs.Rules.{Rule}
use Rattle.settings.specs.Accepted.{parameters_in}
use Rattle.settings.specs.Settings.{Parameters, parameters_of}
use Rattle.lova.specs.Answers.{verdict_of, Outcome}
use Rattle.lova.specs.Stored.{Instance, Counted, counted, Message}
use Rattle.lova.specs.Lent.{as_instance, lent_instance, lent_message}
use Rattle.lova.specs.Calls.{ProperVerdict}
use Rattle.lova.specs.Verdict.{verdict_rules, judged_in, verdict_as, verdict_in}
use Rattle.lova.proofs.Refusals.{verdict-proper}
use Rattle.lova.proofs.Rebuilding.{rebuilt-is, rebuilt-accepted}
use Rattle.lova.proofs.Computed.{long-answer, norm-answer, commitment-answer, yes_answer}
use Rattle.lova.proofs.WaysOut.{out_by-setting, out_by-own, none_applied, out_at-end}
use Rattle.verdicts.proofs.verify.Goals as goal
use Rattle.verdicts.proofs.verify.Goals.{In_ok-test_verify, Start}

-- what is lent, what a refusal leaves, the rules, and what is answered where none of them applies
module _ (s : Start) where
  abbrev first : Counted
  first = lent_instance s.args.first

  abbrev second : Counted
  second = lent_instance s.args.second

  abbrev message : Message
  message = lent_message s.args.message

  abbrev out : Instance
  out = as_instance s.args.t.now s.args.d.now

  abbrev kept : Counted
  kept = counted out 0

  abbrev rules : Parameters → List Rule
  rules p = verdict_rules p s.args.profile first second message s.args.c.now out

  abbrev answer : Parameters → Outcome Counted
  answer p = judged_in p s.args.profile first second message s.args.c.now out

pub returns-in_err-accepted : goal.returns-in_err-accepted
unfolding verdict_in verdict_as verdict_of
returns-in_err-accepted c =
    let s = (goal.at.returns-in_err-accepted c).Start in
    let p = err_from_is_err_and c.from_residual.result c.from_residual.ensures.1 in
    rw (p.1, p.2) (out_by-setting (rules s) (kept s) (answer s) (parameters_of s.args.setting) _ c.in_err-accepted.ensures)

pub returns-in_err-test_verify : goal.returns-in_err-test_verify
unfolding verdict_in verdict_as verdict_of
returns-in_err-test_verify c =
    let s = (goal.at.returns-in_err-test_verify c).Start in
    let p = err_from_is_err_and c.from_residual-in_err-test_verify.result c.from_residual-in_err-test_verify.ensures.1 in
    rw (p.1, p.2) (out_by-own (rules s) (kept s) (answer s) (parameters_of s.args.setting) c.in_ok-accepted.accepted.setting c.in_ok-accepted.ensures _ c.in_err-test_verify.ensures (numbered-some _))

-- past the refusals the call is proper, and the answer is that of the three tests
proper : (c : In_ok-test_verify) →
    let s = (goal.at.In_ok-test_verify c).Start in
    ProperVerdict (parameters_in c.in_ok-accepted.accepted) s.args.profile (first s) (second s) (message s) s.args.c.now (out s)
proper c =
    let s = (goal.at.In_ok-test_verify c).Start in
    (verdict-proper (parameters_in c.in_ok-accepted.accepted) s.args.profile (first s) (second s) (message s) s.args.c.now (out s)).0
    (none_applied (rules s) (kept s) (answer s) (parameters_of s.args.setting) c.in_ok-accepted.accepted.setting c.in_ok-accepted.ensures 0 c.in_ok-test_verify.ensures refl)

answers : (c : In_ok-test_verify) →
    let s = (goal.at.In_ok-test_verify c).Start in
    answer s (parameters_in c.in_ok-accepted.accepted) ≡ verdict_in (parameters_of s.args.setting) s.args.profile (first s) (second s) (message s) s.args.c.now (out s)
unfolding verdict_in verdict_as
answers c =
    let s = (goal.at.In_ok-test_verify c).Start in
    out_at-end (rules s) (kept s) (answer s) (parameters_of s.args.setting) c.in_ok-accepted.accepted.setting c.in_ok-accepted.ensures 0 c.in_ok-test_verify.ensures refl

-- there is a column
some-column : (c : In_ok-test_verify) → 1 ≤ (parameters_in c.in_ok-accepted.accepted).t
some-column c = let a = c.in_ok-accepted.accepted in (rebuilt-accepted a.setting (rebuilt-is a)).t-low

pub diagonals_hold-requires : goal.diagonals_hold-requires
diagonals_hold-requires c = let l = (proper (goal.at.diagonals_hold-requires c).In_ok-test_verify).lengths in (l.0.1, l.1.1)

pub returns-then-not-diagonals_hold : goal.returns-then-not-diagonals_hold
unfolding verdict_of
returns-then-not-diagonals_hold c =
    let e = (goal.at.returns-then-not-diagonals_hold c).In_ok-test_verify in
    let s = (goal.at.returns-then-not-diagonals_hold c).Start in
    long-answer (parameters_in c.in_ok-accepted.accepted) s.args.profile (first s) (second s) (message s) s.args.c.now (out s) (some-column e)
    (sym c.diagonals_hold.ensures ∙ c.if-not-diagonals_hold.true)
    ∙ answers e

pub norm_holds-requires : goal.norm_holds-requires
norm_holds-requires c =
    let e = (goal.at.norm_holds-requires c).In_ok-test_verify in
    let l = (proper e).lengths in
    record { fits = (l.0.1, l.2.0, l.1.1, l.2.2); bounded = (proper e).entries }

pub returns-then-not-norm_holds : goal.returns-then-not-norm_holds
unfolding verdict_of
returns-then-not-norm_holds c =
    let e = (goal.at.returns-then-not-norm_holds c).In_ok-test_verify in
    let s = (goal.at.returns-then-not-norm_holds c).Start in
    norm-answer (parameters_in c.in_ok-accepted.accepted) s.args.profile (first s) (second s) (message s) s.args.c.now (out s) (some-column e)
    (sym c.diagonals_hold.ensures ∙ c.if-not-diagonals_hold.false) (sym c.norm_holds.ensures ∙ c.if-not-norm_holds.true)
    ∙ answers e

pub commitment_holds-requires : goal.commitment_holds-requires
commitment_holds-requires c =
    let l = (proper (goal.at.commitment_holds-requires c).In_ok-test_verify).lengths in
    (l.0.0, l.1.0, l.2.1)

pub returns-then-not-commitment_holds : goal.returns-then-not-commitment_holds
unfolding verdict_of
returns-then-not-commitment_holds c =
    let e = (goal.at.returns-then-not-commitment_holds c).In_ok-test_verify in
    let s = (goal.at.returns-then-not-commitment_holds c).Start in
    commitment-answer (parameters_in c.in_ok-accepted.accepted) s.args.profile (first s) (second s) (message s) s.args.c.now (out s) (some-column e)
    (sym c.diagonals_hold.ensures ∙ c.if-not-diagonals_hold.false) (sym c.norm_holds.ensures ∙ c.if-not-norm_holds.false)
    (sym c.commitment_holds.ensures ∙ c.if-not-commitment_holds.true)
    ∙ answers e

pub write_folded-requires : goal.write_folded-requires
write_folded-requires c =
    let e = (goal.at.write_folded-requires c).In_ok-test_verify in
    let l = (proper e).lengths in
    record { fits = (l.2.1, l.2.2, l.3, l.4.0, l.4.1); bounded = (proper e).entries }

-- the sum fits, as the counts can be joined
pub overflow_add-result : goal.overflow_add-result
overflow_add-result c = omega (arith, (proper (goal.at.overflow_add-result c).In_ok-test_verify).counts.2)

pub returns : goal.returns
unfolding verdict_of
returns c =
    let e = (goal.at.returns c).In_ok-test_verify in
    let s = (goal.at.returns c).Start in
    let folded = c.write_folded.ensures in
    yes_answer (parameters_in c.in_ok-accepted.accepted) s.args.profile (first s) (second s) (message s) s.args.c.now (out s) (some-column e)
    (sym c.diagonals_hold.ensures ∙ c.if-not-diagonals_hold.false) (sym c.norm_holds.ensures ∙ c.if-not-norm_holds.false)
    (sym c.commitment_holds.ensures ∙ c.if-not-commitment_holds.false) _ _ folded.t_after folded.d_after
    ∙ answers e
