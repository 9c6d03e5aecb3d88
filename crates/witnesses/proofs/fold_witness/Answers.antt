-- `witnesses::fold_witness` meets its contract: refused by the setting's rules or by its own, or else S' is written.
use mathlib.Core.Path.{refl, ◌∙◌, ap}
use mathlib.Core.List.{List}
use lib.IntN.{ℤ}
use Rattle.std.proofs.lemmas.Result.{err_from_is_err_and}
use Rattle.settings.proofs.Numbers.{numbered-some}
use Rattle.settings.specs.Accepted.{parameters_in}
use Rattle.settings.specs.Rules.{Rule}
use Rattle.settings.specs.Settings.{Parameters, parameters_of}
use Rattle.lova.specs.Answers.{done, answer_of, Outcome, ends}
use Rattle.lova.specs.Stored.{matrix_S~}
use Rattle.lova.specs.Repeats.{repeated_S~}
use Rattle.lova.specs.Calls.{ProperWitness}
use Rattle.lova.specs.Witness.{witness_rules, folded_witness, witness_in}
use Rattle.lova.proofs.Refusals.{witness-proper}
use Rattle.lova.proofs.WaysOut.{out_by-setting, out_by-own, none_applied, out_at-end}
use Rattle.witnesses.proofs.Kernel.{challenge-whole, fold_asks, folded-is}
use Rattle.witnesses.proofs.fold_witness.Goals as goal
use Rattle.witnesses.proofs.fold_witness.Goals.{In_ok-test_fold, Start}

-- the rules, and what is written where none of them applies
module _ (s : Start) where
  abbrev rules : Parameters → List Rule
  rules p = witness_rules p s.args.profile s.args.ss.now s.args.c.now s.args.s.now

  abbrev result : Parameters → Outcome (List ℤ)
  result p = ends done (folded_witness p ((matrix_S~ p).read (repeated_S~ p s.args.profile s.args.ss.now)) s.args.c.now)

pub returns-in_err-accepted : goal.returns-in_err-accepted
unfolding witness_in answer_of
returns-in_err-accepted c =
    let s = (goal.at.returns-in_err-accepted c).Start in
    let p = err_from_is_err_and c.from_residual.result c.from_residual.ensures.1 in
    rw (p.1, p.2) (out_by-setting (rules s) s.args.s.now (result s) (parameters_of s.args.setting) _ c.in_err-accepted.ensures)

pub returns-in_err-test_fold : goal.returns-in_err-test_fold
unfolding witness_in answer_of
returns-in_err-test_fold c =
    let s = (goal.at.returns-in_err-test_fold c).Start in
    let r = c.from_residual-in_err-test_fold in
    let p = err_from_is_err_and r.result r.ensures.1 in
    rw (p.1, p.2) (out_by-own (rules s) s.args.s.now (result s) (parameters_of s.args.setting) c.in_ok-accepted.accepted.setting c.in_ok-accepted.ensures _ c.in_err-test_fold.ensures (numbered-some _))

-- past the refusals the call is proper
proper : (c : In_ok-test_fold) →
    let a = c.args in
    ProperWitness (parameters_in c.in_ok-accepted.accepted) a.profile a.ss.now a.c.now a.s.now
proper c =
    let s = (goal.at.In_ok-test_fold c).Start in
    (witness-proper (parameters_in c.in_ok-accepted.accepted) s.args.profile s.args.ss.now s.args.c.now s.args.s.now).0
    (none_applied (rules s) s.args.s.now (result s) (parameters_of s.args.setting) c.in_ok-accepted.accepted.setting c.in_ok-accepted.ensures 0 c.in_ok-test_fold.ensures refl)

pub invariant_of-challenge : goal.invariant_of-challenge
invariant_of-challenge c =
    let a = c.args in
    let whole = challenge-whole c.in_ok-accepted.accepted a.profile c.right.result c.right.ensures c.copies.result c.copies.ensures a.ss.now a.c.now
    (proper (goal.at.invariant_of-challenge c).In_ok-test_fold).lengths.1 in
    record { whole = whole.0; some = whole.1; few = whole.2 }

pub fold_digits-requires : goal.fold_digits-requires
fold_digits-requires c =
    let a = c.args in
    let f = c.copies in
    fold_asks c.in_ok-accepted.accepted a.profile c.right.result c.right.ensures f.result f.ensures a.ss.now a.c.now a.s.now
    (proper (goal.at.fold_digits-requires c).In_ok-test_fold)

pub returns : goal.returns
unfolding witness_in answer_of
returns c =
    let s = (goal.at.returns c).Start in
    let a = s.args in
    let x = c.in_ok-accepted.accepted in
    let f = c.copies in
    ap (λ (z : List ℤ). ends done z) (folded-is x a.profile c.right.result c.right.ensures f.result f.ensures a.ss.now a.c.now _ c.fold_digits.ensures)
    ∙ out_at-end (rules s) a.s.now (result s) (parameters_of a.setting) x.setting c.in_ok-accepted.ensures 0 c.in_ok-test_fold.ensures refl
