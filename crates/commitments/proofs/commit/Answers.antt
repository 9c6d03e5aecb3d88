-- `commitments::commit` meets its contract: refused by the setting's rules or by its own, or else T and D are written, and one
-- leaf is counted.
use mathlib.Core.Path.{refl, ◌∙◌, ap₂}
use mathlib.Core.List.{List}
use lib.IntN.{ℤ}
use Prim.Native.Nat.{ℕ}
use Rattle.std.proofs.lemmas.Result.{err_from_is_err_and}
use Rattle.settings.proofs.Numbers.{numbered-some}
use Rattle.settings.specs.Rules.{Rule}
use Rattle.settings.specs.Accepted.{parameters_in}
use Rattle.settings.specs.Settings.{Parameters, parameters_of}
use Rattle.lova.specs.Answers.{done, answer_of, Outcome, ends}
use Rattle.lova.specs.Stored.{Instance, Counted, counted}
use Rattle.lova.specs.Calls.{ProperCommit}
use Rattle.lova.specs.Commit.{commit_rules, instance_in, commit_in}
use Rattle.lova.proofs.Refusals.{commit-proper}
use Rattle.lova.proofs.NeverWraps.{columns_fit}
use Rattle.lova.proofs.Rebuilding.{rebuilt-is, rebuilt-accepted}
use Rattle.lova.proofs.WaysOut.{out_by-setting, out_by-own, none_applied, out_at-end}
use Rattle.commitments.proofs.commit.Goals as goal
use Rattle.commitments.proofs.commit.Goals.{In_ok-test_commit, Start}

-- what is lent, what a refusal leaves, the rules, and what is written where none of them applies
module _ (s : Start) where
  abbrev out : Instance
  out = record { T = s.args.t.now; D = s.args.d.now }

  abbrev kept : Counted
  kept = counted out 0

  abbrev rules : Parameters → List Rule
  rules p = commit_rules p s.args.profile s.args.a.now s.args.s.now out

  abbrev result : Parameters → Outcome Counted
  result p = ends done (counted (instance_in p s.args.profile s.args.a.now s.args.s.now) 1)

pub returns-in_err-accepted : goal.returns-in_err-accepted
unfolding commit_in answer_of
returns-in_err-accepted c =
    let s = (goal.at.returns-in_err-accepted c).Start in
    let p = err_from_is_err_and c.from_residual.result c.from_residual.ensures.1 in
    rw (p.1, p.2) (out_by-setting (rules s) (kept s) (result s) (parameters_of s.args.setting) _ c.in_err-accepted.ensures)

pub returns-in_err-test_commit : goal.returns-in_err-test_commit
unfolding commit_in answer_of
returns-in_err-test_commit c =
    let s = (goal.at.returns-in_err-test_commit c).Start in
    let p = err_from_is_err_and c.from_residual-in_err-test_commit.result c.from_residual-in_err-test_commit.ensures.1 in
    rw (p.1, p.2) (out_by-own (rules s) (kept s) (result s) (parameters_of s.args.setting) c.in_ok-accepted.accepted.setting c.in_ok-accepted.ensures _ c.in_err-test_commit.ensures (numbered-some _))

-- past the refusals the call is proper
proper : (c : In_ok-test_commit) →
    let a = c.args in
    ProperCommit (parameters_in c.in_ok-accepted.accepted) a.profile a.a.now a.s.now (record { T = a.t.now; D = a.d.now })
proper c =
    let s = (goal.at.In_ok-test_commit c).Start in
    let p = parameters_in c.in_ok-accepted.accepted in
    (commit-proper p s.args.profile s.args.a.now s.args.s.now (out s)).0
    (none_applied (rules s) (kept s) (result s) (parameters_of s.args.setting) c.in_ok-accepted.accepted.setting c.in_ok-accepted.ensures 0 c.in_ok-test_commit.ensures refl)

pub commitment-requires : goal.commitment-requires
commitment-requires c =
    let l = (proper (goal.at.commitment-requires c).In_ok-test_commit).lengths in
    rw c.right-right.ensures (l.0, l.1, l.2.0)

pub cross_products-requires : goal.cross_products-requires
cross_products-requires c =
    let ok = (goal.at.cross_products-requires c).In_ok-test_commit in
    let a = c.in_ok-accepted.accepted in
    let l = (proper ok).lengths in
    let columns = (proper ok).columns in
    rw c.right-right.ensures (record { x_len = (l.1, l.1, l.2.1); by_index = columns_fit (parameters_in a) (rebuilt-accepted a.setting (rebuilt-is a)) c.args.profile c.args.profile c.args.s.now c.args.s.now columns columns })

pub returns : goal.returns
unfolding commit_in answer_of instance_in
returns c =
    let s = (goal.at.returns c).Start in
    let columns = c.right-right.ensures in
    ap₂ (λ (t : List ℕ) (d : List ℤ). ends done (counted (record { T = t; D = d }) 1)) (rw columns at c.commitment.ensures) (rw columns at c.cross_products.ensures)
    ∙ out_at-end (rules s) (kept s) (result s) (parameters_of s.args.setting) c.in_ok-accepted.accepted.setting c.in_ok-accepted.ensures 0 c.in_ok-test_commit.ensures refl
