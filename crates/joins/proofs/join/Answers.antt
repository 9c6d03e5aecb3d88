-- `joins::join` meets its contract: refused by the setting's rules or by its own, or else T and D are written and the leaves added.
use mathlib.Core.Path.{refl, sym, ◌∙◌, ap, ap₂}
use mathlib.Core.List.{List}
use lib.IntN.{ℤ}
use native.Mathlib.Omega.{arith}
use Prim.Native.Nat.{ℕ, ◌+◌, ◌*◌, ◌≤◌}
use Rattle.std.proofs.lemmas.Result.{err_from_is_err_and}
use Rattle.settings.proofs.Numbers.{numbered-some}
use Rattle.settings.specs.Rules.{Rule}
use Rattle.settings.specs.Accepted.{parameters_in}
use Rattle.settings.specs.Settings.{Parameters, parameters_of}
use Rattle.lova.specs.Answers.{done, answer_of, Outcome, ends}
use Rattle.lova.specs.Stored.{Instance, Counted, counted}
use Rattle.lova.specs.Lent.{as_instance, lent_instance}
use Rattle.lova.specs.Calls.{ProperJoin}
use Rattle.lova.specs.Repeats.{repeated_instance, repeated_V}
use Rattle.lova.specs.Join.{join_rules, joined_instance, join_in}
use Rattle.lova.proofs.Refusals.{join-proper}
use Rattle.lova.proofs.Rebuilding.{rebuilt-is, rebuilt-accepted}
use Rattle.lova.proofs.WaysOut.{out_by-setting, out_by-own, none_applied, out_at-end}
use Rattle.joins.proofs.Columns.{joined_once}
use Rattle.joins.proofs.join.Goals as goal
use Rattle.joins.proofs.join.Goals.{In_ok-test_join, Start}

-- what is lent, what a refusal leaves, the rules, and what is written where none of them applies
module _ (s : Start) where
  abbrev first : Counted
  first = lent_instance s.args.first

  abbrev second : Counted
  second = lent_instance s.args.second

  abbrev out : Instance
  out = as_instance s.args.t.now s.args.d.now

  abbrev kept : Counted
  kept = counted out 0

  abbrev rules : Parameters → List Rule
  rules p = join_rules p s.args.profile first second s.args.v.now out

  -- done with this instance, and with the leaves of both
  abbrev makes : Instance → Outcome Counted
  makes I = ends done (counted I (s.args.first.leaves + s.args.second.leaves))

  abbrev result : Parameters → Outcome Counted
  result p = makes (joined_instance p first.instance (repeated_instance p s.args.profile second.instance) (repeated_V p s.args.profile s.args.v.now))

pub returns-in_err-accepted : goal.returns-in_err-accepted
unfolding join_in answer_of
returns-in_err-accepted c =
    let s = (goal.at.returns-in_err-accepted c).Start in
    let p = err_from_is_err_and c.from_residual.result c.from_residual.ensures.1 in
    rw (p.1, p.2) (out_by-setting (rules s) (kept s) (result s) (parameters_of s.args.setting) _ c.in_err-accepted.ensures)

pub returns-in_err-test_join : goal.returns-in_err-test_join
unfolding join_in answer_of
returns-in_err-test_join c =
    let s = (goal.at.returns-in_err-test_join c).Start in
    let p = err_from_is_err_and c.from_residual-in_err-test_join.result c.from_residual-in_err-test_join.ensures.1 in
    rw (p.1, p.2) (out_by-own (rules s) (kept s) (result s) (parameters_of s.args.setting) c.in_ok-accepted.accepted.setting c.in_ok-accepted.ensures _ c.in_err-test_join.ensures (numbered-some _))

-- past the refusals the call is proper
proper : (c : In_ok-test_join) →
    let s = (goal.at.In_ok-test_join c).Start in
    ProperJoin (parameters_in c.in_ok-accepted.accepted) s.args.profile (first s) (second s) s.args.v.now (out s)
proper c =
    let s = (goal.at.In_ok-test_join c).Start in
    let p = parameters_in c.in_ok-accepted.accepted in
    (join-proper p s.args.profile (first s) (second s) s.args.v.now (out s)).0
    (none_applied (rules s) (kept s) (result s) (parameters_of s.args.setting) c.in_ok-accepted.accepted.setting c.in_ok-accepted.ensures 0 c.in_ok-test_join.ensures refl)

-- the joined matrices have at most 32 columns
narrow : (c : In_ok-test_join) → 2 * c.in_ok-accepted.accepted.setting.t ≤ 32
narrow c = let a = c.in_ok-accepted.accepted in omega (arith, (rebuilt-accepted a.setting (rebuilt-is a)).t-high)

pub write_t-requires : goal.write_t-requires
write_t-requires c =
    let ok = (goal.at.write_t-requires c).In_ok-test_join in
    let l = (proper ok).lengths in
    (l.0.0, l.1.0, l.3.0, omega (arith, narrow ok))

pub write_d-requires : goal.write_d-requires
write_d-requires c =
    let l = (proper (goal.at.write_d-requires c).In_ok-test_join).lengths in
    (l.3.1, l.0.1, l.2, l.1.1)

-- the sum fits, as the counts can be joined
pub overflow_add-result : goal.overflow_add-result
overflow_add-result c = omega (arith, (proper (goal.at.overflow_add-result c).In_ok-test_join).counts.2)

pub returns : goal.returns
unfolding join_in answer_of
returns c =
    let s = (goal.at.returns c).Start in
    ap₂ (λ (t : List ℕ) (d : List ℤ). makes s (record { T = t; D = d })) c.write_t.ensures c.write_d.ensures
    ∙ ap (makes s) (sym (joined_once (parameters_in c.in_ok-accepted.accepted) s.args.profile (first s).instance (second s).instance s.args.v.now))
    ∙ out_at-end (rules s) (kept s) (result s) (parameters_of s.args.setting) c.in_ok-accepted.accepted.setting c.in_ok-accepted.ensures 0 c.in_ok-test_join.ensures refl
