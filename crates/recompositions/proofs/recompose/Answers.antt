-- `recompositions::recompose` meets its contract: refused by the setting's rules or by its own, or else both witnesses are written.
use mathlib.Core.Path.{◌≡◌, refl, sym, ◌∙◌, ap}
use mathlib.Core.List.{List}
use Prim.Native.Nat.{ℕ, ◌+◌, ◌*◌}
use native.Mathlib.Omega.{arith}
use lib.ListN.{length}
use Rattle.std.proofs.lemmas.Result.{err_from_is_err_and}
use Rattle.settings.proofs.Numbers.{numbered-some}
use Rattle.settings.specs.Accepted.{parameters_in}
use Rattle.settings.specs.Rules.{Rule}
use Rattle.settings.specs.Settings.{Parameters, parameters_of, h_of}
use Rattle.lova.specs.Answers.{done, answer_of, Outcome, ends}
use Rattle.lova.specs.Stored.{Witnesses, columns_of}
use Rattle.lova.specs.Calls.{ProperRecompose}
use Rattle.lova.specs.Recompose.{witnesses_of, recompose_rules, recompose_in}
use Rattle.lova.proofs.Refusals.{recompose-proper}
use Rattle.lova.proofs.Rebuilding.{rebuilt-is, rebuilt-accepted}
use Rattle.lova.proofs.Tests.{bounded-everywhere}
use Rattle.lova.proofs.WaysOut.{out_by-setting, out_by-own, none_applied, out_at-end}
use Rattle.lova.proofs.Widths.{wide-few}
use Rattle.recompositions.proofs.Passes.{rows_long, witnesses_are}
use Rattle.recompositions.proofs.recompose.Goals as goal
use Rattle.recompositions.proofs.recompose.Goals.{After-right-right, In_ok-test_recompose, Start}

-- what is lent, the rules, and what is written where none of them applies
module _ (s : Start) where
  abbrev out : Witnesses
  out = record { S₁ = s.args.s1.now; S₂ = s.args.s2.now }

  abbrev rules : Parameters → List Rule
  rules p = recompose_rules p s.args.profile s.args.ss.now out

  abbrev result : Parameters → Outcome Witnesses
  result p = ends done (witnesses_of p s.args.profile s.args.ss.now)

pub returns-in_err-accepted : goal.returns-in_err-accepted
unfolding recompose_in answer_of
returns-in_err-accepted c =
    let s = (goal.at.returns-in_err-accepted c).Start in
    let p = err_from_is_err_and c.from_residual.result c.from_residual.ensures.1 in
    rw (p.1, p.2) (out_by-setting (rules s) (out s) (result s) (parameters_of s.args.setting) _ c.in_err-accepted.ensures)

pub returns-in_err-test_recompose : goal.returns-in_err-test_recompose
unfolding recompose_in answer_of
returns-in_err-test_recompose c =
    let s = (goal.at.returns-in_err-test_recompose c).Start in
    let r = c.from_residual-in_err-test_recompose in
    let p = err_from_is_err_and r.result r.ensures.1 in
    rw (p.1, p.2) (out_by-own (rules s) (out s) (result s) (parameters_of s.args.setting) c.in_ok-accepted.accepted.setting c.in_ok-accepted.ensures _ c.in_err-test_recompose.ensures (numbered-some _))

-- past the refusals the call is proper
proper : (c : In_ok-test_recompose) →
    let s = (goal.at.In_ok-test_recompose c).Start in
    ProperRecompose (parameters_in c.in_ok-accepted.accepted) s.args.profile s.args.ss.now (out s)
proper c =
    let s = (goal.at.In_ok-test_recompose c).Start in
    (recompose-proper (parameters_in c.in_ok-accepted.accepted) s.args.profile s.args.ss.now (out s)).0
    (none_applied (rules s) (out s) (result s) (parameters_of s.args.setting) c.in_ok-accepted.accepted.setting c.in_ok-accepted.ensures 0 c.in_ok-test_recompose.ensures refl)

-- the length of S~ by its rows, with what `Profile::right` gave
long : (r : After-right-right) →
    let s = r.in_ok-accepted.accepted.setting in
    length r.args.ss.now ≡ s.m * ((s.t + r.right-right.result) * s.k)
long r = rows_long r.in_ok-accepted.accepted r.args.profile r.right-right.result r.right-right.ensures r.args.ss.now
    (proper (goal.at.After-right-right r).In_ok-test_recompose).lengths.0

pub invariant_of-rows : goal.invariant_of-rows
invariant_of-rows c =
    let x = c.in_ok-accepted.accepted in
    let p = parameters_in x in
    let acc = rebuilt-accepted x.setting (rebuilt-is x) in
    let q = proper (goal.at.invariant_of-rows c).In_ok-test_recompose in
    record {
      sized = (long (goal.at.invariant_of-rows c).After-right-right, wide-few x.setting (rebuilt-is x) c.args.profile c.right-right.result c.right-right.ensures);
      based = (acc.b-low, omega (arith, acc.b-high), bounded-everywhere p.m (columns_of p c.args.profile) (h_of p) c.args.ss.now q.lengths.0 q.entries);
    }

pub write_columns-requires : goal.write_columns-requires
write_columns-requires c = ((proper (goal.at.write_columns-requires c).In_ok-test_recompose).lengths.1, omega arith)

pub write_columns-requires-2 : goal.write_columns-requires-2
write_columns-requires-2 c =
    let x = c.in_ok-accepted.accepted in (
      (proper (goal.at.write_columns-requires-2 c).In_ok-test_recompose).lengths.2 ∙ ap (λ (w : ℕ). x.setting.m * w) (sym c.right-right.ensures),
      omega arith,
    )

pub returns : goal.returns
unfolding recompose_in answer_of
returns c =
    let s = (goal.at.returns c).Start in
    let x = c.in_ok-accepted.accepted in
    let q = proper (goal.at.returns c).In_ok-test_recompose in
    ap (λ (w : Witnesses). ends done w)
    (witnesses_are x s.args.profile c.right-right.result c.right-right.ensures s.args.ss.now (long (goal.at.returns c).After-right-right) q.columns _ _
    c.write_columns.ensures c.write_columns-2.ensures)
    ∙ out_at-end (rules s) (out s) (result s) (parameters_of s.args.setting) x.setting c.in_ok-accepted.ensures 0 c.in_ok-test_recompose.ensures refl
