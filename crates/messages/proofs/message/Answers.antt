-- `messages::message` meets its contract: refused by the setting's rules or by its own, or else all four outputs are written.
use mathlib.Core.Path.{refl, ◌∙◌, ap}
use mathlib.Core.List.{List}
use native.Mathlib.Omega.{arith}
use Rattle.std.proofs.lemmas.Result.{err_from_is_err_and}
use Rattle.settings.proofs.Numbers.{numbered-some}
use Rattle.settings.specs.Accepted.{parameters_in}
use Rattle.settings.specs.Rules.{Rule}
use Rattle.settings.specs.Settings.{Parameters, parameters_of}
use Rattle.lova.specs.Answers.{done, answer_of, Outcome, ends}
use Rattle.lova.specs.Stored.{Prepared}
use Rattle.lova.specs.Calls.{ProperMessage}
use Rattle.lova.specs.Message.{message_rules, prepared_in, message_in}
use Rattle.lova.proofs.Refusals.{message-proper}
use Rattle.lova.proofs.Rebuilding.{rebuilt-is}
use Rattle.lova.proofs.WaysOut.{out_by-setting, out_by-own, none_applied, out_at-end}
use Rattle.lova.proofs.Widths.{right-most, wide-few}
use Rattle.messages.proofs.Preparing.{cross-lengths, cross-sizes, witness-lengths, witness-reach, commitment-lengths, gram-asks, prepared-is}
use Rattle.messages.proofs.message.Goals as goal
use Rattle.messages.proofs.message.Goals.{In_ok-test_message, Start}

-- what is lent, the rules, and what is written where none of them applies
module _ (s : Start) where
  abbrev out : Prepared
  out = record { message = record { «V» = s.args.v.now; T~ = s.args.tt.now; D~ = s.args.dd.now }; S~ = s.args.ss.now }

  abbrev rules : Parameters → List Rule
  rules p = message_rules p s.args.profile s.args.a.now s.args.s1.now s.args.s2.now out

  abbrev result : Parameters → Outcome Prepared
  result p = ends done (prepared_in p s.args.profile s.args.a.now s.args.s1.now s.args.s2.now)

pub returns-in_err-accepted : goal.returns-in_err-accepted
unfolding message_in answer_of
returns-in_err-accepted c =
    let s = (goal.at.returns-in_err-accepted c).Start in
    let p = err_from_is_err_and c.from_residual.result c.from_residual.ensures.1 in
    rw (p.1, p.2) (out_by-setting (rules s) (out s) (result s) (parameters_of s.args.setting) _ c.in_err-accepted.ensures)

pub returns-in_err-test_message : goal.returns-in_err-test_message
unfolding message_in answer_of
returns-in_err-test_message c =
    let s = (goal.at.returns-in_err-test_message c).Start in
    let r = c.from_residual-in_err-test_message in
    let p = err_from_is_err_and r.result r.ensures.1 in
    rw (p.1, p.2) (out_by-own (rules s) (out s) (result s) (parameters_of s.args.setting) c.in_ok-accepted.accepted.setting c.in_ok-accepted.ensures _ c.in_err-test_message.ensures (numbered-some _))

-- past the refusals the call is proper
proper : (c : In_ok-test_message) →
    let s = (goal.at.In_ok-test_message c).Start in
    ProperMessage (parameters_in c.in_ok-accepted.accepted) s.args.profile s.args.a.now s.args.s1.now s.args.s2.now (out s)
proper c =
    let s = (goal.at.In_ok-test_message c).Start in
    (message-proper (parameters_in c.in_ok-accepted.accepted) s.args.profile s.args.a.now s.args.s1.now s.args.s2.now (out s)).0
    (none_applied (rules s) (out s) (result s) (parameters_of s.args.setting) c.in_ok-accepted.accepted.setting c.in_ok-accepted.ensures 0 c.in_ok-test_message.ensures refl)

pub overflow_mul-wide : goal.overflow_mul-wide
overflow_mul-wide c =
    let x = c.in_ok-accepted.accepted in
    omega (arith, wide-few x.setting (rebuilt-is x) c.args.profile c.right-right.result c.right-right.ensures)

-- what the products ask, and what they leave
pub cross_products-requires : goal.cross_products-requires
cross_products-requires c =
    let e = (goal.at.cross_products-requires c).In_ok-test_message in
    let s = (goal.at.cross_products-requires c).Start in
    let a = s.args in
    let x = c.in_ok-accepted.accepted in
    let r = c.right-right in
    record { x_len = cross-lengths x a.profile r.result r.ensures a.a.now a.s1.now a.s2.now (out s) (proper e); by_index = cross-sizes x a.profile r.result r.ensures a.a.now a.s1.now a.s2.now (out s) (proper e) }

pub write_witness-requires : goal.write_witness-requires
write_witness-requires c =
    let e = (goal.at.write_witness-requires c).In_ok-test_message in
    let s = (goal.at.write_witness-requires c).Start in
    let a = s.args in
    let x = c.in_ok-accepted.accepted in
    let r = c.right-right in
    record {
      right_le = right-most x.setting (rebuilt-is x) a.profile r.result r.ensures;
      s1_len = witness-lengths x a.profile r.result r.ensures a.a.now a.s1.now a.s2.now (out s) (proper e);
      all_in_reach = witness-reach x a.profile r.result r.ensures a.a.now a.s1.now a.s2.now (out s) (proper e);
    }

pub commitment-requires : goal.commitment-requires
commitment-requires c =
    let e = (goal.at.commitment-requires c).In_ok-test_message in
    let s = (goal.at.commitment-requires c).Start in
    let a = s.args in
    let x = c.in_ok-accepted.accepted in
    let r = c.right-right in
    commitment-lengths x a.profile r.result r.ensures a.a.now a.s1.now a.s2.now (out s) (proper e) _ c.write_witness.ensures

pub small_gram-requires : goal.small_gram-requires
small_gram-requires c =
    let e = (goal.at.small_gram-requires c).In_ok-test_message in
    let s = (goal.at.small_gram-requires c).Start in
    let a = s.args in
    let x = c.in_ok-accepted.accepted in
    let r = c.right-right in
    gram-asks x a.profile r.result r.ensures a.a.now a.s1.now a.s2.now (out s) (proper e) _ c.write_witness.ensures

pub returns : goal.returns
unfolding message_in answer_of
returns c =
    let e = (goal.at.returns c).In_ok-test_message in
    let s = (goal.at.returns c).Start in
    let a = s.args in
    let x = c.in_ok-accepted.accepted in
    let r = c.right-right in
    ap (λ (x : Prepared). ends done x)
    (prepared-is x a.profile r.result r.ensures a.a.now a.s1.now a.s2.now (out s) (proper e) _ c.write_witness.ensures _ _ _ c.cross_products.ensures c.commitment.ensures c.small_gram.ensures)
    ∙ out_at-end (rules s) (out s) (result s) (parameters_of a.setting) x.setting c.in_ok-accepted.ensures 0 c.in_ok-test_message.ensures refl
