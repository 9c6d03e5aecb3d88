-- `relations::test_relation` meets its contract: after the refusals its three tests are those of the definition, in their order.
use mathlib.Core.Path.{◌≡◌, refl, sym, ap, subst, ◌∙◌}
use mathlib.Core.Bool.{Bool, true, false}
use mathlib.Core.List.{List}
use lib.Dec.{T}
use Rattle.std.proofs.lemmas.Result.{err_from_is_err_and}
use Rattle.settings.proofs.Numbers.{numbered-some}
use Rattle.settings.specs.Rules.{Rule}
use Rattle.settings.specs.Accepted.{parameters_in}
use Rattle.settings.specs.Settings.{Parameters, parameters_of}
use Rattle.lova.specs.declared.Profile.TheVariants.{General}
use Rattle.lova.specs.Answers.{Outcome, membership_of, ends, long, products, commitment, member}
use Rattle.lova.specs.Lent.{as_instance}
use Rattle.lova.specs.Stored.{Instance}
use Rattle.lova.specs.Tests.{short, short_right}
use Rattle.lova.specs.Calls.{RelationLengths}
use Rattle.lova.specs.Relation.{relation_rules, products_hold, commitment_holds, member_word, relation}
use Rattle.lova.proofs.Tests.{short_iff}
use Rattle.lova.proofs.Refusals.{relation-proper}
use Rattle.lova.proofs.WaysOut.{out_by-setting, out_by-own, out_at-end, none_applied}
use Rattle.relations.proofs.test_relation.Goals as goal
use Rattle.relations.proofs.test_relation.Goals.{After-columns_within, After-commitment_holds, After-products_hold, In_ok-test_lengths, Start}

-- what is lent, the rules, and what is answered where none of them applies
module _ (s : Start) where
  abbrev lent : Instance
  lent = as_instance s.args.t.now s.args.d.now

  abbrev rules : Parameters → List Rule
  rules p = relation_rules p s.args.a.now lent s.args.s.now

  abbrev answer : Parameters → Outcome (Unit {0})
  answer p = ends (member_word (short p s.args.s.now) (products_hold p lent s.args.s.now) (commitment_holds p s.args.a.now lent s.args.s.now)) tt

pub returns-in_err-accepted : goal.returns-in_err-accepted
unfolding membership_of relation
returns-in_err-accepted c =
    let s = (goal.at.returns-in_err-accepted c).Start in
    let p = err_from_is_err_and c.from_residual.result c.from_residual.ensures.1 in
    rw (p.1, p.2) (ap (λ (o : Outcome (Unit {0})). o.answer) (out_by-setting (rules s) tt (answer s) (parameters_of s.args.setting) _ c.in_err-accepted.ensures))

pub returns-in_err-test_lengths : goal.returns-in_err-test_lengths
unfolding membership_of relation
returns-in_err-test_lengths c =
    let s = (goal.at.returns-in_err-test_lengths c).Start in
    let p = err_from_is_err_and c.from_residual-in_err-test_lengths.result c.from_residual-in_err-test_lengths.ensures.1 in
    rw (p.1, p.2) (ap (λ (o : Outcome (Unit {0})). o.answer)
    (out_by-own (rules s) tt (answer s) (parameters_of s.args.setting) c.in_ok-accepted.accepted.setting c.in_ok-accepted.ensures _ c.in_err-test_lengths.ensures (numbered-some _)))

-- past the refusals the slices have their lengths, and the answer is the word of the three tests
lengths : (c : In_ok-test_lengths) →
    let s = (goal.at.In_ok-test_lengths c).Start in
    RelationLengths (parameters_in c.in_ok-accepted.accepted) s.args.a.now (lent s) s.args.s.now
lengths c =
    let s = (goal.at.In_ok-test_lengths c).Start in
    ((relation-proper (parameters_in c.in_ok-accepted.accepted) s.args.a.now (lent s) s.args.s.now).0
    (none_applied (rules s) tt (answer s) (parameters_of s.args.setting) c.in_ok-accepted.accepted.setting c.in_ok-accepted.ensures 0 c.in_ok-test_lengths.ensures refl)).lengths

answers : (c : In_ok-test_lengths) →
    let s = (goal.at.In_ok-test_lengths c).Start in
    (answer s (parameters_in c.in_ok-accepted.accepted)).answer ≡ (relation (parameters_of s.args.setting) s.args.a.now (lent s) s.args.s.now).answer
unfolding relation
answers c =
    let s = (goal.at.In_ok-test_lengths c).Start in
    ap (λ (o : Outcome (Unit {0})). o.answer)
    (out_at-end (rules s) tt (answer s) (parameters_of s.args.setting) c.in_ok-accepted.accepted.setting c.in_ok-accepted.ensures 0 c.in_ok-test_lengths.ensures refl)

-- what each test's outcome says
short-is : (c : After-columns_within) → short (parameters_in c.in_ok-accepted.accepted) c.args.s.now ≡ c.columns_within.result
unfolding short_right
short-is c = sym c.columns_within.ensures

products-are : (c : After-products_hold) → products_hold (parameters_in c.in_ok-accepted.accepted) (as_instance c.args.t.now c.args.d.now) c.args.s.now ≡ c.products_hold.result
unfolding products_hold
products-are c = sym c.products_hold.ensures

commitment-is : (c : After-commitment_holds) → commitment_holds (parameters_in c.in_ok-accepted.accepted) c.args.a.now (as_instance c.args.t.now c.args.d.now) c.args.s.now ≡ c.commitment_holds.result
unfolding commitment_holds
commitment-is c = sym c.commitment_holds.ensures

-- the first test that fails gives its word
module _ (isShort holdsD holds_t : Bool) where
  says-long : isShort ≡ false → long ≡ member_word isShort holdsD holds_t
  unfolding member_word
  says-long e = rw e refl

  says-products : isShort ≡ true → holdsD ≡ false → products ≡ member_word isShort holdsD holds_t
  unfolding member_word
  says-products e f = rw (e, f) refl

  says-commitment : isShort ≡ true → holdsD ≡ true → holds_t ≡ false → commitment ≡ member_word isShort holdsD holds_t
  unfolding member_word
  says-commitment e f g = rw (e, f, g) refl

  says-member : isShort ≡ true → holdsD ≡ true → holds_t ≡ true → member ≡ member_word isShort holdsD holds_t
  unfolding member_word
  says-member e f g = rw (e, f, g) refl

pub columns_within-requires : goal.columns_within-requires
columns_within-requires c = (lengths (goal.at.columns_within-requires c).In_ok-test_lengths).2

pub returns-then-not-columns_within : goal.returns-then-not-columns_within
unfolding membership_of
returns-then-not-columns_within c =
    let at = goal.at.returns-then-not-columns_within c in
    says-long _ _ _ (short-is at.After-columns_within ∙ c.if-not-columns_within.true) ∙ answers at.In_ok-test_lengths

pub products_hold-requires : goal.products_hold-requires
products_hold-requires c =
    let at = goal.at.products_hold-requires c in
    let p = parameters_in c.in_ok-accepted.accepted in
    let l = lengths at.In_ok-test_lengths in
    (l.1.1, l.2, (short_iff p General c.args.s.now).0 (subst T (sym (short-is at.After-columns_within ∙ c.if-not-columns_within.false)) tt))

pub returns-then-not-products_hold : goal.returns-then-not-products_hold
unfolding membership_of
returns-then-not-products_hold c =
    let at = goal.at.returns-then-not-products_hold c in
    says-products _ _ _ (short-is at.After-columns_within ∙ c.if-not-columns_within.false) (products-are at.After-products_hold ∙ c.if-not-products_hold.true) ∙ answers at.In_ok-test_lengths

pub commitment_holds-requires : goal.commitment_holds-requires
commitment_holds-requires c = let l = lengths (goal.at.commitment_holds-requires c).In_ok-test_lengths in (l.0, l.1.0, l.2)

pub returns-then-not-commitment_holds : goal.returns-then-not-commitment_holds
unfolding membership_of
returns-then-not-commitment_holds c =
    let at = goal.at.returns-then-not-commitment_holds c in
    says-commitment _ _ _ (short-is at.After-columns_within ∙ c.if-not-columns_within.false) (products-are at.After-products_hold ∙ c.if-not-products_hold.false)
    (commitment-is at.After-commitment_holds ∙ c.if-not-commitment_holds.true)
    ∙ answers at.In_ok-test_lengths

pub returns : goal.returns
unfolding membership_of
returns c =
    let at = goal.at.returns c in
    says-member _ _ _ (short-is at.After-columns_within ∙ c.if-not-columns_within.false) (products-are at.After-products_hold ∙ c.if-not-products_hold.false)
    (commitment-is at.After-commitment_holds ∙ c.if-not-commitment_holds.false)
    ∙ answers at.In_ok-test_lengths
