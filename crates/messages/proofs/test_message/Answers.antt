-- `messages::test_message` meets its contract: its tests are the rules, in their order.
use mathlib.Core.Path.{◌≡◌, sym, ◌∙◌, ap, ap₂}
use mathlib.Core.Bool.{Bool, true, not, ◌&&◌}
use Rattle.settings.specs.Accepted.{parameters_in}
use Rattle.lova.specs.Tests.{short, short_right}
use Rattle.lova.specs.Message.{message_rules}
use Rattle.lova.proofs.Numbers.{failed-test, passed-test, gives-number, gives_later, gives_none}
use Rattle.lova.proofs.Widths.{short-of}
use Rattle.lova.proofs.Rebuilding.{rebuilt-is}
use Rattle.messages.proofs.test_message.Goals as goal
use Rattle.messages.proofs.test_message.Goals.{After-columns_within, After-columns_within-2, After-lengths_fit, Else-not-columns_within, Else-not-lengths_fit, Start}

abbrev start : After-lengths_fit → Start
start c = (goal.at.After-lengths_fit c).Start

pub returns-then-not-lengths_fit : goal.returns-then-not-lengths_fit
unfolding message_rules
returns-then-not-lengths_fit c = gives-number _ 7 _ (sym c.lengths_fit.ensures ∙ failed-test _ (ap not c.if-not-lengths_fit.true))

-- the tests of both witnesses
first-are : (c : After-columns_within) →
    let a = (start (goal.at.After-columns_within c).After-lengths_fit).args in
    c.columns_within.result ≡ short (parameters_in a.accepted.now) a.s1.now
unfolding short_right
first-are c = c.columns_within.ensures

pub returns-then-not-columns_within : goal.returns-then-not-columns_within
unfolding message_rules
returns-then-not-columns_within c =
    let e = (goal.at.returns-then-not-columns_within c).Else-not-lengths_fit in
    let a = (start (goal.at.returns-then-not-columns_within c).After-lengths_fit).args in
    gives_later _ 7 _ 8 (sym e.lengths_fit.ensures ∙ passed-test _ (ap not e.if-not-lengths_fit.false))
    (gives-number _ 8 _ (ap (λ (x : Bool). x && short_right (parameters_in a.accepted.now) a.profile a.s2.now) (sym (first-are (goal.at.returns-then-not-columns_within c).After-columns_within) ∙ failed-test _ (ap not c.if-not-columns_within.true))))

second-are : (c : After-columns_within-2) →
    let a = (start (goal.at.After-columns_within-2 c).After-lengths_fit).args in
    c.columns_within-2.result ≡ short_right (parameters_in a.accepted.now) a.profile a.s2.now
second-are c =
    let r = c in
    let s = start (goal.at.After-columns_within-2 c).After-lengths_fit in
    c.columns_within-2.ensures ∙ short-of s.args.accepted.now.setting (rebuilt-is s.args.accepted.now) s.args.profile r.right-right.result r.right-right.ensures s.args.s2.now

first-passed : (c : Else-not-columns_within) →
    let a = (start (goal.at.Else-not-columns_within c).After-lengths_fit).args in
    short (parameters_in a.accepted.now) a.s1.now ≡ true
first-passed c = sym (first-are (goal.at.Else-not-columns_within c).After-columns_within) ∙ passed-test _ (ap not c.if-not-columns_within.false)

pub returns-then-not-columns_within-2 : goal.returns-then-not-columns_within-2
unfolding message_rules
returns-then-not-columns_within-2 c =
    let p = (goal.at.returns-then-not-columns_within-2 c).Else-not-columns_within in
    let e = c in
    gives_later _ 7 _ 8 (sym e.lengths_fit.ensures ∙ passed-test _ (ap not e.if-not-lengths_fit.false))
    (gives-number _ 8 _ (ap₂ ◌&&◌ (first-passed p) (sym (second-are (goal.at.returns-then-not-columns_within-2 c).After-columns_within-2) ∙ failed-test _ (ap not c.if-not-columns_within-2.true))))

pub returns : goal.returns
unfolding message_rules
returns c =
    let p = (goal.at.returns c).Else-not-columns_within in
    let e = c in
    gives_later _ 7 _ 0 (sym e.lengths_fit.ensures ∙ passed-test _ (ap not e.if-not-lengths_fit.false))
    (gives_later _ 8 _ 0 (ap₂ ◌&&◌ (first-passed p) (sym (second-are (goal.at.returns c).After-columns_within-2) ∙ passed-test _ (ap not c.if-not-columns_within-2.false))) gives_none)
