-- `commitments::test_commit` meets its contract: its tests are the rules, in their order.
use mathlib.Core.Path.{◌≡◌, sym, ◌∙◌}
use Rattle.settings.specs.Accepted.{parameters_in}
use Rattle.lova.specs.Tests.{short_right}
use Rattle.lova.specs.Commit.{commit_rules}
use Rattle.lova.proofs.Numbers.{gives-number, gives_later, gives_none}
use Rattle.lova.proofs.Widths.{short-of}
use Rattle.lova.proofs.Rebuilding.{rebuilt-is}
use Rattle.commitments.proofs.test_commit.Goals as goal
use Rattle.commitments.proofs.test_commit.Goals.{After-columns_within, After-lengths_fit, Else-not-lengths_fit, Start}

abbrev start : After-lengths_fit → Start
start c = (goal.at.After-lengths_fit c).Start

pub returns-then-not-lengths_fit : goal.returns-then-not-lengths_fit
unfolding commit_rules
returns-then-not-lengths_fit c = gives-number _ 7 _ (sym c.lengths_fit.ensures ∙ c.if-not-lengths_fit.true)

columns-are : (c : After-columns_within) →
    let a = (start (goal.at.After-columns_within c).After-lengths_fit).args in
    c.columns_within.result ≡ short_right (parameters_in a.accepted.now) a.profile a.s.now
columns-are c =
    let s = start (goal.at.After-columns_within c).After-lengths_fit in
    c.columns_within.ensures ∙ short-of s.args.accepted.now.setting (rebuilt-is s.args.accepted.now) s.args.profile c.right-right.result c.right-right.ensures s.args.s.now

pub returns-then-not-columns_within : goal.returns-then-not-columns_within
unfolding commit_rules
returns-then-not-columns_within c =
    gives_later _ 7 _ 8 (sym c.lengths_fit.ensures ∙ c.if-not-lengths_fit.false)
    (gives-number _ 8 _ (sym (columns-are (goal.at.returns-then-not-columns_within c).After-columns_within) ∙ c.if-not-columns_within.true))

pub returns : goal.returns
unfolding commit_rules
returns c =
    gives_later _ 7 _ 0 (sym c.lengths_fit.ensures ∙ c.if-not-lengths_fit.false)
    (gives_later _ 8 _ 0 (sym (columns-are (goal.at.returns c).After-columns_within) ∙ c.if-not-columns_within.false) gives_none)
