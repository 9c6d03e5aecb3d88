-- `joins::test_join` meets its contract: its tests are the rules, in their order.
use mathlib.Core.Path.{sym, ◌∙◌}
use Rattle.lova.specs.Join.{join_rules}
use Rattle.lova.proofs.Numbers.{gives-number, gives_later, gives_none}
use Rattle.joins.proofs.test_join.Goals as goal

pub returns-then-not-lengths_fit : goal.returns-then-not-lengths_fit
unfolding join_rules
returns-then-not-lengths_fit c = gives-number _ 7 _ (sym c.lengths_fit.ensures ∙ c.if-not-lengths_fit.true)

pub returns-then-not-counts_join : goal.returns-then-not-counts_join
unfolding join_rules
returns-then-not-counts_join c =
    gives_later _ 7 _ 15 (sym c.lengths_fit.ensures ∙ c.if-not-lengths_fit.false)
    (gives-number _ 15 _ (sym c.counts_join.ensures ∙ c.if-not-counts_join.true))

pub returns : goal.returns
unfolding join_rules
returns c =
    gives_later _ 7 _ 0 (sym c.lengths_fit.ensures ∙ c.if-not-lengths_fit.false)
    (gives_later _ 15 _ 0 (sym c.counts_join.ensures ∙ c.if-not-counts_join.false) gives_none)
