-- `relations::test_lengths` meets its contract: its test is the rule's.
use mathlib.Core.Path.{sym, ◌∙◌}
use Rattle.lova.specs.Relation.{relation_rules}
use Rattle.lova.proofs.Numbers.{gives-number, gives_later, gives_none}
use Rattle.relations.proofs.test_lengths.Goals as goal

pub returns-then-lengths_fit : goal.returns-then-lengths_fit
unfolding relation_rules
returns-then-lengths_fit c = gives_later _ 7 _ 0 (sym c.lengths_fit.ensures ∙ c.if-lengths_fit.true) gives_none

pub returns-else-lengths_fit : goal.returns-else-lengths_fit
unfolding relation_rules
returns-else-lengths_fit c = gives-number _ 7 _ (sym c.lengths_fit.ensures ∙ c.if-lengths_fit.false)
