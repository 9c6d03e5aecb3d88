-- What a setting has that the programs take.
use mathlib.Core.Path.{◌≡◌}
use mathlib.Core.Bool.{not}
use mathlib.Core.List.{List, [], ◌∷◌}
use borrow.Author.Tests.{not-false}
use Rattle.settings.specs.Rules.{Rule, ◌gives◌, first_of, NoneApplies}
use Rattle.settings.specs.Settings.{Parameters, setting_rules, setting_refusal}
use Rattle.settings.proofs.Rules.{none-applies, none_append}
use Rattle.settings.proofs.Accepted.{Accepted, accepted}
use Rattle.chain.specs.Limits.{setting_limits, small, program_limits, program_rules}
use Rattle.chain.proofs.Limits.{program-accepts}
use Rattle.chain.proofs.Sizes.{Sizes, sizes}

pub record Usable (p : Parameters) : Type 0 where
  pub ok : setting_refusal p ≡ 0
  pub ranges : Accepted p
  pub sizes : Sizes p

module _ (p : Parameters) (e : first_of (program_rules p) ≡ 0) where
  abbrev own : List Rule
  own = (not (small program_limits p) gives 14) ∷ []

  -- none of 1 to 6 applies, nor does 14
  none-of_them : NoneApplies (setting_rules setting_limits p) × NoneApplies own
  none-of_them = (none_append (setting_rules setting_limits p) own).0 ((none-applies (program_rules p) tt).0 e)

  accepts : setting_refusal p ≡ 0
  accepts = program-accepts p ((none-applies (setting_rules setting_limits p) tt).1 none-of_them.0)

  pub usable : Usable p
  usable = record { ok = accepts; ranges = accepted p accepts; sizes = sizes p (not-false (small program_limits p) none-of_them.1.0) }
