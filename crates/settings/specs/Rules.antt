-- Rules in order, and the number of the first that applies.
use Rattle.std.specs.Prelude.{◌≡◌, Bool, true, false, cond, List, [], ◌∷◌, ◌++◌, ℕ}

-- a rule: where its condition holds, a call is refused with its number
pub record Rule : Type 0 where
  pub applies : Bool
  pub number : ℕ

infix 20 ◌gives◌
abbrev pub ◌gives◌ : Bool → ℕ → Rule
◌gives◌ c r = record { applies = c; number = r }

-- the number of the first rule that applies; 0 where none does
unfoldable pub first_of : List Rule → ℕ
first_of [] = 0
first_of (r ∷ rs) = cond r.applies r.number (first_of rs)

-- no rule of the list applies
abbrev pub NoneApplies : List Rule → Type 0
NoneApplies [] = Unit {0}
NoneApplies (r ∷ rs) = (r.applies ≡ false) × NoneApplies rs

-- `number` is that of a rule that applies, and no rule before this one does
pub record First (rs : List Rule) (number : ℕ) : Type 0 where
  pub before : List Rule
  pub rule : Rule
  pub after : List Rule
  pub splits : rs ≡ before ++ (rule ∷ after)
  pub none_before : NoneApplies before
  pub applies : rule.applies ≡ true
  pub numbered : rule.number ≡ number
