-- Every row of the house list is an accepted setting: one test, computed over the whole list.
use mathlib.Core.Path.{◌≡◌, refl, sym}
use mathlib.Core.Bool.{Bool}
use Prim.Native.Nat.{ℕ, ◌-◌, ◌<◌}
use native.Mathlib.Omega.{arith}
use lib.Dec.{T, eqb, eqb→eq}
use lib.ListN.{get_or}
use Rattle.std.specs.Prelude.{Err}
use borrow.Author.Tests.{le-leb, not-true}
use Rattle.integers.specs.Lists.{every}
use Rattle.integers.proofs.Lists.{every-at}
use Rattle.integers.specs.Ranges.{within, ◌to◌, In}
use Rattle.settings.specs.Rules.{first_of}
use Rattle.settings.specs.Settings.{Parameters, greatest, LOf, repunit, setting_refusal, checked_of}
use Rattle.settings.specs.HouseList.{parameters, house_list, listed_of}
use Rattle.settings.proofs.Refusals.{says_in}
use Rattle.settings.proofs.Accepted.{checked_accepted}

-- row i, counted from 0
abbrev pub row : ℕ → Parameters
row i = get_or house_list i (parameters 0 0 0 0 0)

abbrev accepts : Parameters → Bool
accepts p = eqb (setting_refusal p) 0

all-accepted : T (every accepts house_list)
unfolding setting_refusal first_of LOf greatest repunit
all-accepted = tt

-- each row of the list is accepted
pub house_accepted : (i : ℕ) → i < 4 → setting_refusal (row i) ≡ 0
house_accepted i h = eqb→eq (setting_refusal (row i)) 0 (every-at accepts (parameters 0 0 0 0 0) house_list all-accepted i h)

-- so a number of the list gets the constructor's answer for its row
pub listed_inside : (number : ℕ) → In (1 to 4) number → listed_of number ≡ checked_of (row (number - 1))
unfolding listed_of
listed_inside number h =
    rw (le-leb 1 number h.0, le-leb number 4 h.1) (sym (checked_accepted (row (number - 1)) (house_accepted (number - 1) (omega arith))))

-- and any other number gets 12
pub listed_outside : (number : ℕ) → (In (1 to 4) number → ⊥) → listed_of number ≡ Err 12
unfolding listed_of
listed_outside number n = rw (not-true (within (1 to 4) number) ((says_in (1 to 4) number).applies.1 n)) refl
