-- `settings::Setting::listed` meets its contract: the row that it reads is the setting that the constructor accepts.
use mathlib.Core.Path.{sym, ap, ◌∙◌}
use mathlib.Core.Bool.{not}
use Prim.Native.Nat.{◌-◌, ◌<◌}
use native.Mathlib.Omega.{arith}
use Rattle.std.specs.Prelude.{Ok}
use Rattle.integers.specs.Lists.{build}
use Rattle.integers.proofs.Lists.{get_d_map}
use Rattle.integers.specs.Ranges.{◌to◌, In}
use Rattle.settings.specs.Settings.{greatest, LOf, setting_of}
use Rattle.settings.specs.HouseList.{parameters, house_list}
use Rattle.settings.proofs.Refusals.{says_in}
use Rattle.settings.proofs.Accepted.{checked_accepted}
use Rattle.settings.proofs.HouseList.{row, house_accepted, listed_inside, listed_outside}
use Rattle.settings.proofs.Setting.listed.Goals as goal
use Rattle.settings.proofs.Setting.listed.Goals.{Else-not-inside}

-- past the test the number is one of the list
number_in : (c : Else-not-inside) → In (1 to 4) c.args.number
number_in c = (says_in (1 to 4) c.args.number).passed.0 (ap not (sym c.inside.ensures) ∙ ap not c.if-not-inside.false)

pub returns-then-not-inside : goal.returns-then-not-inside
returns-then-not-inside c =
    sym (listed_outside c.args.number ((says_in (1 to 4) c.args.number).applies.0 (ap not (sym c.inside.ensures) ∙ ap not c.if-not-inside.true)))

pub overflow_sub-result : goal.overflow_sub-result
overflow_sub-result c = omega (arith, number_in c)

pub offset_bounds-number : goal.offset_bounds-number
offset_bounds-number c = omega (arith, number_in c)

pub bounds-number-number : goal.bounds-number-number
bounds-number-number c = omega (arith, number_in c)

pub returns : goal.returns
unfolding LOf greatest build
returns c =
    let number = c.args.number in
    let h = number_in c.before in
    let i : number - 1 < 4 = omega arith in
    ap Ok (get_d_map setting_of house_list (number - 1) _ (parameters 0 0 0 0 0) i)
    ∙ sym (checked_accepted (row (number - 1)) (house_accepted (number - 1) i))
    ∙ sym (listed_inside number h)
