-- A call that gives numbers of a checked setting: its three ways out.
use borrow.Author.Tests.{eq-eqb, ne_eqb}
use mathlib.Core.Path.{◌≡◌, sym, ◌∙◌, ap}
use mathlib.Core.Logic.{◌≢◌}
use mathlib.Core.Bool.{not}
use mathlib.Core.List.{List, []}
use Prim.Native.Nat.{ℕ}
use native.Mathlib.Omega.{arith}
use lib.ListN.{length}
use Rattle.std.specs.Prelude.{Result, Ok, Err}
use Rattle.settings.specs.declared.Setting.{Setting}
use Rattle.settings.specs.Settings.{Parameters, k_of, checked_of}
use Rattle.settings.specs.Rules.{first_of}
use Rattle.settings.proofs.Rules.{skip, stop}
use Rattle.settings.proofs.Powers.{length_powers}
use Rattle.settings.proofs.Accepted.{from_ok}
use Rattle.lova.specs.Answers.{done, refused, ends, unless_refused}
use Rattle.lova.proofs.Refusals.{ends_so, refuses_so}
use Rattle.settings_c.specs.Given.{given_rules, given}

-- an accepted setting has 33 powers
pub powers_long : (p : Parameters) (s : Setting) → Ok s ≡ checked_of p → length s.powers ≡ 33
powers_long p s is = ap (λ (u : Setting). length u.powers) (from_ok p s is).1 ∙ length_powers p.b (k_of p)

module _ (d : Result Setting ℕ) (size : ℕ) (numbers : Setting → List ℕ) (out : List ℕ) where
  pub out_refused : (r : ℕ) → Err r ≡ d → ends (refused r) out ≡ given d size numbers out
  unfolding given
  out_refused r is = ap (λ (x : Result Setting ℕ). given x size numbers out) is

  module _ (s : Setting) (is : Ok s ≡ d) where
    pub out_seven : length out ≢ size → ends (refused 7) out ≡ given d size numbers out
    unfolding given
    out_seven n =
        let first : first_of (given_rules size out) ≡ 7 = stop _ [] (ap not (ne_eqb (length out) size n)) in
        sym (ap (λ (r : ℕ). unless_refused r out (ends done (numbers s))) first ∙ refuses_so out (ends done (numbers s)) 7 (λ z. omega arith))
        ∙ ap (λ (x : Result Setting ℕ). given x size numbers out) is

    pub out_given : length out ≡ size → ends done (numbers s) ≡ given d size numbers out
    unfolding given first_of
    out_given h =
        let none : first_of (given_rules size out) ≡ 0 = skip _ [] (ap not (eq-eqb (length out) size h)) in
        sym (ends_so out (ends done (numbers s)) _ none) ∙ ap (λ (x : Result Setting ℕ). given x size numbers out) is
