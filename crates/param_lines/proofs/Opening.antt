-- What a `param` line opens: unread, refused by the setting's rules or by the program's, or taken.
use mathlib.Core.Path.{◌≡◌, refl, sym, ◌∙◌, ap}
use mathlib.Core.Bool.{true, false, not}
use mathlib.Core.List.{List, [], ◌∷◌}
use Rattle.std.specs.Prelude.{Option, Some, None, Result, Ok, Err, is_some, IfSome, ok_or}
use Prim.Native.Nat.{ℕ}
use native.Mathlib.Decide.{ℕ_discrete}
use native.Mathlib.Omega.{arith}
use borrow.Author.Tests.{eq-eqb, ne_eqb, not-false}
use Rattle.settings.specs.Rules.{Rule, ◌gives◌, first_of}
use Rattle.settings.specs.Settings.{Parameters, setting_rules, setting_refusal, setting_of, parameters_of, checked_of}
use Rattle.settings.specs.Accepted.{parameters_in}
use Rattle.settings.specs.declared.Setting.{Setting}
use Rattle.settings.specs.declared.acceptance.AcceptedSetting.{AcceptedSetting}
use Rattle.settings.specs.declared.refused.Refusal.TheVariants.{LargeSetting}
use Rattle.settings.proofs.Accepted.{from_ok, from_err}
use Rattle.chain.specs.declared.small_settings.SmallSetting.{SmallSetting}
use Rattle.settings.proofs.Rules.{skip, stop, skip_all, stop-all, none-applies, none_append}
use Rattle.lova.proofs.Rebuilding.{setting-ok, parameters-are}
use Rattle.chain.specs.Limits.{setting_limits, small, program_limits, program_rules}
use Rattle.chain.specs.Params.{from_five, param_setting, param_refusal, opened_of, opened_as}
use Rattle.chain.proofs.Limits.{program-accepts, program-refusal}

-- ---- the program's rule after the setting's: it decides where the setting is accepted, and only there

module _ (p : Parameters) where
  abbrev own : List Rule
  own = (not (small program_limits p) gives 14) ∷ []

  passes : setting_refusal p ≡ 0 → first_of (program_rules p) ≡ first_of own
  passes ok = skip_all (setting_rules setting_limits p) own ((none-applies (setting_rules setting_limits p) tt).0 (program-refusal p ∙ ok))

  rules-refuse : (setting_refusal p ≡ 0 → ⊥) → first_of (program_rules p) ≡ setting_refusal p
  rules-refuse ne = stop-all (setting_rules setting_limits p) own (λ z. ne (sym (program-refusal p) ∙ z)) ∙ program-refusal p

  rules_pass : setting_refusal p ≡ 0 → small program_limits p ≡ true → first_of (program_rules p) ≡ 0
  unfolding first_of
  rules_pass ok e = passes ok ∙ skip (not (small program_limits p) gives 14) [] (ap not e)

  rules_large : setting_refusal p ≡ 0 → small program_limits p ≡ false → first_of (program_rules p) ≡ 14
  rules_large ok e = passes ok ∙ stop (not (small program_limits p) gives 14) [] (ap not e)

  -- and the other way: where no rule applies, the setting is accepted, and it is small
  rules-passed : first_of (program_rules p) ≡ 0 → (setting_refusal p ≡ 0) × (small program_limits p ≡ true)
  rules-passed e =
      let each = (none_append (setting_rules setting_limits p) own).0 ((none-applies (program_rules p) tt).0 e) in
      (program-accepts p ((none-applies (setting_rules setting_limits p) tt).1 each.0), not-false (small program_limits p) each.1.0)

-- ---- how the answer is come to

-- a number other than 0 refuses
refused-by : (o : Option (List ℕ)) (number : ℕ) → param_refusal o ≡ number → (number ≡ 0 → ⊥) → Err number ≡ opened_of o
unfolding opened_of
refused-by o number e ne = rw (e, ne_eqb number 0 ne) refl

module _ (o : Option (List ℕ)) where
  -- no five numbers: 13
  pub opened-unread : o ≡ None → Err 13 ≡ opened_of o
  unfolding param_refusal
  opened-unread e = refused-by o 13 (ap param_refusal e) (λ z. omega (arith, z))

  -- five numbers, and the constructor's answer for them
  module _ (xs : List ℕ) (read : o ≡ Some xs) where
    -- refused: 1 to 6
    pub opened-refused : (r : ℕ) → Err r ≡ checked_of (from_five xs) → Err r ≡ opened_of o
    unfolding param_refusal
    opened-refused r is =
        let e = from_err (from_five xs) r is in
        refused-by o r (ap param_refusal read ∙ rules-refuse (from_five xs) e.0 ∙ sym e.1) (λ z. e.0 (sym e.1 ∙ z))

    module _ (s : Setting) (is : Ok s ≡ checked_of (from_five xs)) where
      ok : setting_refusal (from_five xs) ≡ 0
      ok = setting-ok (from_five xs) s is

      same-five : parameters_of s ≡ from_five xs
      same-five = parameters-are (from_five xs) s is

      -- too large for the program: 14
      pub opened_large : small program_limits (parameters_of s) ≡ false → Err 14 ≡ opened_of o
      unfolding param_refusal
      opened_large e =
          refused-by o 14 (ap param_refusal read ∙ rules_large (from_five xs) ok (ap (small program_limits) (sym same-five) ∙ e)) (λ z. omega (arith, z))

      -- taken
      pub opened-taken : small program_limits (parameters_of s) ≡ true → Ok s ≡ opened_of o
      unfolding opened_of param_refusal param_setting
      opened-taken e =
          ap Ok (from_ok (from_five xs) s is).1
          ∙ rw (read, rules_pass (from_five xs) ok (ap (small program_limits) (sym same-five) ∙ e)) refl

-- the answer for an accepted setting, by whether it is one that the program takes
pub opened-by : (o : Option (List ℕ)) (xs : List ℕ) → o ≡ Some xs → (a : AcceptedSetting) → Ok a.setting ≡ checked_of (from_five xs) → (q : Option SmallSetting)
    → is_some q ≡ small program_limits (parameters_in a) → IfSome q (λ s. s.accepted ≡ a) → opened_as (ok_or q LargeSetting) ≡ opened_of o
opened-by o xs read a is None none same = opened_large o xs read a.setting is (sym none)
opened-by o xs read a is (Some s) some same = ap (λ (b : AcceptedSetting). Ok b.setting) same ∙ opened-taken o xs read a.setting is (sym some)

-- ---- what the answer says

passed : (o : Option (List ℕ)) → param_refusal o ≡ 0 → (setting_refusal (param_setting o) ≡ 0) × (small program_limits (param_setting o) ≡ true)
unfolding param_refusal param_setting
passed None e = absurd (omega (arith, e))
passed (Some xs) e = rules-passed (from_five xs) e

module _ (o : Option (List ℕ)) where
  -- a setting in the answer is that of the record's five numbers, and nothing refuses it
  pub opened-ok : (s : Setting) → Ok s ≡ opened_of o → (param_refusal o ≡ 0) × (parameters_of s ≡ param_setting o)
  unfolding opened_of
  opened-ok s is = go (ℕ_discrete (param_refusal o) 0)
    where
      go : Dec (param_refusal o ≡ 0) → (param_refusal o ≡ 0) × (parameters_of s ≡ param_setting o)
      go (yes z) =
          let both : ◌≡◌ {A = Result Setting ℕ} (Ok s) (Ok (setting_of (param_setting o))) = is ∙ rw (eq-eqb (param_refusal o) 0 z) refl in
          let same : s ≡ setting_of (param_setting o) = grind arith in
          (z, ap parameters_of same)
      go (no ne) =
          let both : ◌≡◌ {A = Result Setting ℕ} (Ok s) (Err (param_refusal o)) = is ∙ rw (ne_eqb (param_refusal o) 0 ne) refl in absurd (grind arith)

  -- and a number is that of the record
  pub opened-err : (r : ℕ) → Err r ≡ opened_of o → (param_refusal o ≡ 0 → ⊥) × (r ≡ param_refusal o)
  unfolding opened_of
  opened-err r is = go (ℕ_discrete (param_refusal o) 0)
    where
      go : Dec (param_refusal o ≡ 0) → (param_refusal o ≡ 0 → ⊥) × (r ≡ param_refusal o)
      go (yes z) =
          let both : ◌≡◌ {A = Result Setting ℕ} (Err r) (Ok (setting_of (param_setting o))) = is ∙ rw (eq-eqb (param_refusal o) 0 z) refl in absurd (grind arith)
      go (no ne) =
          let both : ◌≡◌ {A = Result Setting ℕ} (Err r) (Err (param_refusal o)) = is ∙ rw (ne_eqb (param_refusal o) 0 ne) refl in
          let same : r ≡ param_refusal o = grind arith in
          (ne, same)
