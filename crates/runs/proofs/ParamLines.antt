-- What a `param` line comes to: refused, or taken.
use mathlib.Core.Path.{◌≡◌, refl, sym, ◌∙◌, ap, ap₂}
use mathlib.Core.List.{List}
use Rattle.std.specs.Prelude.{Option, Ok, Err}
use Prim.Native.Nat.{ℕ, zero, suc}
use Rattle.settings.specs.Settings.{Parameters}
use Rattle.settings.specs.Refusals.{number_of}
use Rattle.settings.specs.declared.refused.Refusal.{Refusal}
use Rattle.chain.specs.declared.small_settings.SmallSetting.{SmallSetting}
use Rattle.chain.specs.Small.{numbers_in}
use Rattle.chain.specs.Params.{param_setting, param_refusal, opened_of, opened_as}
use Rattle.chain.specs.Chain.{Counts, matrix, next, refuse, on_setting, on_param}
use Rattle.param_lines.proofs.Opening.{opened-ok, opened-err}

-- a number other than 0 refuses
refuses : (n : Counts) (p : Parameters) (r : ℕ) → (r ≡ 0 → ⊥) → on_setting n p r ≡ refuse n r
unfolding on_setting
refuses n p zero ne = absurd (ne refl)
refuses n p (suc r) ne = refl

module _ (o : Option (List ℕ)) (n : Counts) where
  pub param-refused : (r : Refusal) → opened_as (Err r) ≡ opened_of o → refuse n (number_of r) ≡ on_param n o
  unfolding on_param
  param-refused r is =
      let e = opened-err o (number_of r) is in
      ap (refuse n) e.1 ∙ sym (refuses n (param_setting o) (param_refusal o) e.0)

  pub param-taken : (s : SmallSetting) → opened_as (Ok s) ≡ opened_of o → next n (matrix (numbers_in s)) ≡ on_param n o
  unfolding on_setting on_param
  param-taken s is =
      let e = opened-ok o s.accepted.setting is in
      sym (ap₂ (on_setting n) (sym e.1) e.0)
