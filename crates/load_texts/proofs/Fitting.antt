-- How large the matrices of a load are.
use mathlib.Core.Path.{◌≡◌, sym, ap, subst}
use Prim.Native.Nat.{ℕ, ◌*◌, ◌^◌, ◌≤◌, ◌<◌}
use Rattle.settings.specs.declared.Setting.{Setting}
use Rattle.lova.specs.Stored.{size_C}
use Rattle.lova.proofs.Rebuilding.{rebuilt-accepted, rebuilt-is, N-is}
use Rattle.chain.proofs.Sizes.{Sizes, sizes}
use Rattle.draws.proofs.Radius.{radius-small}
use Rattle.load_texts.specs.Texts.{parameters_for}
use Rattle.load_texts.specs.declared.load_settings.LoadSetting.{LoadSetting}

module _ (l : LoadSetting) where
  abbrev setting : Setting
  setting = l.small.accepted.setting

  small : Sizes (parameters_for l)
  small = sizes (parameters_for l) l.small.small

  pub A_fits : setting.n * setting.m ≤ 128
  A_fits = small.A-high

  pub S_fits : setting.m * setting.t ≤ 32
  S_fits = small.S-high

  pub C-is : setting.columns * setting.t ≡ size_C (parameters_for l)
  C-is = ap (λ (n : ℕ). n * setting.t) (N-is setting (rebuilt-is l.small.accepted))

  pub C_fits : setting.columns * setting.t ≤ 64
  C_fits = rw C-is small.C-high

  pub r_small : l.radius < 2 ^ 32
  r_small =
      let a = rebuilt-accepted setting (rebuilt-is l.small.accepted) in
      subst (λ (x : ℕ). x < 2 ^ 32) (sym l.radius_is) (radius-small setting.m setting.bound a.m-low a.bound-high)
