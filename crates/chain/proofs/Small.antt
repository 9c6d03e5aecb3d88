-- What a setting that the program takes has.
use Rattle.lova.specs.Calls.{Rebuilt}
use Rattle.lova.proofs.Rebuilding.{rebuilt-is}
use Rattle.chain.specs.Small.{numbers_in}
use Rattle.chain.specs.declared.small_settings.SmallSetting.{SmallSetting}
use Rattle.chain.proofs.Sizes.{Sizes, sizes}

module _ (s : SmallSetting) where
  pub rebuilt-in : Rebuilt s.accepted.setting
  rebuilt-in = rebuilt-is s.accepted

  pub sizes-in : Sizes (numbers_in s)
  sizes-in = sizes (numbers_in s) s.small
