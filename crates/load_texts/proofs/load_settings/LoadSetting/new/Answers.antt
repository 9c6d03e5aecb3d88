-- `LoadSetting::new` meets its contract: an accepted setting has a row.
use Rattle.lova.proofs.Rebuilding.{rebuilt-accepted, rebuilt-is}
use Rattle.load_texts.proofs.load_settings.LoadSetting.new.Goals as goal

pub radius_of-requires : goal.radius_of-requires
radius_of-requires c = (rebuilt-accepted _ (rebuilt-is c.args.small.accepted)).m-low
