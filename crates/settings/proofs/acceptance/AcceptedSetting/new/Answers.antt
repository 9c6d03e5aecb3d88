-- `settings::AcceptedSetting::new` meets its contract, and what it hands out is a setting as the constructor gives it.
use Rattle.std.proofs.lemmas.Result.{err_from_is_err_and}
use Rattle.settings.specs.HouseList.{parameters}
use Rattle.settings.proofs.Accepted.{ok_accepted}
use Rattle.settings.proofs.acceptance.AcceptedSetting.new.Goals as goal

pub returns-in_err-setting : goal.returns-in_err-setting
returns-in_err-setting c =
    let p = err_from_is_err_and c.from_residual.result c.from_residual.ensures.1 in
    rw (p.1, p.2) c.in_err-setting.ensures

pub invariant_of-result : goal.invariant_of-result
invariant_of-result c = let a = ok_accepted (parameters c.args.n c.args.m c.args.t c.args.b c.args.bound) c.in_ok-setting.setting c.in_ok-setting.ensures in record { ok = a.0; whole = a.1 }
