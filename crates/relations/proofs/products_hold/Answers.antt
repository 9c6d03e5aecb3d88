-- `relations::products_hold` meets its contract: either array has room for the products.
use mathlib.Core.Path.{sym}
use Prim.Native.Nat.{◌*◌, ◌≤◌}
use lib.IntN.{pos}
use Rattle.settings.specs.declared.acceptance.AcceptedSetting.{AcceptedSetting}
use Rattle.lova.proofs.Rebuilding.{rebuilt-accepted, rebuilt-is}
use Rattle.relations.proofs.Tables.{room, front}
use Rattle.relations.proofs.products_hold.Goals as goal

-- the larger array has room for the products of every setting
fits : (a : AcceptedSetting) → a.setting.t * a.setting.t ≤ 256
fits a = let h = (rebuilt-accepted a.setting (rebuilt-is a)).t-high in room {r = 16} {c = 16} h h

pub slice_bounds-own-end-else-size-le16 : goal.slice_bounds-own-end-else-size-le16
slice_bounds-own-end-else-size-le16 c = fits c.args.accepted.now

pub slice_bounds-products_hold_in-end-else-size-le16 : goal.slice_bounds-products_hold_in-end-else-size-le16
slice_bounds-products_hold_in-end-else-size-le16 c = sym (front (pos 0) _ 256 (fits c.args.accepted.now))

pub products_hold_in-requires-else-size-le16 : goal.products_hold_in-requires-else-size-le16
products_hold_in-requires-else-size-le16 c = (c.requires.0, c.requires.1, c.requires.2, front (pos 0) _ 256 (fits c.args.accepted.now))
