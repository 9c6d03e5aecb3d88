-- `relations::commitment_holds` meets its contract: either array has room for a s.
use mathlib.Core.Path.{sym}
use Prim.Native.Nat.{◌*◌, ◌≤◌}
use native.Mathlib.Omega.{arith}
use Rattle.settings.specs.declared.acceptance.AcceptedSetting.{AcceptedSetting}
use Rattle.lova.proofs.Rebuilding.{rebuilt-accepted, rebuilt-is}
use Rattle.relations.proofs.Tables.{room, front}
use Rattle.relations.proofs.commitment_holds.Goals as goal

-- the larger array has room for the commitments of every setting
fits : (a : AcceptedSetting) → a.setting.n * a.setting.t ≤ 1024
fits a = let acc = rebuilt-accepted a.setting (rebuilt-is a) in room {r = 64} {c = 16} acc.n-high acc.t-high

pub commitment_holds_in-requires : goal.commitment_holds_in-requires
commitment_holds_in-requires c =
    (c.requires.0, c.requires.1, c.requires.2, front 0 _ 64 c.if-size-le64.true, λ i. omega (arith, c.type_inv.t i))

pub slice_bounds-own-end-else-size-le64 : goal.slice_bounds-own-end-else-size-le64
slice_bounds-own-end-else-size-le64 c = fits c.args.accepted.now

pub slice_bounds-commitment_holds_in-end-else-size-le64 : goal.slice_bounds-commitment_holds_in-end-else-size-le64
slice_bounds-commitment_holds_in-end-else-size-le64 c = sym (front 0 _ 1024 (fits c.args.accepted.now))

pub commitment_holds_in-requires-else-size-le64 : goal.commitment_holds_in-requires-else-size-le64
commitment_holds_in-requires-else-size-le64 c =
    (c.requires.0, c.requires.1, c.requires.2, front 0 _ 1024 (fits c.args.accepted.now), λ i. omega (arith, c.type_inv.t i))
