-- `challenge_folds::fold_instance` meets its contract: each array has room for the decoded challenge.
use Rattle.std.proofs.Common.{arith}
use lib.IntN.{pos}
use lib.ListN.{length-replicate}
use Rattle.small_rows.proofs.Small.{within-zeros}
use Rattle.challenge_folds.proofs.fold_instance.Goals as goal

pub fold_instance_in-requires : goal.fold_instance_in-requires
fold_instance_in-requires c =
    let h = c.requires in
    (h.0, h.1, h.2, h.3, h.5, h.6, omega (arith, length-replicate 512 (pos 0)), within-zeros 16 512)

pub fold_instance_in-requires-in-2-to-4 : goal.fold_instance_in-requires-in-2-to-4
fold_instance_in-requires-in-2-to-4 c =
    let h = c.requires in
    (h.0, h.1, h.2, h.3, h.5, h.6, omega (arith, length-replicate 2048 (pos 0)), within-zeros 16 2048)

pub fold_instance_in-requires-in_default : goal.fold_instance_in-requires-in_default
fold_instance_in-requires-in_default c =
    let h = c.requires in
    (h.0, h.1, h.2, h.3, h.5, h.6, omega (arith, h.4, length-replicate 8192 (pos 0)), within-zeros 16 8192)
