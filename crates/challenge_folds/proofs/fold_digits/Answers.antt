-- `challenge_folds::fold_digits` meets its contract: each array has room for the decoded challenge.
use Rattle.std.proofs.Common.{arith}
use lib.IntN.{pos}
use lib.ListN.{length-replicate}
use Rattle.small_rows.proofs.Small.{within-zeros}
use Rattle.challenge_folds.proofs.fold_digits.Goals as goal

pub fold_digits_in-requires : goal.fold_digits_in-requires
fold_digits_in-requires c = let h = c.requires in (h.0, h.2, omega (arith, length-replicate 512 (pos 0)), within-zeros 16 512)

pub fold_digits_in-requires-in-2-to-4 : goal.fold_digits_in-requires-in-2-to-4
fold_digits_in-requires-in-2-to-4 c = let h = c.requires in (h.0, h.2, omega (arith, length-replicate 2048 (pos 0)), within-zeros 16 2048)

pub fold_digits_in-requires-in_default : goal.fold_digits_in-requires-in_default
fold_digits_in-requires-in_default c = let h = c.requires in (h.0, h.2, omega (arith, h.1, length-replicate 8192 (pos 0)), within-zeros 16 8192)
