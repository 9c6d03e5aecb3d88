-- `fold_gram::fold_gram` meets its contract: each array has room for a row.
use mathlib.Core.Path.{◌≡◌}
use Prim.Native.Nat.{ℕ, ◌≤◌}
use native.Mathlib.Omega.{arith}
use lib.IntN.{pos}
use lib.ListN.{length, take, replicate, length-replicate}
use lib.Seq.{length-take-le}
use Rattle.fold_gram.proofs.fold_gram.Goals as goal

-- the first n numbers of an array
front : (n room : ℕ) → n ≤ room → length (take n (replicate room (pos 0))) ≡ n
front n room h = length-take-le n (replicate room (pos 0)) (omega (arith, length-replicate room (pos 0)))

pub fold_rows-requires : goal.fold_rows-requires
fold_rows-requires c =
    let few = c in
    let h = few.requires in
    (h.0, h.1, h.2, h.3, h.4, front few.args.n 32 few.if-n-le32.true, h.5)

pub fold_rows-requires-else-n-le32 : goal.fold_rows-requires-else-n-le32
fold_rows-requires-else-n-le32 c =
    let s = c in
    let h = s.requires in
    (h.0, h.1, h.2, h.3, h.4, front s.args.n 512 h.2, h.5)
