-- `chain::is_small` meets its contract: each of the four is tested, and k is the record's.
use Rattle.std.proofs.Common.{rules, refl}
use borrow.Author.Tests.{le-leb}
use Rattle.lova.proofs.Rebuilding.{rebuilt-is, k-is}
use Rattle.chain.specs.Limits.{small}
use Rattle.chain.proofs.is_small.Goals as goal

pub returns-then-t-le-MAX_T : goal.returns-then-t-le-MAX_T
unfolding small
returns-then-t-le-MAX_T c =
    let a = c.args.accepted.now in
    let s = a.setting in
    let h = c.if-t-le-MAX_T.true in
    rw (le-leb s.n 8 h.0, le-leb s.m 16 h.1, le-leb s.t 2 h.2, k-is s (rebuilt-is a)) refl

pub returns-else-t-le-MAX_T : goal.returns-else-t-le-MAX_T
unfolding small
returns-else-t-le-MAX_T c = let h = c.if-t-le-MAX_T in search rules
