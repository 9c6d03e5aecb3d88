-- `small_fold::packing::load` meets its contract: the first k numbers are those of row r.
use lib.IntN.{pos}
use Rattle.integers.proofs.Lists.{Filled}
use Rattle.matrices.specs.Tables.{signed}
use Rattle.small_fold.proofs.packing.load.Given as goal

abbrev pub invariant-loop-k : goal.invariant-loop-k
invariant-loop-k l = Filled l.n (signed l.n l.s l.r) (pos 0) l.k l.p
