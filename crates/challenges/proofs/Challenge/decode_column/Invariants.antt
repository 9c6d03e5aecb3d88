-- `Challenge::decode_column` meets its contract: the first a copies are added up.
use Rattle.std.proofs.Common.{◌≡◌}
use Rattle.integers.specs.Lists.{build}
use Rattle.challenges.specs.Challenges.{rows_of}
use Rattle.challenges.proofs.Sums.{sums}
use Rattle.challenges.proofs.Challenge.decode_column.Given as goal

abbrev pub invariant-loop-a : goal.invariant-loop-a
invariant-loop-a l = l.column ≡ build (rows_of l.self) (sums l.self.left l.self.block l.self.columns l.j l.self.bytes.now l.a)
