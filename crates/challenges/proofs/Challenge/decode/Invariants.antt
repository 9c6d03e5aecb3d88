-- `Challenge::decode` meets its contract: the first j columns of the challenge stand in q.
use Rattle.matrices.specs.Matrices.{Agree}
use Rattle.small_rows.specs.Small.{Within}
use Rattle.small_rows.specs.Columns.{by_columns}
use Rattle.challenges.specs.Challenges.{rows_of, folded}
use Rattle.challenges.proofs.Challenge.decode.Given as goal

abbrev pub invariant-loop-j : goal.invariant-loop-j
invariant-loop-j l = Agree (rows_of l.self) l.j (by_columns l.q) (folded l.self) × Within 16 l.q
