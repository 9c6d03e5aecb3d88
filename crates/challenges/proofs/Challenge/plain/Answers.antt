-- `Challenge::plain` meets its contract: one copy is what the challenge has.
use Rattle.matrices.specs.Tables.{challenge}
use Rattle.matrices.proofs.Contracted.{contracted-once}
use Rattle.challenges.proofs.Challenge.plain.Goals as goal

pub returns-clause-entries : goal.returns-clause-entries
returns-clause-entries c i j = let a = c.args in contracted-once a.rows 0 (challenge a.columns a.bytes.now) i j
