-- The matrix that a challenge stands for.
use Rattle.std.specs.Prelude.{ℕ, ◌+◌}
use Rattle.matrices.specs.Matrices.{Matrix, contracted}
use Rattle.matrices.specs.Tables.{challenge}
use Rattle.challenges.specs.declared.Challenge.{Challenge}

-- how many rows it has when those in the same place of each block are added up
abbrev pub rows_of : Challenge → ℕ
rows_of c = c.left + c.block

-- and its entries then
abbrev pub folded : Challenge → Matrix
folded c = contracted c.left c.block c.copies (challenge c.columns c.bytes.now)
