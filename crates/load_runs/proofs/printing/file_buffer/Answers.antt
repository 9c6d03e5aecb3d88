-- `file_buffer` meets its contract: so many zeros are so long.
use Rattle.std.proofs.Common.{ℕ}
use Rattle.std.proofs.lemmas.List.{length-replicate}
use Rattle.load_runs.proofs.printing.file_buffer.Goals as goal

pub returns : goal.returns
returns c = length-replicate {A = ℕ} 524288 0
