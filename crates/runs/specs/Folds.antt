-- What a line where a challenge is due comes to, once the challenge was read.
use Rattle.std.specs.Prelude.{◌≡◌, List, ℕ, ◌+◌, Some, Result, Ok, Err}
use Rattle.settings.specs.Settings.{Parameters}
use Rattle.settings.specs.Refusals.{number_of}
use Rattle.settings.specs.declared.refused.Refusal.{Refusal}
use Rattle.lova.specs.Answers.{verdict_of}
use Rattle.chain.specs.Nodes.{Node}
use Rattle.chain.specs.Reports.{fold_line}
use Rattle.chain.specs.Chain.{leaf, Counts, tally, step, refuse, on_challenge}
use Rattle.states.specs.Held.{node_in}
use Rattle.runs.specs.declared.challenge_lines.Folded.{Folded}

-- it is refused, or the fold is taken
abbrev pub FoldMade : Parameters → List ℕ → Node → Node → List ℕ → Result Folded Refusal → Type 0
FoldMade p A left right C (Err refusal) = (n : Counts) → on_challenge n p A left right (Some C) ≡ refuse n (number_of refusal)
FoldMade p A left right C (Ok fold) = (n : Counts) → let z = node_in p fold.slot fold.count in
    on_challenge n p A left right (Some C)
    ≡ step (tally (n.line + 1) n.leaves (n.folds + 1)) (leaf p A z) (fold_line p (n.folds + 1) (verdict_of (Ok fold.verdict)) z.instance)
