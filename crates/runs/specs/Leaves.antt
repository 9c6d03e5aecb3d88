-- What a line where a leaf is due comes to.
use Rattle.std.specs.Prelude.{◌≡◌, List, ℕ, ℤ, ◌+◌, Some, Result, Ok, Err}
use Rattle.settings.specs.Settings.{Parameters}
use Rattle.settings.specs.Refusals.{number_of}
use Rattle.settings.specs.declared.refused.Refusal.{Refusal}
use Rattle.text.specs.Fields.{record_of, read_i64}
use Rattle.lova.specs.Answers.{done, refused, ends}
use Rattle.lova.specs.Stored.{matrix_S}
use Rattle.chain.specs.Nodes.{Node, leaf_of}
use Rattle.chain.specs.Reports.{leaf_word, leaf_line}
use Rattle.chain.specs.Chain.{Stage, Counts, tally, Step, step, refuse, on_leaf}
use Rattle.states.specs.Held.{part_A, node_in}
use Rattle.runs.specs.declared.leaves.Leaf.{Leaf}

-- what the line comes to, by what is due after it
abbrev pub leaf_step : Parameters → List ℕ → List ℕ → Counts → (Node → Stage) → Step
leaf_step p A line n next = on_leaf n p (part_A p A) next (record_of read_i64 leaf_word (matrix_S p).size line)

-- it is refused, or a leaf is taken, which has one leaf under it
abbrev pub LeafRead : Parameters → List ℕ → List ℕ → Result Leaf Refusal → Type 0
LeafRead p A line (Err refusal) = (n : Counts) (next : Node → Stage) → leaf_step p A line n next ≡ refuse n (number_of refusal)
LeafRead p A line (Ok leaf) =
    (leaf.count ≡ 1) × ((n : Counts) (next : Node → Stage) → let z = node_in p leaf.slot leaf.count in
    leaf_step p A line n next
    ≡ step (tally (n.line + 1) (n.leaves + 1) n.folds) (next z) (leaf_line p (n.leaves + 1) z.instance))

-- where the line has a witness, its answer and its node are those of that leaf, in place of any node before
abbrev pub LeafMade : Parameters → List ℕ → List ℕ → Result Leaf Refusal → Type 0
LeafMade p A line (Err refusal) =
    (S : List ℤ) (before : Node) → record_of read_i64 leaf_word (matrix_S p).size line ≡ Some S
    → ends (refused (number_of refusal)) before ≡ leaf_of p (part_A p A) S before
LeafMade p A line (Ok leaf) =
    (S : List ℤ) (before : Node) → record_of read_i64 leaf_word (matrix_S p).size line ≡ Some S
    → ends done (node_in p leaf.slot leaf.count) ≡ leaf_of p (part_A p A) S before
