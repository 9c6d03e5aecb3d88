-- Document 01, "The chain program": what a run does with each line.
use Rattle.std.specs.Prelude.{Bool, true, false, cond, List, [], ◌∷◌, ℕ, zero, suc, ◌+◌, ℤ}
use Rattle.std.specs.Prelude.{Option, Some, None}
use Rattle.settings.specs.Settings.{Parameters}
use Rattle.text.specs.Fields.{record_of, read_u64, read_i64, read_ternary}
use Rattle.line_machines.specs.Machines.{Machine, line_step, last_output}
use Rattle.line_machines.specs.Machines as Machines
use Rattle.lova.specs.Answers.{Meaning, refusal, refuses}
use Rattle.lova.specs.Stored.{matrix_A, matrix_S, size_C}
use Rattle.lova.specs.Commit.{commit}
use Rattle.lova.specs.Relation.{relation}
use Rattle.chain.specs.Params.{param_word, param_setting, param_refusal}
use Rattle.chain.specs.Nodes.{Node, blank_instance, fold_of}
use Rattle.chain.specs.Reports.{leaf_word, leaf_line, fold_line, end_line, refused_line}

-- `a`
abbrev pub a_word : List ℕ
a_word = 97 ∷ []

-- `c`
abbrev pub c_word : List ℕ
c_word = 99 ∷ []

-- what is due, with what the run has read and made so far
pub data Stage : Type 0 where
  -- `param`
  param : Stage
  -- `a`, for this setting
  matrix : Parameters → Stage
  -- the first `leaf`, for this setting and this A
  first : Parameters → List ℕ → Stage
  -- a further `leaf`, or the end of the input: the accumulated instance and witness
  leaf : Parameters → List ℕ → Node → Stage
  -- `c`: the accumulated instance and witness, and the new leaf's
  challenge : Parameters → List ℕ → Node → Node → Stage
  -- nothing: a line was refused
  stopped : Stage

-- how many lines, leaves and folds were taken
pub record Counts : Type 0 where
  pub line : ℕ
  pub leaves : ℕ
  pub folds : ℕ

-- the run state: the counts, and what is due
pub record State : Type 0 where
  pub counts : Counts
  pub stage : Stage

-- what comes of a line: the run state, and the bytes that are printed
abbrev pub Step : Type 0
Step = Machines.Step State

abbrev pub tally : ℕ → ℕ → ℕ → Counts
tally line leaves folds = record { line = line; leaves = leaves; folds = folds }

abbrev pub step : Counts → Stage → List ℕ → Step
step n due output = record { state = record { counts = n; stage = due }; output = output }

-- before the first line
abbrev pub start : State
start = record { counts = tally 0 0 0; stage = param }

-- the next line is taken and prints nothing
abbrev pub next : Counts → Stage → Step
next n due = step (tally (n.line + 1) n.leaves n.folds) due []

-- the next line is refused with a number, and the run stops
abbrev pub refuse : Counts → ℕ → Step
refuse n number = step (tally (n.line + 1) n.leaves n.folds) stopped (refused_line (n.line + 1) number)

-- a refusal's number; 0 for every other answer
unfoldable pub number_of : Meaning → ℕ
number_of answer = elim (refusal answer) [ None ↦ 0 | Some r ↦ r ]

-- a setting whose first refusal has this number (0: none applies)
unfoldable pub on_setting : Counts → Parameters → ℕ → Step
on_setting n p zero = next n (matrix p)
on_setting n p (suc r) = refuse n (suc r)

-- `param` with n, m, t, b, B: 13, then 1 to 6, then 14
unfoldable pub on_param : Counts → Option (List ℕ) → Step
on_param n o = on_setting n (param_setting o) (param_refusal o)

-- `a` with n×m entries: 13
unfoldable pub on_matrix : Counts → Parameters → Option (List ℕ) → Step
on_matrix n p None = refuse n 13
on_matrix n p (Some A) = next n (first p A)

-- `leaf` with m×t entries: 13, then 8; what is due after it depends on its node
unfoldable pub on_leaf : Counts → Parameters → List ℕ → (Node → Stage) → Option (List ℤ) → Step
on_leaf n p A after None = refuse n 13
on_leaf n p A after (Some S) =
    let made = commit p A S (blank_instance p) in
    let taken = step (tally (n.line + 1) (n.leaves + 1) n.folds) (after (record { instance = made.outputs; witness = S }))
    (leaf_line p (n.leaves + 1) made.outputs) in
    cond (refuses made.answer) (refuse n (number_of made.answer)) taken

-- `c` with N×t entries of −1, 0 or 1: 13, then 15; the accumulated node is first and the new leaf second
unfoldable pub on_challenge : Counts → Parameters → List ℕ → Node → Node → Option (List ℕ) → Step
on_challenge n p A accumulated new None = refuse n 13
on_challenge n p A accumulated new (Some C) =
    let made = fold_of p A accumulated new C in
    let taken = step (tally (n.line + 1) n.leaves (n.folds + 1)) (leaf p A made.outputs)
    (fold_line p (n.folds + 1) made.answer made.outputs.instance) in
    cond (refuses made.answer) (refuse n (number_of made.answer)) taken

-- a line by what is due; a run that has stopped takes nothing more and prints nothing more
unfoldable pub take_due : Counts → Stage → List ℕ → Step
take_due n param line = on_param n (record_of read_u64 param_word 5 line)
take_due n (matrix p) line = on_matrix n p (record_of read_u64 a_word (matrix_A p).size line)
take_due n (first p A) line = on_leaf n p A (λ node. leaf p A node) (record_of read_i64 leaf_word (matrix_S p).size line)
take_due n (leaf p A accumulated) line = on_leaf n p A (λ node. challenge p A accumulated node) (record_of read_i64 leaf_word (matrix_S p).size line)
take_due n (challenge p A accumulated new) line = on_challenge n p A accumulated new (record_of read_ternary c_word (size_C p) line)
take_due n stopped line = step n stopped []

-- whether a run has stopped
unfoldable pub is_stopped : Stage → Bool
is_stopped param = false
is_stopped (matrix p) = false
is_stopped (first p A) = false
is_stopped (leaf p A node) = false
is_stopped (challenge p A node new) = false
is_stopped stopped = true

-- a line that is no record: 13
unfoldable pub bad_line : Counts → Stage → Step
bad_line n due = cond (is_stopped due) (step n stopped []) (refuse n 13)

-- the end of the input by what is due: a missing line is 13 with the number after the last
unfoldable pub end_due : Counts → Stage → List ℕ
end_due n param = refused_line (n.line + 1) 13
end_due n (matrix p) = refused_line (n.line + 1) 13
end_due n (first p A) = refused_line (n.line + 1) 13
end_due n (leaf p A accumulated) = end_line n.folds (relation p A accumulated.instance.instance accumulated.witness).answer
end_due n (challenge p A accumulated new) = refused_line (n.line + 1) 13
end_due n stopped = []

-- the chain program, by its run state
abbrev pub chain_machine : Machine State
chain_machine = record {
  start = start;
  on_line = λ s line. take_due s.counts s.stage line;
  on_bad = λ s. bad_line s.counts s.stage;
  on_end = λ s. end_due s.counts s.stage;
  stopped = λ s. is_stopped s.stage;
}

-- one line, without its line feed
abbrev pub take_line : State → List ℕ → Step
take_line s line = line_step chain_machine s line

-- the end of the input, with what stands after the last line feed
abbrev pub at_end : State → List ℕ → List ℕ
at_end s rest = last_output chain_machine s rest
