-- Document 02, request 7: what the load program does with each line.
use Rattle.std.specs.Prelude.{Bool, true, false, cond, List, [], ◌∷◌, ℕ, zero, suc, ◌+◌, get_or}
use Rattle.std.specs.Prelude.{Option, Some, None}
use Rattle.integers.specs.Ranges.{◌to◌, within}
use Rattle.settings.specs.Settings.{Parameters}
use Rattle.text.specs.Fields.{record_of, read_u64}
use Rattle.line_machines.specs.Machines.{Machine, Step, output_of}
use Rattle.chain.specs.Params.{param_word, param_setting, param_refusal}
use Rattle.chain.specs.Reports.{refused_line}
use Rattle.loads.specs.Files.{chain_file}

-- `load`
abbrev pub load_word : List ℕ
load_word = 108 ∷ 111 ∷ 97 ∷ 100 ∷ []

-- a load has 1 to 1000 leaves
abbrev pub most_loaded : ℕ
most_loaded = 1000

-- what is due, with what was read so far
pub data Stage : Type 0 where
  -- `param`
  param : Stage
  -- `load`, for this setting
  load : Parameters → Stage
  -- the end of the input: the setting, the leaf count, the seed
  end : Parameters → ℕ → ℕ → Stage
  -- nothing: a line was refused
  stopped : Stage

-- the run state: how many lines were taken, and what is due
pub record State : Type 0 where
  pub line : ℕ
  pub stage : Stage

abbrev pub step : ℕ → Stage → List ℕ → Step State
step line due output = record { state = record { line = line; stage = due }; output = output }

-- the next line is taken and prints nothing
abbrev pub next : ℕ → Stage → Step State
next line due = step (line + 1) due []

-- the next line is refused with a number, and the run stops
abbrev pub refuse : ℕ → ℕ → Step State
refuse line number = step (line + 1) stopped (refused_line (line + 1) number)

-- a setting whose first refusal has this number (0: none applies)
unfoldable pub on_setting : ℕ → Parameters → ℕ → Step State
on_setting line p zero = next line (load p)
on_setting line p (suc r) = refuse line (suc r)

-- `param` with n, m, t, b, B: 13, then 1 to 6, then 14
unfoldable pub on_param : ℕ → Option (List ℕ) → Step State
on_param line o = on_setting line (param_setting o) (param_refusal o)

-- `load` with the leaf count and the seed: 13, also for a count outside 1..1000
unfoldable pub on_load : ℕ → Parameters → Option (List ℕ) → Step State
on_load line p None = refuse line 13
on_load line p (Some xs) = cond (within (1 to most_loaded) (get_or xs 0 0)) (next line (end p (get_or xs 0 0) (get_or xs 1 0))) (refuse line 13)

-- a line by what is due; a third line is refused with 13
unfoldable pub take_due : ℕ → Stage → List ℕ → Step State
take_due line param text = on_param line (record_of read_u64 param_word 5 text)
take_due line (load p) text = on_load line p (record_of read_u64 load_word 2 text)
take_due line (end p count seed) text = refuse line 13
take_due line stopped text = step line stopped []

-- whether a run has stopped
unfoldable pub is_stopped : Stage → Bool
is_stopped param = false
is_stopped (load p) = false
is_stopped (end p count seed) = false
is_stopped stopped = true

-- a line that is no record: 13
unfoldable pub bad_line : ℕ → Stage → Step State
bad_line line due = cond (is_stopped due) (step line stopped []) (refuse line 13)

-- the end of the input: the chain file; a missing line is 13 with the number after the last
unfoldable pub end_due : ℕ → Stage → List ℕ
end_due line param = refused_line (line + 1) 13
end_due line (load p) = refused_line (line + 1) 13
end_due line (end p count seed) = chain_file p count seed
end_due line stopped = []

-- the load program, by its run state
abbrev pub load_machine : Machine State
load_machine = record {
  start = record { line = 0; stage = param };
  on_line = λ s text. take_due s.line s.stage text;
  on_bad = λ s. bad_line s.line s.stage;
  on_end = λ s. end_due s.line s.stage;
  stopped = λ s. is_stopped s.stage;
}

-- the program: from input to output
abbrev pub load_program : List ℕ → List ℕ
load_program input = output_of load_machine input
