-- The whole run: from the bytes of the input to the bytes of the output, and the count of folds.
use Rattle.std.specs.Prelude.{Bool, false, cond, List, [], ◌∷◌, ℕ, ◌+◌}
use Rattle.text.specs.Fields.{fields, same}
use Rattle.line_machines.specs.Machines.{output_of}
use Rattle.line_machines.specs.Machines as Machines
use Rattle.chain.specs.Chain.{State, is_stopped, take_line, chain_machine, c_word}

-- the program: from input to output
abbrev pub program : List ℕ → List ℕ
program input = output_of chain_machine input

-- the run state after some lines
abbrev pub state_after : State → List (List ℕ) → State
state_after s ls = Machines.state_after chain_machine s ls

-- the lines that a run takes: those before the first that is refused
unfoldable pub taken : State → List (List ℕ) → List (List ℕ)
taken s [] = []
taken s (line ∷ more) = cond (is_stopped (take_line s line).state.stage) [] (line ∷ taken (take_line s line).state more)

-- whether a word is the first field
unfoldable pub first_is : List ℕ → List (List ℕ) → Bool
first_is word [] = false
first_is word (f ∷ fs) = same f word

-- how many of the lines are `c` records, by their text
unfoldable pub count_C : List (List ℕ) → ℕ
count_C [] = 0
count_C (line ∷ more) = cond (first_is c_word (fields line)) (count_C more + 1) (count_C more)
