-- The lines of an input, as they are read.
use Rattle.std.specs.Prelude.{◌≡◌, ◌⊎◌, true, false, cond, List, [], ℕ, ◌+◌, ◌*◌, ◌≤◌, ◌<◌, length, get_or, Option, Some, None}
use Rattle.integers.specs.Ranges.{◌to◌, within}
use Rattle.line_machines.specs.Machines.{longest_line, bytewise}
use Rattle.line_machines.specs.Cuts.{cut_to, cut_of}
use Rattle.line_machines.specs.declared.Cut.{Cut}
use Rattle.loads.specs.Loads.{Stage, most_loaded, load_machine}

-- two lines and one byte: so much of an input decides what is printed
abbrev pub enough_bytes : ℕ
enough_bytes = 2 * (longest_line + 1) + 1

-- what is printed where so many lines were taken, this is due, and these bytes are still to come
abbrev pub printed_from : ℕ → Stage → List ℕ → List ℕ
printed_from line stage bytes = bytewise load_machine (record { state = record { line = line; stage = stage }; pending = [] }) bytes

-- no whole line stands first: none has ended, or it is too long
abbrev pub NoLine : List ℕ → Type 0
NoLine bytes = ((cut_of [] bytes).ended ≡ false) ⊎ (longest_line < length (cut_of [] bytes).pending)

-- this line stands first
pub record FirstLine (bytes text : List ℕ) (cut : Cut) : Type 0 where
  pub is : cut_to cut.used text true ≡ cut_of [] bytes
  pub short : length text ≤ longest_line
  pub within : cut.length ≤ longest_line
  pub used : cut.used ≤ length bytes

-- what a `load` record asks for: a leaf count within 1..1000, and a seed
unfoldable pub asked_of : Option (List ℕ) → Option (ℕ × ℕ)
asked_of None = None
asked_of (Some xs) = cond (within (1 to most_loaded) (get_or xs 0 0)) (Some (get_or xs 0 0, get_or xs 1 0)) None
