-- How far a chunk is read.
use Rattle.std.specs.Prelude.{◌≡◌, Bool, true, false, cond, List, [], ◌∷◌, ◌++◌, ℕ, suc, ◌+◌, ◌≤◌, ◌<◌, ltb, eqb, length}
use Rattle.line_machines.specs.Machines.{longest_line}
use Rattle.line_machines.specs.declared.Cut.{Cut}

-- how far a chunk was read: how many bytes of it, the line so far, and whether the line has ended
pub record CutTo : Type 0 where
  pub used : ℕ
  pub pending : List ℕ
  pub ended : Bool

abbrev pub cut_to : ℕ → List ℕ → Bool → CutTo
cut_to n line e = record { used = n; pending = line; ended = e }

-- a chunk is read up to the end of the line: a line feed, or the first byte too many
unfoldable pub cut_of : List ℕ → List ℕ → CutTo
cut_of pending [] = cut_to 0 pending false
cut_of pending (b ∷ bs) =
    let more = cut_of (pending ++ (b ∷ [])) bs in
    cond (eqb b 10) (cut_to 1 pending true)
    (cond (ltb (length pending) longest_line) (cut_to (suc more.used) more.pending more.ended) (cut_to 1 (pending ++ (b ∷ [])) true))

-- a chunk is used up to its end at most, and a line is at most one byte too long
pub record CutWithin (c : Cut) (size : ℕ) : Type 0 where
  pub used : c.used ≤ size
  pub moves : 0 < size → 0 < c.used
  pub short : c.ended ≡ false → c.length ≤ longest_line
  pub room : c.length ≤ longest_line + 1
