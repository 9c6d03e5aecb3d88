-- What a run has read and written.
use Rattle.std.specs.Prelude.{◌≡◌, List, [], ◌++◌, ℕ, ◌≤◌, length, take, Result, Err, IsOk}
use Rattle.loads.specs.Loads.{load_program}
use Rattle.load_files.specs.Pending.{to_come}
use Rattle.load_files.specs.declared.Pending.{Pending}
use Rattle.load_runs.specs.declared.Failure.{Failure}
use Rattle.load_runs.specs.declared.Failure.TheVariants as Failures
use Rattle.load_runs.specs.declared.Ran.{Ran}

-- the bytes that were written, and those that are left, are all that there were; where no write failed, none is left
pub record Printed {X : Type 0} (ending : Result X Failure) (rest : Pending) (bytes : List ℕ) : Type 0 where
  pub written : List ℕ
  pub all : written ++ to_come rest ≡ bytes
  pub was_read : ending ≡ Err Failures.Unread → ⊥
  pub whole : IsOk ending → to_come rest ≡ []

-- the bytes that were read stand at the buffer's start, and where they fill it any more would change nothing; those that were
-- written, with those that are left, are what the program prints for them; where a read failed none was written, where nothing
-- failed none is left
pub record RanOn (r : Ran) (input : List ℕ) : Type 0 where
  pub within : r.read ≤ length input
  pub full : r.read ≡ length input → (more : List ℕ) → load_program (input ++ more) ≡ load_program (take r.read input)
  pub written : List ℕ
  pub all : written ++ to_come r.rest ≡ load_program (take r.read input)
  pub unread : r.ending ≡ Err Failures.Unread → written ≡ []
  pub whole : IsOk r.ending → to_come r.rest ≡ []
