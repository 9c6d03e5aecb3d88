-- The matrix that a digit witness stands for, read from its digits: k of them for each entry.
use Rattle.std.specs.Prelude.{Bool, not, List, [], ◌∷◌, ℕ, ◌+◌, ◌*◌, leb, ℤ, get_or, take, drop, Option}
use Rattle.integers.specs.Tests.{all}
use Rattle.matrices.specs.Matrices.{Matrix, squared_length}
use Rattle.matrices.specs.Lengths.{less_square}
use Rattle.settings.specs.Rules.{Rule, ◌gives◌}
use Rattle.lova.specs.Tests.{every}
use Rattle.digit_entries.specs.Entries.{entry_of, limit, clamped, follow_rule}

-- the k digits from place x on
abbrev pub digits_at : ℕ → List ℤ → ℕ → List ℤ
digits_at k S~ x = take k (drop x S~)

-- the entry that they stand for, given up where it is too long for every bound
abbrev pub read_at : ℕ → ℕ → List ℤ → ℕ → ℤ
read_at b k S~ x = clamped limit (entry_of b (digits_at k S~ x))

-- what the square of entry j of a row leaves of what is left for its column, if it is within that
abbrev pub taken : ℕ → ℕ → List ℤ → List ℕ → ℕ → Option ℕ
taken b k row left j = less_square (get_or left j 0) (read_at b k row (j * k))

-- where the digits of entry (i, j) start, with `wide` entries to a row
abbrev pub place : ℕ → ℕ → ℕ → ℕ → ℕ
place k wide i j = i * (wide * k) + j * k

-- the whole: m rows of `wide` entries
module _ (b k wide : ℕ) (S~ : List ℤ) where
  abbrev pub entry_at : Matrix
  entry_at i j = entry_of b (digits_at k S~ (place k wide i j))

  -- whether each column has a squared length of at most `bound`
  abbrev pub short_columns : ℕ → ℕ → Bool
  short_columns m bound = all wide (λ j. leb (squared_length m entry_at j) bound)

  -- whether the digits are those that the rule gives
  abbrev pub ruled_entries : ℕ → Bool
  ruled_entries m = every m wide (λ i j. follow_rule b (digits_at k S~ (place k wide i j)))

  abbrev pub rows_rules : ℕ → ℕ → List Rule
  rows_rules m bound = (not (short_columns m bound) gives 8) ∷ (not (ruled_entries m) gives 16) ∷ []
