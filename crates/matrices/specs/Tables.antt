-- Matrices stored by rows in a list.
use Rattle.std.specs.Prelude.{ℕ, zero, suc, ◌+◌, ◌*◌, ◌/◌, ◌%◌, List, ℤ, pos, negsuc, slice_index_or}
use Rattle.integers.specs.Lists.{build}
use Rattle.integers.specs.Residues.{word}
use Rattle.matrices.specs.Matrices.{Matrix}

module _ {A : Type 0} where
  -- the list of a matrix: entry (i, j) stands at i × cols + j
  unfoldable pub table : ℕ → ℕ → (ℕ → ℕ → A) → List A
  table rows cols f = build (rows * cols) (λ x. f (x / cols) (x % cols))

  -- what stands in row i and column j of a matrix with so many columns; d past the list's end
  abbrev pub entry : A → ℕ → List A → ℕ → ℕ → A
  entry d cols xs i j = slice_index_or xs (i * cols + j) d

  -- the matrix of whole numbers that a list stands for, where `value` is the number that an element stands for
  abbrev pub entries : (A → ℤ) → A → ℕ → List A → Matrix
  entries value d cols xs i j = value (entry d cols xs i j)

-- a list of unsigned words, and one of signed words
abbrev pub unsigned : ℕ → List ℕ → Matrix
unsigned = entries pos 0

abbrev pub signed : ℕ → List ℤ → Matrix
signed = entries (λ z. z) (pos 0)

-- the list of a matrix modulo 2^64, in unsigned words
abbrev pub residues : ℕ → ℕ → Matrix → List ℕ
residues rows cols X = table rows cols (λ i j. word (X i j))

-- a challenge's byte: 0 is 0, 1 is 1, 2 is −1 (a greater byte is refused before it is read)
unfoldable pub ternary : ℕ → ℤ
ternary zero = pos 0
ternary (suc zero) = pos 1
ternary (suc (suc c)) = negsuc 0

-- a list of such bytes
abbrev pub challenge : ℕ → List ℕ → Matrix
challenge = entries ternary 0
