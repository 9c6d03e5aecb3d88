-- What a block of 32 rows adds to a Gram matrix.
use Rattle.std.specs.Prelude.{List, ℕ, ◌*◌, ◌^◌, ◌<◌, ℤ}
use Rattle.matrices.specs.Matrices.{Matrix}
use Rattle.dots.specs.Dots.{dots, sizes_of}

-- X transposed times X, of the 32 rows of X that p holds by columns
abbrev pub block_of : List ℤ → Matrix
block_of p a b = dots p p (a * 32) (b * 32) 32

-- the sizes of the products of two columns sum to less than 2^31, for the first n columns
abbrev pub BlockFits : ℕ → List ℤ → Type 0
BlockFits n p = (a b : ℕ) → a < n → b < n → sizes_of p p (a * 32) (b * 32) 32 < 2 ^ 31
