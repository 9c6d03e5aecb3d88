-- Small matrices worked out, so that a definition with rows and columns, or left and right, mixed up does not pass.
use Rattle.std.proofs.Common.{◌≡◌, ℕ, ◌+◌, ◌*◌, ◌^◌, List, [], ◌∷◌, ℤ, pos, neg_ℤ, refl}
use Rattle.integers.specs.Lists.{build}
use Rattle.integers.specs.Sums.{sum, sum_ℕ}
use Rattle.integers.specs.Residues.{residue, word}
use Rattle.matrices.specs.Matrices.{product, transposed, gram, both_sides, squared_length}
use Rattle.matrices.specs.Tables.{table, entry, unsigned, signed}
use Rattle.matrices.specs.Triangles.{lower, mirrored}

abbrev minus : ℕ → ℤ
minus n = neg_ℤ (pos n)

-- 2 by 3, 3 by 2, and two of 2 by 2 that are not their own transposed
abbrev X : List ℤ
X = pos 1 ∷ minus 2 ∷ pos 3 ∷ pos 0 ∷ pos 4 ∷ minus 1 ∷ []

abbrev Y : List ℤ
Y = pos 2 ∷ pos 1 ∷ pos 0 ∷ minus 3 ∷ pos 5 ∷ pos 1 ∷ []

abbrev C : List ℤ
C = pos 1 ∷ pos 2 ∷ minus 1 ∷ pos 0 ∷ []

abbrev D : List ℤ
D = pos 1 ∷ pos 2 ∷ pos 3 ∷ pos 4 ∷ []

-- entry (i, j) stands at i × cols + j
by_rows : table 2 3 (λ i j. 10 * i + j) ≡ 0 ∷ 1 ∷ 2 ∷ 10 ∷ 11 ∷ 12 ∷ []
unfolding table build
by_rows = refl

row_one : entry (pos 0) 3 X 1 0 ≡ pos 0
row_one = refl

column-one : entry (pos 0) 3 X 0 1 ≡ minus 2
column-one = refl

turned : table 3 2 (transposed (signed 3 X)) ≡ pos 1 ∷ pos 0 ∷ minus 2 ∷ pos 4 ∷ pos 3 ∷ minus 1 ∷ []
unfolding table build
turned = refl

-- X Y
multiplied : table 2 2 (product 3 (signed 3 X) (signed 2 Y)) ≡ pos 17 ∷ pos 10 ∷ minus 5 ∷ minus 13 ∷ []
unfolding table build sum
multiplied = refl

-- Y transposed times Y, with the squared lengths 29 and 11 of Y's columns on its diagonal
grams : table 2 2 (gram 3 (signed 2 Y)) ≡ pos 29 ∷ pos 7 ∷ pos 7 ∷ pos 11 ∷ []
unfolding table build sum
grams = refl

lengths : build 2 (squared_length 3 (signed 2 Y)) ≡ 29 ∷ 11 ∷ []
unfolding build sum_ℕ
lengths = refl

-- C transposed times D times C, where C D times C transposed would be 27, −7, −5, 1
on-both-sides : table 2 2 (both_sides 2 (signed 2 C) (signed 2 D)) ≡ pos 0 ∷ minus 4 ∷ minus 2 ∷ pos 4 ∷ []
unfolding table build sum
on-both-sides = refl

-- a lower triangle, of a matrix that is not symmetric, and the mirrored square that it stands for
triangles : lower 3 (λ i j. pos (10 * i + j)) ≡ pos 0 ∷ pos 10 ∷ pos 11 ∷ pos 20 ∷ pos 21 ∷ pos 22 ∷ []
unfolding lower build
triangles = refl

squares : table 3 3 (mirrored X) ≡ pos 1 ∷ minus 2 ∷ pos 0 ∷ minus 2 ∷ pos 3 ∷ pos 4 ∷ pos 0 ∷ pos 4 ∷ minus 1 ∷ []
unfolding table build mirrored
squares = refl

-- a negative factor modulo 2^64: 3 times −5, and 2^63 times 2
below-zero : word (product 1 (unsigned 1 (3 ∷ [])) (signed 1 (minus 5 ∷ [])) 0 0) ≡ 18446744073709551601
unfolding sum residue
below-zero = refl

wraps : word (product 1 (unsigned 1 (2 ^ 63 ∷ [])) (signed 1 (pos 2 ∷ [])) 0 0) ≡ 0
unfolding sum residue
wraps = refl
