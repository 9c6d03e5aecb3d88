-- Matrices of whole numbers, as functions of row and column.
use Rattle.std.specs.Prelude.{◌≡◌, ℕ, ◌+◌, ◌-◌, ◌*◌, ◌<◌, cond, ℤ, ◌*ℤ◌, nat_lt, unsigned_abs}
use Rattle.integers.specs.Sums.{sum, sum_ℕ}

-- rows and columns are counted from 0
abbrev pub Matrix : Type 0
Matrix = ℕ → ℕ → ℤ

-- X Y, where X has p columns and Y has p rows
abbrev pub product : ℕ → Matrix → Matrix → Matrix
product p X Y i j = sum p (λ k. X i k *ℤ Y k j)

-- X transposed
abbrev pub transposed : Matrix → Matrix
transposed X i j = X j i

-- the Gram matrix, X transposed times X, where X has m rows
abbrev pub gram : ℕ → Matrix → Matrix
gram m X = product m (transposed X) X

-- C transposed times D times C, where C has p rows
abbrev pub both_sides : ℕ → Matrix → Matrix → Matrix
both_sides p C D = product p (product p (transposed C) D) C

-- the first `left` rows of C, and then the sum of the blocks of `block` rows that follow, as many as there are copies
unfoldable pub contracted : ℕ → ℕ → ℕ → Matrix → Matrix
contracted left block copies C i j = cond (nat_lt i left) (C i j) (sum copies (λ a. C (left + (a * block + (i - left))) j))

-- the squared length of column j of X, which has m rows
abbrev pub squared_length : ℕ → Matrix → ℕ → ℕ
squared_length m X j = sum_ℕ m (λ i. unsigned_abs (X i j) * unsigned_abs (X i j))

-- the sizes of the p products that make an entry of X Y, summed: no partial sum is larger in size
abbrev pub sizes : ℕ → Matrix → Matrix → ℕ → ℕ → ℕ
sizes p X Y i j = sum_ℕ p (λ k. unsigned_abs (X i k *ℤ Y k j))

-- two matrices have the same entries in the first rows and columns
abbrev pub Agree : {A : Type 0} → ℕ → ℕ → (ℕ → ℕ → A) → (ℕ → ℕ → A) → Type 0
Agree rows cols X Y = (i j : ℕ) → i < rows → j < cols → X i j ≡ Y i j

-- the first n rows and columns are a symmetric matrix
abbrev pub Symmetric : ℕ → Matrix → Type 0
Symmetric n X = Agree n n X (transposed X)
