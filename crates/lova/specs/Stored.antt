-- Document 01, "Matrices": how each matrix is stored.
use Rattle.std.specs.Prelude.{List, ℕ, ◌+◌, ◌*◌, ◌-◌, ◌^◌, ℤ}
use Rattle.integers.specs.Residues.{word}
use Rattle.matrices.specs.Matrices.{Matrix}
use Rattle.matrices.specs.Tables.{table, unsigned, signed, challenge}
use Rattle.matrices.specs.Triangles.{triangular, lower, mirrored}
use Rattle.settings.specs.Settings.{Parameters, k_of, NOf}
use Rattle.lova.specs.declared.Profile.{Profile}
use Rattle.lova.specs.declared.Profile.TheVariants.{General, Fresh}

-- a stored matrix: how many elements it has, the matrix that they stand for, and the elements that stand for a matrix
pub record Stored (E : Type 0) : Type 0 where
  pub size : ℕ
  pub read : List E → Matrix
  pub write : Matrix → List E

-- unsigned 64-bit entries by rows: whole numbers modulo 2^64
abbrev pub words : ℕ → ℕ → Stored ℕ
words rows cols = record { size = rows * cols; read = unsigned cols; write = λ X. table rows cols (λ i j. word (X i j)) }

-- signed 64-bit entries by rows: exact whole numbers
abbrev pub wholes : ℕ → ℕ → Stored ℤ
wholes rows cols = record { size = rows * cols; read = signed cols; write = λ X. table rows cols X }

-- a symmetric matrix of such entries: its lower triangle by rows
abbrev pub triangle : ℕ → Stored ℤ
triangle n = record { size = triangular n; read = mirrored; write = lower n }

module _ (p : Parameters) where
  -- A is n by m and T is n by t, unsigned
  abbrev pub matrix_A : Stored ℕ
  matrix_A = words p.n p.m

  abbrev pub matrix_T : Stored ℕ
  matrix_T = words p.n p.t

  -- S is m by t and D is t by t, signed
  abbrev pub matrix_S : Stored ℤ
  matrix_S = wholes p.m p.t

  abbrev pub matrix_D : Stored ℤ
  matrix_D = wholes p.t p.t

  -- V is t by t and is S1-transposed times S2
  abbrev pub matrix_V : Stored ℤ
  matrix_V = wholes p.t p.t

  -- the digit witness S~ is m by N, T~ is n by N, D~ is N by N and symmetric; T~ is unsigned, the other two signed
  abbrev pub matrix_S~ : Stored ℤ
  matrix_S~ = wholes p.m (NOf p)

  abbrev pub matrix_T~ : Stored ℕ
  matrix_T~ = words p.n (NOf p)

  abbrev pub matrix_D~ : Stored ℤ
  matrix_D~ = triangle (NOf p)

  -- the joined T is n by 2t, the joined D is 2t by 2t
  abbrev pub joined_T : Stored ℕ
  joined_T = words p.n (2 * p.t)

  abbrev pub joined_D : Stored ℤ
  joined_D = wholes (2 * p.t) (2 * p.t)

  -- C is N by t, one byte an entry
  abbrev pub size_C : ℕ
  size_C = NOf p * p.t

  abbrev pub read_C : List ℕ → Matrix
  read_C = challenge p.t

-- an instance: T and D
pub record Instance : Type 0 where
  pub T : List ℕ
  pub D : List ℤ

-- an instance with the number of leaves under it
pub record Counted : Type 0 where
  pub instance : Instance
  pub leaves : ℕ

abbrev pub counted : Instance → ℕ → Counted
counted I n = record { instance = I; leaves = n }

-- the most leaves of a tree
abbrev pub most_leaves : ℕ
most_leaves = 2 ^ 32 - 1

-- a message: V, T~ and D~
pub record Message : Type 0 where
  pub «V» : List ℤ
  pub T~ : List ℕ
  pub D~ : List ℤ

-- what the message operation writes: the message, and beside it the digit witness, which is not sent
pub record Prepared : Type 0 where
  pub message : Message
  pub S~ : List ℤ

-- two witnesses: S1, and S2 or v
pub record Witnesses : Type 0 where
  pub S₁ : List ℤ
  pub S₂ : List ℤ

-- ---- profiles: the second witness has t columns, or it is one vector v that stands for t equal columns

-- the columns of the second witness, where the first has t
abbrev pub right_for : ℕ → Profile → ℕ
right_for t General = t
right_for t Fresh = 1

abbrev pub right_of : Parameters → Profile → ℕ
right_of p f = right_for p.t f

-- how often each of them stands in the general fold
abbrev pub copies_for : ℕ → Profile → ℕ
copies_for t General = 1
copies_for t Fresh = t

-- the columns of S~, T~ and D~: N, or kt + k
abbrev pub columns_of : Parameters → Profile → ℕ
columns_of p General = NOf p
columns_of p Fresh = p.t * k_of p + k_of p

module _ (p : Parameters) (f : Profile) where
  -- the second witness and its instance: v has m entries, its T n and its D one
  abbrev pub right_S : Stored ℤ
  right_S = wholes p.m (right_of p f)

  abbrev pub right_T : Stored ℕ
  right_T = words p.n (right_of p f)

  abbrev pub right_D : Stored ℤ
  right_D = wholes (right_of p f) (right_of p f)

  -- what is made of both witnesses: V has t entries, T~ and S~ have kt + k columns and D~ is a triangle of that size
  abbrev pub sent_V : Stored ℤ
  sent_V = wholes p.t (right_of p f)

  abbrev pub sent_S~ : Stored ℤ
  sent_S~ = wholes p.m (columns_of p f)

  abbrev pub sent_T~ : Stored ℕ
  sent_T~ = words p.n (columns_of p f)

  abbrev pub sent_D~ : Stored ℤ
  sent_D~ = triangle (columns_of p f)
