-- The tests that the rules and the verdict use.
use Rattle.std.specs.Prelude.{Bool, false, ◌&&◌, List, ℕ, ◌+◌, leb, eqb, ℤ, pos, negsuc, nat_abs, length}
use Rattle.std.specs.Int.Signed.{le_z}
use Rattle.integers.specs.Residues.{word}
use Rattle.integers.specs.Tests.{all}
use Rattle.matrices.specs.Matrices.{Matrix, squared_length}
use Rattle.matrices.specs.Tables.{entry}
use Rattle.settings.specs.Settings.{Parameters, NOf}
use Rattle.lova.specs.declared.Profile.{Profile}
use Rattle.lova.specs.declared.Profile.TheVariants.{General}
use Rattle.lova.specs.Stored.{Stored, Instance, most_leaves, Message, Prepared, right_of, matrix_T, matrix_D, right_S, right_T, right_D, sent_V, sent_S~, sent_T~, sent_D~, joined_T, joined_D, size_C}

-- a test of every entry of a matrix
unfoldable pub every : ℕ → ℕ → (ℕ → ℕ → Bool) → Bool
every rows cols P = all rows (λ i. all cols (λ j. P i j))

-- whether two whole numbers are equal
unfoldable pub eq_Z : ℤ → ℤ → Bool
eq_Z (pos a) (pos c) = eqb a c
eq_Z (pos a) (negsuc c) = false
eq_Z (negsuc a) (pos c) = false
eq_Z (negsuc a) (negsuc c) = eqb a c

-- whether two matrices of whole numbers are equal
abbrev pub equal : ℕ → ℕ → Matrix → Matrix → Bool
equal rows cols X Y = every rows cols (λ i j. eq_Z (X i j) (Y i j))

-- whether they are equal modulo 2^64
abbrev pub equal_words : ℕ → ℕ → Matrix → Matrix → Bool
equal_words rows cols X Y = every rows cols (λ i j. eqb (word (X i j)) (word (Y i j)))

-- whether a slice has the length of the matrix that it stands for
abbrev pub fits : {E : Type 0} → Stored E → List E → Bool
fits s xs = eqb (length xs) s.size

abbrev pub fits_instance : Parameters → Instance → Bool
fits_instance p I = fits (matrix_T p) I.T && fits (matrix_D p) I.D

abbrev pub fits_right : Parameters → Profile → Instance → Bool
fits_right p f I = fits (right_T p f) I.T && fits (right_D p f) I.D

abbrev pub fits_joined : Parameters → Instance → Bool
fits_joined p I = fits (joined_T p) I.T && fits (joined_D p) I.D

-- of a message with D~ stored in this form
abbrev pub fits_message_as : Parameters → Profile → Stored ℤ → Message → Bool
fits_message_as p f form M = fits (sent_V p f) M.«V» && fits (sent_T~ p f) M.T~ && fits form M.D~

abbrev pub fits_message : Parameters → Profile → Message → Bool
fits_message p f M = fits_message_as p f (sent_D~ p f) M

abbrev pub fits_prepared : Parameters → Profile → Prepared → Bool
fits_prepared p f o = fits_message p f o.message && fits (sent_S~ p f) o.S~

-- whether a challenge has N × t bytes
abbrev pub fits_C : Parameters → List ℕ → Bool
fits_C p C = eqb (length C) (size_C p)

-- whether each column of S, or v, has a squared length of at most B
unfoldable pub short_right : Parameters → Profile → List ℤ → Bool
short_right p f S = all (right_of p f) (λ j. leb (squared_length p.m ((right_S p f).read S) j) p.bound)

abbrev pub short : Parameters → List ℤ → Bool
short p S = short_right p General S

-- whether each diagonal entry of D is at most B
unfoldable pub diagonal_within : Parameters → List ℤ → Bool
diagonal_within p D = all p.t (λ i. le_z ((matrix_D p).read D i i) (pos p.bound))

-- whether each byte of C is 0, 1 or 2
unfoldable pub are_ternary : Parameters → List ℕ → Bool
are_ternary p C = every (NOf p) p.t (λ i j. leb (entry 0 p.t C i j) 2)

-- whether two leaf counts can be joined: none is 0, and the sum does not exceed 2^32 − 1
unfoldable pub counts_join : ℕ → ℕ → Bool
counts_join a b = leb 1 a && leb 1 b && leb (a + b) most_leaves

-- whether each entry is at most M and at least −M
abbrev pub bounded : ℕ → ℕ → ℕ → Matrix → Bool
bounded rows cols M X = every rows cols (λ i j. leb (nat_abs (X i j)) M)
