-- The ternary vectors, listed, and those at which a quadratic form is 0.
use Rattle.std.specs.Prelude.{Bool, true, false, cond, List, [], ◌∷◌, ◌++◌, map, ℕ, zero, suc, ◌+◌, eqb, leb, ℤ, pos, negsuc, nat_abs}
use Rattle.integers.specs.Tests.{all}
use Rattle.matrices.specs.Matrices.{Matrix, both_sides}
use Rattle.lova.specs.Tests.{eq_Z}

-- a vector: entries are counted from 0
abbrev pub Vector : Type 0
Vector = ℕ → ℤ

-- v with c as its entry n
unfoldable pub put : ℕ → ℤ → Vector → Vector
put n c v i = cond (eqb i n) c (v i)

-- the ternary vectors of n entries, listed by their last entry, −1, 0 or 1; past it stands 0
unfoldable pub vectors : ℕ → List Vector
vectors zero = (λ i. pos 0) ∷ []
vectors (suc n) = map (put n (negsuc 0)) (vectors n) ++ (map (put n (pos 0)) (vectors n) ++ map (put n (pos 1)) (vectors n))

-- 1 for yes
unfoldable pub tally : Bool → ℕ
tally true = 1
tally false = 0

-- how many elements of a list pass a test
unfoldable pub count_of : {A : Type 0} → (A → Bool) → List A → ℕ
count_of P [] = 0
count_of P (x ∷ xs) = tally (P x) + count_of P xs

-- how many ternary vectors c of n entries make f c 0
unfoldable pub zeros_of : ℕ → (Vector → ℤ) → ℕ
zeros_of n f = count_of (λ c. eq_Z (f c) (pos 0)) (vectors n)

-- c-transposed E c, where E has N rows
abbrev pub form : ℕ → Matrix → Vector → ℤ
form N E c = both_sides N (λ i j. c i) E 0 0

-- how many make it 0
abbrev pub zeros : ℕ → Matrix → ℕ
zeros N E = zeros_of N (form N E)

-- whether the first n entries of a vector are ternary
abbrev pub is_ternary : ℕ → Vector → Bool
is_ternary n v = all n (λ i. leb (nat_abs (v i)) 1)

-- whether the first n entries of two vectors are the same
abbrev pub is_same : ℕ → Vector → Vector → Bool
is_same n v w = all n (λ i. eq_Z (v i) (w i))
