-- Lines that are read: a line cut into its fields, and the numbers of a record.
use Rattle.std.specs.Prelude.{Bool, true, false, cond, List, [], ◌∷◌, ℕ, zero, suc, eqb, ℤ, Option, Some, None}
use Rattle.numerals.specs.Numerals.{read_unsigned, read_signed}

-- x put in front of the first part
unfoldable pub onto : ℕ → List (List ℕ) → List (List ℕ)
onto x [] = (x ∷ []) ∷ []
onto x (f ∷ fs) = (x ∷ f) ∷ fs

-- a byte string cut at each byte b: one part more than there are such bytes
unfoldable pub cut_at : ℕ → List ℕ → List (List ℕ)
cut_at b [] = [] ∷ []
cut_at b (x ∷ s) = cond (eqb x b) ([] ∷ cut_at b s) (onto x (cut_at b s))

-- the fields of a line: it is cut at each tab (byte 9)
abbrev pub fields : List ℕ → List (List ℕ)
fields line = cut_at 9 line

-- how many bytes stand before the first tab
unfoldable pub until_tab : List ℕ → ℕ
until_tab [] = 0
until_tab (x ∷ s) = cond (eqb x 9) 0 (suc (until_tab s))

-- whether two byte strings are equal
unfoldable pub same : List ℕ → List ℕ → Bool
same [] [] = true
same [] (y ∷ t) = false
same (x ∷ s) [] = false
same (x ∷ s) (y ∷ t) = cond (eqb x y) (same s t) false

-- one value before the others, if all are there
unfoldable pub push : {A : Type 0} → Option A → Option (List A) → Option (List A)
push None vs = None
push (Some v) None = None
push (Some v) (Some vs) = Some (v ∷ vs)

-- exactly n fields, each read; none where there are more or fewer, or one cannot be read
unfoldable pub exactly : {A : Type 0} → (List ℕ → Option A) → ℕ → List (List ℕ) → Option (List A)
exactly read zero [] = Some []
exactly read zero (f ∷ fs) = None
exactly read (suc n) [] = None
exactly read (suc n) (f ∷ fs) = push (read f) (exactly read n fs)

-- the n values after the word, where the first field is exactly that word
unfoldable pub after_word : {A : Type 0} → (List ℕ → Option A) → List ℕ → ℕ → List (List ℕ) → Option (List A)
after_word read word n [] = None
after_word read word n (f ∷ fs) = cond (same f word) (exactly read n fs) None

-- the n values of a line that begins with the word
unfoldable pub record_of : {A : Type 0} → (List ℕ → Option A) → List ℕ → ℕ → List ℕ → Option (List A)
record_of read word n line = after_word read word n (fields line)

-- a field as an unsigned number of 64 bits
abbrev pub read_u64 : List ℕ → Option ℕ
read_u64 = read_unsigned

-- a field as a signed number of 64 bits
abbrev pub read_i64 : List ℕ → Option ℤ
read_i64 = read_signed

-- a field as the byte of a ternary entry: `0` is 0, `1` is 1 and `-1` is 2
unfoldable pub read_ternary : List ℕ → Option ℕ
read_ternary f = cond (same f (48 ∷ [])) (Some 0) (cond (same f (49 ∷ [])) (Some 1) (cond (same f (45 ∷ 49 ∷ [])) (Some 2) None))

-- the values, where the answer is yes
unfoldable pub answer_of : {A : Type 0} → Bool → List A → Option (List A)
answer_of true vs = Some vs
answer_of false vs = None
