-- Document 01, "The chain program": the words, and the lines that the program prints.
use Rattle.std.specs.Prelude.{List, [], ◌∷◌, ◌++◌, map, ℕ, ℤ}
use Rattle.matrices.specs.Tables.{table}
use Rattle.settings.specs.Settings.{Parameters}
use Rattle.numerals.specs.Numerals.{decimal, decimal_Z}
use Rattle.text.specs.Lines.{tabbed, line_of}
use Rattle.lova.specs.Answers.{Meaning, done, «yes», norm, commitment, long, products, member, refused}
use Rattle.lova.specs.Stored.{Stored, Counted, matrix_D}

-- `leaf`
abbrev pub leaf_word : List ℕ
leaf_word = 108 ∷ 101 ∷ 97 ∷ 102 ∷ []

-- `fold`
abbrev pub fold_word : List ℕ
fold_word = 102 ∷ 111 ∷ 108 ∷ 100 ∷ []

-- `end`
abbrev pub end_word : List ℕ
end_word = 101 ∷ 110 ∷ 100 ∷ []

-- `refused`
abbrev pub refused_word : List ℕ
refused_word = 114 ∷ 101 ∷ 102 ∷ 117 ∷ 115 ∷ 101 ∷ 100 ∷ []

-- the word of an answer; `done` and `refused` stand for the answers that no line of document 01 prints
unfoldable pub word_of : Meaning → List ℕ
word_of done = 100 ∷ 111 ∷ 110 ∷ 101 ∷ []
word_of «yes» = 121 ∷ 101 ∷ 115 ∷ []
word_of norm = 110 ∷ 111 ∷ 114 ∷ 109 ∷ []
word_of commitment = 99 ∷ 111 ∷ 109 ∷ 109 ∷ 105 ∷ 116 ∷ 109 ∷ 101 ∷ 110 ∷ 116 ∷ []
word_of long = 108 ∷ 111 ∷ 110 ∷ 103 ∷ []
word_of products = 112 ∷ 114 ∷ 111 ∷ 100 ∷ 117 ∷ 99 ∷ 116 ∷ 115 ∷ []
word_of member = 109 ∷ 101 ∷ 109 ∷ 98 ∷ 101 ∷ 114 ∷ []
word_of (refused r) = refused_word

-- the entries of a stored matrix, by rows, as the whole numbers that they are
unfoldable pub numbers_of : {E : Type 0} → Stored E → ℕ → ℕ → List E → List ℤ
numbers_of s rows cols xs = table rows cols (s.read xs)

-- the numerals of T, of the entries of D, and of the leaf count
abbrev pub instance_fields : List ℕ → List ℤ → ℕ → List (List ℕ)
instance_fields T D leaves = map decimal T ++ map decimal_Z D ++ (decimal leaves ∷ [])

-- how a line ends that has them: a tab before each, and a line feed
abbrev pub instance_text : List ℕ → List ℤ → ℕ → List ℕ
instance_text T D leaves = tabbed (instance_fields T D leaves) ++ (10 ∷ [])

-- `leaf` has its number, T, D, the leaf count
unfoldable pub leaf_text : ℕ → List ℕ → List ℤ → ℕ → List ℕ
leaf_text number T D leaves = line_of (leaf_word ∷ decimal number ∷ instance_fields T D leaves)

-- `fold` has its number, the verdict, T', D', the leaf count
unfoldable pub fold_text : ℕ → Meaning → List ℕ → List ℤ → ℕ → List ℕ
fold_text number answer T D leaves = line_of (fold_word ∷ decimal number ∷ word_of answer ∷ instance_fields T D leaves)

-- the lines of a leaf's and of a fold's instance: they print the entries of D, however D is stored
module _ (p : Parameters) (number : ℕ) where
  abbrev pub leaf_line : Counted → List ℕ
  leaf_line J = leaf_text number J.instance.T (numbers_of (matrix_D p) p.t p.t J.instance.D) J.leaves

  abbrev pub fold_line : Meaning → Counted → List ℕ
  fold_line answer J = fold_text number answer J.instance.T (numbers_of (matrix_D p) p.t p.t J.instance.D) J.leaves

-- `end` has the count of folds and the relation test of the final witness
unfoldable pub end_line : ℕ → Meaning → List ℕ
end_line folds answer = line_of (end_word ∷ decimal folds ∷ word_of answer ∷ [])

-- a refusal prints `refused`, line number from 1, number
unfoldable pub refused_line : ℕ → ℕ → List ℕ
refused_line line number = line_of (refused_word ∷ decimal line ∷ decimal number ∷ [])
