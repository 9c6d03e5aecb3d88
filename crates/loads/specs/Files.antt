-- Document 02, request 7: the chain file of a load, in the order of its lines.
use Rattle.std.specs.Prelude.{List, [], ◌∷◌, ◌++◌, map, ℕ, zero, suc, ◌-◌, ℤ}
use Rattle.settings.specs.Settings.{Parameters}
use Rattle.numerals.specs.Numerals.{decimal, decimal_Z}
use Rattle.text.specs.Lines.{line_of, ternary_numeral}
use Rattle.lova.specs.Stored.{matrix_A, matrix_S, size_C}
use Rattle.chain.specs.Params.{param_word}
use Rattle.chain.specs.Reports.{leaf_word}
use Rattle.chain.specs.Chain.{a_word, c_word}
use Rattle.draws.specs.Draws.{after, drawn, word_of, challenge_of, witness_of, radius}

module _ (p : Parameters) where
  -- r, the greatest number with r² × m ≤ B
  abbrev pub radius_of : ℕ
  radius_of = radius p.m p.bound

  -- A, a witness and a challenge, filled by rows with what is drawn from the state s on
  unfoldable pub drawn_A : ℕ → List ℕ
  drawn_A s = drawn word_of (matrix_A p).size s

  unfoldable pub drawn_S : ℕ → List ℤ
  drawn_S s = drawn (witness_of radius_of) (matrix_S p).size s

  unfoldable pub drawn_c : ℕ → List ℕ
  drawn_c s = drawn challenge_of (size_C p) s

  -- the states after them
  abbrev pub after_A : ℕ → ℕ
  after_A s = after (matrix_A p).size s

  abbrev pub after_S : ℕ → ℕ
  after_S s = after (matrix_S p).size s

  abbrev pub after_C : ℕ → ℕ
  after_C s = after (size_C p) s

  -- their lines, and that of the setting
  unfoldable pub param_text : List ℕ
  param_text = line_of (param_word ∷ map decimal (p.n ∷ p.m ∷ p.t ∷ p.b ∷ p.bound ∷ []))

  unfoldable pub matrix_text : ℕ → List ℕ
  matrix_text s = line_of (a_word ∷ map decimal (drawn_A s))

  unfoldable pub witness_text : ℕ → List ℕ
  witness_text s = line_of (leaf_word ∷ map decimal_Z (drawn_S s))

  unfoldable pub challenge_text : ℕ → List ℕ
  challenge_text s = line_of (c_word ∷ map ternary_numeral (drawn_c s))

  -- n pairs of a `leaf` and a `c`
  unfoldable pub pairs_text : ℕ → ℕ → List ℕ
  pairs_text zero s = []
  pairs_text (suc n) s = witness_text s ++ (challenge_text (after_S s) ++ pairs_text n (after_C (after_S s)))

  -- a `leaf`, and n pairs
  abbrev pub leaves_text : ℕ → ℕ → List ℕ
  leaves_text n s = witness_text s ++ pairs_text n (after_S s)

  -- the file of a leaf count and a seed: `param`, `a`, a `leaf`, and a pair for each further leaf
  unfoldable pub chain_file : ℕ → ℕ → List ℕ
  chain_file count seed = param_text ++ (matrix_text seed ++ leaves_text (count - 1) (after_A seed))
