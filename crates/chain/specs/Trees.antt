-- The tree of a chain: left-leaning, the accumulated tree first and the new leaf second.
use Rattle.std.specs.Prelude.{◌≡◌, List, [], ◌∷◌, ◌++◌, ℕ, ℤ, pos, replicate}
use Rattle.std.specs.Prelude.{Some}
use Rattle.settings.specs.Settings.{Parameters}
use Rattle.text.specs.Fields.{record_of, read_u64, read_i64, read_ternary}
use Rattle.lova.specs.declared.Profile.{Profile}
use Rattle.lova.specs.declared.Profile.TheVariants.{General, Fresh}
use Rattle.lova.specs.Stored.{matrix_A, matrix_S, size_C, joined_T, joined_D}
use Rattle.lova.specs.Trees.{Tree, leaf, fold, fold_fresh, Before, Held, seen, view_of, left_witness}
use Rattle.chain.specs.Nodes.{Node, blank_right, blank_instance, blank_prepared_in, blank_witness}
use Rattle.chain.specs.Reports.{leaf_word}
use Rattle.chain.specs.Params.{param_word, from_five}
use Rattle.chain.specs.Chain.{a_word, c_word}

-- what the calls of a fold, and all calls of a tree, find in their outputs: zeros
abbrev pub blank_before : Parameters → Profile → Before
blank_before p f = record {
  message = blank_prepared_in p f;
  join = record { T = replicate (joined_T p).size 0; D = replicate (joined_D p).size (pos 0) };
  verdict = blank_instance p;
  witness = blank_witness p;
}

unfoldable pub blank_held : (p : Parameters) (t : Tree) → Held t
blank_held p (leaf S) = blank_instance p
blank_held p (fold left right C) = (blank_held p left, blank_held p right, blank_before p General)
blank_held p (fold_fresh left v C) = (blank_held p left, blank_right p Fresh, blank_before p Fresh)

-- the instance and the witness that the calls of a tree leave at its root
unfoldable pub tree_node : Parameters → List ℕ → Tree → Node
tree_node p A t = record { instance = seen p (view_of p A t (blank_held p t)); witness = left_witness p A t (blank_held p t) }

-- lines that spell a setting, an A and the tree of the leaves and challenges read so far
pub data Spells : List (List ℕ) → Parameters → List ℕ → Tree → Type 0 where
  one : (l₁ l₂ l₃ xs A : List ℕ) (S : List ℤ)
      → record_of read_u64 param_word 5 l₁ ≡ Some xs
      → record_of read_u64 a_word (matrix_A (from_five xs)).size l₂ ≡ Some A
      → record_of read_i64 leaf_word (matrix_S (from_five xs)).size l₃ ≡ Some S
      → Spells (l₁ ∷ l₂ ∷ l₃ ∷ []) (from_five xs) A (leaf S)
  more : (ls : List (List ℕ)) (p : Parameters) (A : List ℕ) (t : Tree) (l₁ l₂ : List ℕ) (S : List ℤ) (C : List ℕ)
      → Spells ls p A t
      → record_of read_i64 leaf_word (matrix_S p).size l₁ ≡ Some S
      → record_of read_ternary c_word (size_C p) l₂ ≡ Some C
      → Spells (ls ++ (l₁ ∷ l₂ ∷ [])) p A (fold t (leaf S) C)
