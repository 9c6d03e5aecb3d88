-- Byte strings, and buffers that they are written to.
use Rattle.std.specs.Prelude.{Bool, true, false, cond, List, [], ◌∷◌, ◌++◌, ℕ, ◌+◌, eqb, length, take, drop}

-- whether the byte b is nowhere in the string
unfoldable pub lacks : ℕ → List ℕ → Bool
lacks b [] = true
lacks b (x ∷ s) = cond (eqb x b) false (lacks b s)

-- the buffer d with s written over it from index at on
unfoldable pub written : List ℕ → ℕ → List ℕ → List ℕ
written d at s = take at d ++ (s ++ drop (at + length s) d)
