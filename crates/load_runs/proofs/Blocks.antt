-- Bytes that are written block by block: those that were, and those that are left.
use mathlib.Core.Path.{◌≡◌, ◌∙◌, ap}
use mathlib.Core.List.{List, ◌++◌, append_assoc}
use Prim.Native.Nat.{ℕ}

-- some bytes were written, and these are left of all
abbrev pub Written : List ℕ → List ℕ → Type 0
Written all rest = (written : List ℕ) × (written ++ rest ≡ all)

-- a block more
module _ (block next rest : List ℕ) (e : block ++ next ≡ rest) where
  pub written-more : (all : List ℕ) → Written all rest → Written all next
  written-more all w = (w.0 ++ block, append_assoc w.0 block next ∙ ap (λ (r : List ℕ). w.0 ++ r) e ∙ w.1)
