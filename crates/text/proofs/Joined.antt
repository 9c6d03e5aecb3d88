-- The line of some fields: which bytes it lacks, and how long it is.
use mathlib.Core.Path.{◌≡◌, refl}
use mathlib.Core.Bool.{Bool, true, false, cond}
use mathlib.Core.List.{List, [], ◌∷◌, ◌++◌, map}
use Prim.Native.Nat.{ℕ, ◌+◌, ◌*◌, ◌≤◌}
use native.Mathlib.Omega.{arith}
use native.Mathlib.Nat.{mul-suc}
use lib.Dec.{eqb}
use lib.ListN.{length, length-append}
use borrow.Author.Tests.{ne_eqb}
use Rattle.numerals.specs.Bytes.{lacks}
use Rattle.text.specs.Lines.{tabbed, joined}
use Rattle.text.proofs.Records.{Each}

lacks_append : (b : ℕ) (s t : List ℕ) → lacks b s ≡ true → lacks b t ≡ true → lacks b (s ++ t) ≡ true
unfolding lacks
lacks_append b [] t h k = k
lacks_append b (x ∷ s) t h k = go (eqb x b) h (λ (l : lacks b s ≡ true). lacks_append b s t l k)
  where
    go : (c : Bool) → cond c false (lacks b s) ≡ true → (lacks b s ≡ true → lacks b (s ++ t) ≡ true) → cond c false (lacks b (s ++ t)) ≡ true
    go true l r = l
    go false l r = r l

-- the word w, and each value by `show`
module _ {A : Type 0} (show : A → List ℕ) where
  -- a byte other than the tab that no field has
  tabbed-lacks : (b : ℕ) (vs : List A) → (9 ≡ b → ⊥) → Each (λ v. lacks b (show v) ≡ true) vs → lacks b (tabbed (map show vs)) ≡ true
  unfolding tabbed lacks
  tabbed-lacks b [] n h = refl
  tabbed-lacks b (v ∷ vs) n h = rw (ne_eqb 9 b n) (lacks_append b (show v) (tabbed (map show vs)) h.0 (tabbed-lacks b vs n h.1))

  pub record_lacks : (b : ℕ) (w : List ℕ) (vs : List A) → (9 ≡ b → ⊥) → lacks b w ≡ true → Each (λ v. lacks b (show v) ≡ true) vs → lacks b (joined (w ∷ map show vs)) ≡ true
  unfolding joined
  record_lacks b w vs n t h = lacks_append b w (tabbed (map show vs)) t (tabbed-lacks b vs n h)

  -- with at most k bytes a value, a tab before each
  tabbed-length : (k : ℕ) (vs : List A) → Each (λ v. length (show v) ≤ k) vs → length (tabbed (map show vs)) ≤ (k + 1) * length vs
  unfolding tabbed
  tabbed-length k [] h = omega arith
  tabbed-length k (v ∷ vs) h = omega (arith, h.0, tabbed-length k vs h.1, length-append (show v) (tabbed (map show vs)), mul-suc (k + 1) (length vs))

  pub record_length : (k : ℕ) (w : List ℕ) (vs : List A) → Each (λ v. length (show v) ≤ k) vs → length (joined (w ∷ map show vs)) ≤ length w + (k + 1) * length vs
  unfolding joined
  record_length k w vs h = omega (arith, length-append w (tabbed (map show vs)), tabbed-length k vs h)
