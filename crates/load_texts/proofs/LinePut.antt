-- A line that is written from a place on: its word, its fields, and a line feed.
use mathlib.Core.Path.{◌≡◌, refl, sym, ◌∙◌, ap}
use mathlib.Core.List.{List, [], ◌∷◌, ◌++◌, map, append_assoc}
use Prim.Native.Nat.{ℕ, ◌+◌, ◌*◌, ◌≤◌, ◌<◌}
use native.Mathlib.Omega.{arith}
use lib.ListN.{length, take, set}
use lib.Seq.{length-take-le}
use Rattle.numerals.specs.Bytes.{written}
use Rattle.numerals.proofs.Buffers.{length-written}
use Rattle.text.specs.Lines.{tabbed, joined, line_of}
use Rattle.text.proofs.Lines.{Holds, holds_more, holds_byte}
use Rattle.draws.specs.Draws.{after, drawn}
use Rattle.load_texts.specs.Texts.{longest_text}

-- from `at` on the word w is written to d, up to r₁, and a field for each of vs, up to r₂
module _ {A : Type 0} (show : A → List ℕ) (w : List ℕ) (vs : List A) (d d₁ d₂ : List ℕ) (at r₁ r₂ : ℕ)
    (room : at + longest_text ≤ length d) (short : length w + 21 * length vs < longest_text)
    (word : (r₁ ≡ at + length w) × (d₁ ≡ written d at w))
    (fields : (r₂ ≡ r₁ + length (tabbed (map show vs))) × (d₂ ≡ written d₁ r₁ (tabbed (map show vs))) × (r₂ ≤ r₁ + 21 * length vs)) where
  abbrev rest : List ℕ
  rest = tabbed (map show vs)

  begun : Holds d at (take at d)
  begun = record { long = sym (length-take-le at d (omega arith)); room = omega arith; start = refl }

  long₁ : length d₁ ≡ length d
  long₁ = ap length word.1 ∙ length-written d at w (omega arith)

  pub long₂ : length d₂ ≡ length d
  long₂ = ap length fields.1 ∙ length-written d₁ r₁ rest (omega (arith, long₁, word.0, fields.0, fields.2)) ∙ long₁

  with_word : Holds d₁ r₁ (take at d ++ w)
  with_word = holds_more d d₁ (take at d) w at r₁ begun (omega arith) word.0 word.1

  with_fields : Holds d₂ r₂ ((take at d ++ w) ++ rest)
  with_fields = holds_more d₁ d₂ (take at d ++ w) rest r₁ r₂ with_word (omega (arith, long₁, word.0, fields.0, fields.2)) fields.0 fields.1

  pub line-put : take (r₂ + 1) (set d₂ r₂ 10) ≡ take at d ++ line_of (w ∷ map show vs)
  unfolding line_of joined
  line-put =
      (holds_byte d₂ ((take at d ++ w) ++ rest) r₂ 10 with_fields (omega (arith, long₂, word.0, fields.2))).start
      ∙ ap (λ (s : List ℕ). s ++ (10 ∷ [])) (append_assoc (take at d) w rest)
      ∙ append_assoc (take at d) (w ++ rest) (10 ∷ [])

-- the same where vs are as many entries as were lent, drawn from the state s on
module _ {A : Type 0} (show : A → List ℕ) (entry : ℕ → A) (w : List ℕ) (k n s state : ℕ) (vs : List A) (d d₁ d₂ : List ℕ) (at r₁ r₂ : ℕ)
    (lent : k ≡ n) (kept : length vs ≡ n) (made : (vs ≡ drawn entry n s) × (state ≡ after n s))
    (room : at + longest_text ≤ length d) (short : length w + 21 * k < longest_text) where
  pub drawn-put : (entries : List A) (end : ℕ) → drawn entry k s ≡ entries → after k s ≡ end
      → (r₁ ≡ at + length w) × (d₁ ≡ written d at w)
      → (r₂ ≡ r₁ + length (tabbed (map show vs))) × (d₂ ≡ written d₁ r₁ (tabbed (map show vs))) × (r₂ ≤ r₁ + 21 * length vs)
      → (take (r₂ + 1) (set d₂ r₂ 10) ≡ take at d ++ line_of (w ∷ map show entries)) × (state ≡ end)
  drawn-put entries end are ends word fields = (
    line-put show w vs d d₁ d₂ at r₁ r₂ room (omega (arith, short, lent, kept)) word fields
        ∙ ap (λ (xs : List A). take at d ++ line_of (w ∷ map show xs)) (made.0 ∙ ap (λ (m : ℕ). drawn entry m s) (sym lent) ∙ are),
    made.1 ∙ ap (λ (m : ℕ). after m s) (sym lent) ∙ ends,
  )
