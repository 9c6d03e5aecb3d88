-- The fields of an instance, as they are written.
use mathlib.Core.Path.{◌≡◌, refl, ◌∙◌}
use mathlib.Core.List.{List, [], ◌∷◌, ◌++◌, map}
use Prim.Native.Nat.{ℕ, ◌+◌, ◌<◌}
use native.Mathlib.Omega.{arith}
use lib.IntN.{ℤ}
use lib.ListN.{length, set, length-append}
use Rattle.numerals.specs.Bytes.{written}
use Rattle.numerals.specs.Numerals.{decimal, decimal_Z}
use Rattle.numerals.proofs.Buffers.{written_twice, written-more}
use Rattle.text.specs.Lines.{tabbed}
use Rattle.text.proofs.Lines.{tabbed_append}
use Rattle.chain.specs.Reports.{instance_fields, instance_text}

-- T, D, the leaf count and a line feed
module _ (T : List ℕ) (D : List ℤ) (leaves : ℕ) (d d₁ d₂ d₃ : List ℕ) (at r₁ r₂ r₃ : ℕ) where
  abbrev f_T : List ℕ
  f_T = tabbed (map decimal T)

  abbrev f_D : List ℕ
  f_D = tabbed (map decimal_Z D)

  abbrev f_N : List ℕ
  f_N = tabbed (decimal leaves ∷ [])

  pub instance-put : at + length f_T + length f_D + length f_N < length d
      → (r₁ ≡ at + length f_T) → (d₁ ≡ written d at f_T) → (r₂ ≡ r₁ + length f_D) → (d₂ ≡ written d₁ r₁ f_D) → (r₃ ≡ r₂ + length f_N) → (d₃ ≡ written d₂ r₂ f_N)
      → (r₃ + 1 ≡ at + length (instance_text T D leaves)) × (set d₃ r₃ 10 ≡ written d at (instance_text T D leaves))
  instance-put h p₁ q₁ p₂ q₂ p₃ q₃ =
      let fields : tabbed (instance_fields T D leaves) ≡ f_T ++ f_D ++ f_N = rw (tabbed_append, tabbed_append) refl in
      let long₂ : length (f_T ++ f_D) ≡ length f_T + length f_D = length-append f_T f_D in
      let long₃ : length (f_T ++ f_D ++ f_N) ≡ length (f_T ++ f_D) + length f_N = length-append (f_T ++ f_D) f_N in
      let now₂ : d₂ ≡ written d at (f_T ++ f_D) = q₂ ∙ rw (p₁, q₁) (written_twice d at f_T f_D (omega arith)) in
      let place₂ : r₂ ≡ at + length (f_T ++ f_D) = omega (arith, long₂) in
      let now₃ : d₃ ≡ written d at (f_T ++ f_D ++ f_N) = q₃ ∙ rw (now₂, place₂) (written_twice d at (f_T ++ f_D) f_N (omega (arith, long₂))) in
      let place₃ : r₃ ≡ at + length (f_T ++ f_D ++ f_N) = omega (arith, long₃) in
      rw (fields, length-append (f_T ++ f_D ++ f_N) (10 ∷ []), place₃, now₃) (omega arith, written-more d at (f_T ++ f_D ++ f_N) 10 (omega (arith, long₂, long₃)))
