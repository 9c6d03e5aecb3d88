-- The field of a ternary entry's byte.
use mathlib.Core.Path.{◌≡◌, refl}
use mathlib.Core.List.{[], ◌∷◌}
use Prim.Native.Nat.{ℕ, zero, suc, ◌+◌, ◌≤◌, ◌<◌}
use native.Mathlib.Omega.{arith}
use borrow.Author.Tests.{ne_eqb}
use lib.ListN.{length}
use Rattle.text.specs.Lines.{ternary_numeral}

pub below_two : (v : ℕ) → v < 2 → ternary_numeral v ≡ (48 + v) ∷ []
unfolding ternary_numeral
below_two zero h = refl
below_two (suc zero) h = refl
below_two (suc (suc v)) h = absurd (omega arith)

pub from-two : (v : ℕ) → 2 ≤ v → ternary_numeral v ≡ 45 ∷ 49 ∷ []
unfolding ternary_numeral
from-two v h = rw (ne_eqb v 0 (λ e. omega arith), ne_eqb v 1 (λ e. omega arith)) refl

pub ternary-short : (v : ℕ) → length (ternary_numeral v) ≤ 2
ternary-short zero = rw (below_two 0 (omega arith)) (omega arith)
ternary-short (suc zero) = rw (below_two 1 (omega arith)) (omega arith)
ternary-short (suc (suc v)) = rw (from-two (suc (suc v)) (omega arith)) (omega arith)
