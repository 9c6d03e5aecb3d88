-- What is proved of the zeros of quadratic forms: for every number of rows N and every lower triangle e.
use mathlib.Core.Path.{◌≡◌, sym, ap, ◌∙◌}
use mathlib.Core.Logic.{◌≢◌, ◌↔◌, ◌⊎◌, ⊎_elim}
use mathlib.Core.List.{List}
use Prim.Native.Nat.{ℕ, ◌+◌, ◌*◌, ◌^◌, ◌≤◌, ◌<◌}
use native.Mathlib.Omega.{arith}
use Rattle.std.specs.Prelude.{Ok, Err}
use lib.Dec.{T}
use lib.IntN.{ℤ, pos, ◌+ℤ◌, ◌*ℤ◌}
use lib.ListN.{length, get_or}
use Rattle.integers.specs.Lists.{every}
use Rattle.integers.specs.Sums.{sum}
use Rattle.integers.specs.Ranges.{In}
use Rattle.integers.proofs.Tests.{le_or_lt}
use Rattle.matrices.specs.Triangles.{triangular, mirrored}
use Rattle.matrices.proofs.Triangles.{cell_within, cell_of, mirrored-low, mirrored-high, mirrored-symmetric}
use Rattle.quadratic_forms.specs.Forms.{Vector, vectors, count_of, form, zeros, is_ternary, is_same}
use Rattle.quadratic_forms.specs.Counts.{row_range, is_triangle, count_zeros, EntryOutside, Proper}
use Rattle.quadratic_forms.proofs.Counts as counts
use Rattle.quadratic_forms.proofs.Forms as forms
use Rattle.quadratic_forms.proofs.Listed as listed
use Rattle.quadratic_forms.proofs.Refusals as refusals
use Rattle.quadratic_forms.proofs.Refusals.{refusal-exactly, refused-by, count_by}
use Rattle.quadratic_forms.proofs.Search as search
use Rattle.quadratic_forms.proofs.Twice as twofold

-- ---- the list of the ternary vectors

-- every ternary vector stands in it exactly once
pub each-once : (n : ℕ) (c : Vector) → T (is_ternary n c) → count_of (is_same n c) (vectors n) ≡ 1
each-once = listed.each-once

-- it has no other vectors
pub only_ternary : (n : ℕ) → T (every (is_ternary n) (vectors n))
only_ternary = listed.only_ternary

-- and so it has 3^n
pub how_many : (n : ℕ) → length (vectors n) ≡ 3 ^ n
how_many = counts.length-vectors

module _ (N : ℕ) (e : List ℤ) where
  -- ---- the form and its zeros

  -- entries off the diagonal count twice
  pub twice : (c : Vector) → let entry : ℕ → ℕ → ℤ = λ i j. get_or e (triangular i + j) (pos 0) in
      form N (mirrored e) c ≡ sum N (λ i. entry i i *ℤ (c i *ℤ c i) +ℤ pos 2 *ℤ sum i (λ j. entry i j *ℤ (c i *ℤ c j)))
  twice c = twofold.twice e c N

  -- the count is odd: c = 0 counts, and every other vector with its opposite
  pub odd : (k : ℕ) × (zeros N (mirrored e) ≡ 1 + 2 * k)
  odd = search.odd e N

  -- for E other than zero, three times the count is at most 2 × 3^N
  pub bound : (x : ℕ) → x < triangular N → get_or e x (pos 0) ≢ pos 0 → 3 * zeros N (mirrored e) ≤ 2 * 3 ^ N
  bound x h other =
      let cell = cell_of N x h in
      forms.zeros-bound N (mirrored e) (λ i j hi hj. mirrored-symmetric e i j) cell.row cell.column cell.row_within
      (omega (arith, cell.row_within, cell.column-within))
      (λ z. other (ap (λ (y : ℕ). get_or e y (pos 0)) cell.place ∙ sym (mirrored-low e cell.row cell.column cell.column-within) ∙ z))

  -- for zero it is 3^N
  pub of_zero : ((x : ℕ) → x < triangular N → get_or e x (pos 0) ≡ pos 0) → zeros N (mirrored e) ≡ 3 ^ N
  of_zero none = forms.zeros-of-zero N (mirrored e) (λ i j hi hj. ⊎_elim
      (λ (l : j ≤ i). mirrored-low e i j l ∙ none (triangular i + j) (cell_within N i j hi l))
      (λ (l : i < j). mirrored-high e i j l ∙ none (triangular j + i) (cell_within N j i hj (omega arith)))
      (le_or_lt j i))

  -- ---- the answer

  -- the count is given exactly for proper calls
  pub counted : (count_zeros N e ≡ Ok (zeros N (mirrored e))) ↔ Proper N e
  counted = count_by N (is_triangle N e) e (refusal-exactly N e).none

  -- 24 exactly for N outside 1..12
  pub refused_24 : (count_zeros N e ≡ Err 24) ↔ (In row_range N → ⊥)
  refused_24 = refused-by N (is_triangle N e) e 24 (λ z. omega arith) (refusal-exactly N e).rows

  -- 7 exactly for another length, where N is in its range
  pub refused_7 : (count_zeros N e ≡ Err 7) ↔ (In row_range N × (length e ≢ triangular N))
  refused_7 = refused-by N (is_triangle N e) e 7 (λ z. omega arith) (refusal-exactly N e).lengths

  -- 25 exactly for an entry above 2^52 or below −2^52, where N is in its range and the length fits
  pub refused_25 : (count_zeros N e ≡ Err 25) ↔ (In row_range N × (length e ≡ triangular N) × EntryOutside e)
  refused_25 = refused-by N (is_triangle N e) e 25 (λ z. omega arith) (refusal-exactly N e).entries

  -- there is no other answer
  pub no_other : (count_zeros N e ≡ Ok (zeros N (mirrored e))) ⊎ ((count_zeros N e ≡ Err 24) ⊎ ((count_zeros N e ≡ Err 7) ⊎ (count_zeros N e ≡ Err 25)))
  no_other = refusals.no_other N (is_triangle N e) e
