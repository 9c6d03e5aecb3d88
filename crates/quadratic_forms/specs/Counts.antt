-- Document 02, request 12: what a cheating prover can count on.
use Rattle.std.specs.Prelude.{◌≡◌, Bool, not, cond, List, [], ◌∷◌, ℕ, ◌^◌, ◌<◌, ◌≤◌, eqb, leb, ℤ, pos, nat_abs, length, get_or, Result, Ok, Err}
use Rattle.integers.specs.Tests.{all}
use Rattle.integers.specs.Ranges.{Range, ◌to◌, within, In}
use Rattle.matrices.specs.Triangles.{triangular, mirrored}
use Rattle.settings.specs.Rules.{Rule, ◌gives◌, first_of}
use Rattle.quadratic_forms.specs.Forms.{zeros}

-- E has 1 to 12 rows
abbrev pub row_range : Range
row_range = 1 to 12

-- an entry is at most 2^52 and at least −2^52
abbrev pub largest_entry : ℕ
largest_entry = 2 ^ 52

-- whether a list has the length of the lower triangle of a matrix with N rows
abbrev pub is_triangle : ℕ → List ℤ → Bool
is_triangle N e = eqb (length e) (triangular N)

-- whether each entry is at most 2^52 and at least −2^52
abbrev pub entries_inside : List ℤ → Bool
entries_inside e = all (length e) (λ x. leb (nat_abs (get_or e x (pos 0))) largest_entry)

-- 24 for N outside 1..12, then 7 where lengths do not fit, then 25 for an entry above 2^52 or below −2^52
abbrev pub count_rules : ℕ → Bool → List ℤ → List Rule
count_rules N fits e = (not (within row_range N) gives 24) ∷ (not fits gives 7) ∷ (not (entries_inside e) gives 25) ∷ []

-- the number of the first that applies; 0 where none does
unfoldable pub count_refusal : ℕ → Bool → List ℤ → ℕ
count_refusal N fits e = first_of (count_rules N fits e)

-- the answer for a symmetric matrix, given as its lower triangle e: its count, or the first number that applies
unfoldable pub answer : ℕ → Bool → List ℤ → Result ℕ ℕ
answer N fits e = cond (eqb (count_refusal N fits e) 0) (Ok (zeros N (mirrored e))) (Err (count_refusal N fits e))

-- where e alone is lent it has to have the length of the triangle
abbrev pub count_zeros : ℕ → List ℤ → Result ℕ ℕ
count_zeros N e = answer N (is_triangle N e) e

-- an entry above 2^52 or below −2^52
abbrev pub EntryOutside : List ℤ → Type 0
EntryOutside e = (x : ℕ) × (x < length e) × (largest_entry < nat_abs (get_or e x (pos 0)))

-- a proper call: 1 to 12 rows, as many entries as their lower triangle has, each within its limits
pub record Proper (N : ℕ) (e : List ℤ) : Type 0 where
  pub rows : In row_range N
  pub long : length e ≡ triangular N
  pub entries : (x : ℕ) → x < length e → nat_abs (get_or e x (pos 0)) ≤ largest_entry
