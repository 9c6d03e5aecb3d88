-- What `lova_count_zeros` leaves.
use Rattle.std.specs.Prelude.{Bool, ◌&&◌, List, [], ◌∷◌, ℕ, eqb, ℤ, length, Result, Ok, Err}
use Rattle.codes.specs.Codes.{Returned, returned}
use Rattle.quadratic_forms.specs.Counts.{is_triangle, answer}

-- whether E has the length of its lower triangle, and there is one place for the count
abbrev pub fits : ℕ → List ℤ → List ℕ → Bool
fits N e out = is_triangle N e && eqb (length out) 1

-- 0 with the count in its place; a refusal's own number, with what was there
unfoldable pub coded : Result ℕ ℕ → List ℕ → Returned (List ℕ)
coded (Ok n) out = returned 0 (n ∷ [])
coded (Err r) out = returned r out

abbrev pub count_given : ℕ → List ℤ → List ℕ → Returned (List ℕ)
count_given N e out = coded (answer N (fits N e out) e) out
