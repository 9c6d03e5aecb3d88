-- Points of request 12, as one table.
use Rattle.std.specs.Prelude.{List, [], ◌∷◌, ◌++◌, ℕ, ◌+◌, ◌^◌, ℤ, pos, neg_ℤ, replicate, Result, Ok, Err}
use Rattle.quadratic_forms.specs.Counts.{largest_entry}

-- a call, and its answer
pub record Point : Type 0 where
  pub rows : ℕ
  pub triangle : List ℤ
  pub answer : Result ℕ ℕ

abbrev pub point : ℕ → List ℤ → Result ℕ ℕ → Point
point N e a = record { rows = N; triangle = e; answer = a }

-- a zero, and a 1
abbrev o : ℤ
o = pos 0

abbrev i : ℤ
i = pos 1

abbrev pub points : List Point
points =
    -- one square is 0 at 0 alone, and no square everywhere
    point 1 (pos 5 ∷ []) (Ok 1)
    ∷ point 1 (o ∷ []) (Ok 3)
    ∷ point 3 (replicate 6 o) (Ok 27)
    -- a product is 0 where one of its factors is
    ∷ point 2 (o ∷ i ∷ o ∷ []) (Ok 5)
    ∷ point 3 (o ∷ o ∷ o ∷ o ∷ i ∷ o ∷ []) (Ok 15)
    -- entries off the diagonal count twice: 2 c₀ (c₁ − c₀), and c₀² − 2 c₀ c₁ + c₁²
    ∷ point 2 (neg_ℤ (pos 2) ∷ i ∷ o ∷ []) (Ok 5)
    ∷ point 2 (i ∷ neg_ℤ i ∷ i ∷ []) (Ok 3)
    -- a difference of squares, and a sum of them
    ∷ point 2 (i ∷ o ∷ neg_ℤ i ∷ []) (Ok 5)
    ∷ point 3 (i ∷ o ∷ i ∷ o ∷ o ∷ i ∷ []) (Ok 1)
    -- the largest entries
    ∷ point 2 (pos largest_entry ∷ o ∷ neg_ℤ (pos largest_entry) ∷ []) (Ok 5)
    -- too few rows and too many, whatever the triangle is
    ∷ point 0 [] (Err 24)
    ∷ point 13 (replicate 91 o) (Err 24)
    ∷ point 13 (pos (2 ^ 53) ∷ []) (Err 24)
    -- another length, whatever the entries are
    ∷ point 2 (i ∷ i ∷ []) (Err 7)
    ∷ point 2 (replicate 4 (pos (2 ^ 53))) (Err 7)
    -- an entry above 2^52 or below −2^52
    ∷ point 1 (pos (largest_entry + 1) ∷ []) (Err 25)
    ∷ point 1 (neg_ℤ (pos (largest_entry + 1)) ∷ []) (Err 25)
    ∷ point 1 (neg_ℤ (pos (2 ^ 63)) ∷ []) (Err 25)
    ∷ point 12 (replicate 77 o ++ (pos (largest_entry + 1) ∷ [])) (Err 25)
    ∷ []
