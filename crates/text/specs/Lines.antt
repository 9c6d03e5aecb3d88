-- Lines that are written: fields parted by tabs, and a line feed at the end.
use Rattle.std.specs.Prelude.{cond, List, [], ◌∷◌, ◌++◌, ℕ, eqb}

-- each field after a tab (byte 9)
unfoldable pub tabbed : List (List ℕ) → List ℕ
tabbed [] = []
tabbed (f ∷ fs) = 9 ∷ (f ++ tabbed fs)

-- the fields with a tab between each and the next
unfoldable pub joined : List (List ℕ) → List ℕ
joined [] = []
joined (f ∷ fs) = f ++ tabbed fs

-- the line of these fields, with its line feed (byte 10)
unfoldable pub line_of : List (List ℕ) → List ℕ
line_of fs = joined fs ++ (10 ∷ [])

-- the field of a ternary entry's byte: 0 is `0`, 1 is `1` and 2 is `-1`
unfoldable pub ternary_numeral : ℕ → List ℕ
ternary_numeral x = cond (eqb x 0) (48 ∷ []) (cond (eqb x 1) (49 ∷ []) (45 ∷ 49 ∷ []))
