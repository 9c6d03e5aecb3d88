-- What the search counts: a form whose last coordinates are chosen is one of the others, with a linear form and a number added.
use Rattle.std.specs.Prelude.{◌≡◌, List, ℕ, ◌+◌, ◌-◌, ◌*◌, ◌<◌, ◌≤◌, ℤ, pos, nat_abs, ◌+ℤ◌, ◌-ℤ◌, ◌*ℤ◌, length, get_or}
use Rattle.integers.specs.Sums.{sum}
use Rattle.matrices.specs.Matrices.{Matrix}
use Rattle.matrices.specs.Triangles.{triangular, mirrored}
use Rattle.lova.specs.Tests.{eq_Z}
use Rattle.quadratic_forms.specs.Forms.{Vector, tally, form}
use Rattle.quadratic_forms.specs.Counts.{largest_entry}

-- l c, of n entries
abbrev pub linear : ℕ → (ℕ → ℤ) → Vector → ℤ
linear n l c = sum n (λ j. l j *ℤ c j)

-- q + l c + c-transposed E c, where E has i rows
abbrev pub value_at : ℕ → Matrix → (ℕ → ℤ) → ℤ → Vector → ℤ
value_at i E l q c = q +ℤ (linear i l c +ℤ form i E c)

-- how many of the choices −1, 0 and 1 for the only coordinate make it 0, by the coordinate's linear term and square
unfoldable pub last_zeros : ℤ → ℤ → ℤ → ℕ
last_zeros q term square =
    tally (eq_Z ((q +ℤ square) -ℤ term) (pos 0)) + (tally (eq_Z q (pos 0)) + tally (eq_Z ((q +ℤ square) +ℤ term) (pos 0)))

-- the linear terms in a list
abbrev pub terms_of : List ℤ → ℕ → ℤ
terms_of xs j = get_or xs j (pos 0)

-- the linear terms once c is chosen for coordinate r: entries off the diagonal count twice
abbrev pub after_choice : List ℤ → ℕ → ℤ → (ℕ → ℤ) → ℕ → ℤ
after_choice e r c l j = l j +ℤ c *ℤ (pos 2 *ℤ mirrored e r j)

-- a list holds linear terms below r
abbrev pub Holds : ℕ → (ℕ → ℤ) → List ℤ → Type 0
Holds r f xs = (j : ℕ) → j < r → terms_of xs j ≡ f j

-- how far from 0 a linear term can be where i of 12 coordinates are left: each choice adds an entry twice
abbrev pub term_limit : ℕ → ℕ
term_limit i = 2 * largest_entry * (12 - i)

-- and the number: each choice adds a term and an entry, no more than 23 entries
abbrev pub number_limit : ℕ → ℕ
number_limit i = 23 * largest_entry * (12 - i)

-- the triangle has i rows, 1 to 12, with entries within their limits, and there are linear terms for them
pub record Terms (e : List ℤ) (i : ℕ) (l : List ℤ) : Type 0 where
  pub some : 1 ≤ i
  pub most : i ≤ 12
  pub rows : triangular i ≤ length e
  pub entries : (x : ℕ) → x < length e → nat_abs (get_or e x (pos 0)) ≤ largest_entry
  pub long : length l ≡ 12
  pub small : (j : ℕ) → j < i → nat_abs (terms_of l j) ≤ term_limit i

-- what a call of the search rests on
abbrev pub Carried : List ℤ → ℕ → ℤ → List ℤ → Type 0
Carried e i q l = Terms e i l × (nat_abs q ≤ number_limit i)

-- and one for the only coordinate that is left, by its linear term and its square
abbrev pub LastCarried : ℤ → ℤ → ℤ → Type 0
LastCarried q term square = (nat_abs q ≤ number_limit 1) × (nat_abs term ≤ term_limit 1) × (nat_abs square ≤ largest_entry)
