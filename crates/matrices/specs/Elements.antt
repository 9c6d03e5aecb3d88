-- Elements in which products are summed, and what a loop adds to a row of them.
use Rattle.std.specs.Prelude.{◌≡◌, ℕ, ◌<◌, ◌≤◌, List, length, ℤ, pos, ◌+ℤ◌, slice_index_or}
use Rattle.integers.specs.Residues.{word}

-- how elements of a type stand for whole numbers: the number of an element, the element that a number is stored as, and the
-- element that stands past a list's end
pub record Element (A : Type 0) : Type 0 where
  pub value : A → ℤ
  pub stored : ℤ → A
  pub none : A

-- signed words, in which sums are exact, and words modulo 2^64
abbrev pub exactly : Element ℤ
exactly = record { value = λ z. z; stored = λ z. z; none = pos 0 }

abbrev pub modulo : Element ℕ
modulo = record { value = pos; stored = word; none = 0 }

-- f is added to the elements of a row from number `from` to before number `to`, and the others are as they were
pub record Added {A : Type 0} (e : Element A) (f : ℕ → ℤ) (from to : ℕ) (before after : List A) : Type 0 where
  pub within : from ≤ to
  pub long : length after ≡ length before
  pub done : (j : ℕ) → from ≤ j → j < to → slice_index_or after j e.none ≡ e.stored (e.value (slice_index_or before j e.none) +ℤ f j)
  pub below : (j : ℕ) → j < from → slice_index_or after j e.none ≡ slice_index_or before j e.none
  pub above : (j : ℕ) → to ≤ j → slice_index_or after j e.none ≡ slice_index_or before j e.none
