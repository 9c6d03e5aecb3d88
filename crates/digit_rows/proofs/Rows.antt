-- Rows taken one after the other: what is left for each column, and what the tests of the rows say of the whole.
use mathlib.Core.Path.{◌≡◌, refl, sym, ◌∙◌, ap, subst}
use mathlib.Core.Bool.{true, false, not, ◌&&◌}
use mathlib.Core.Logic.{⊎_elim}
use mathlib.Core.List.{List, ◌++◌}
use Prim.Native.Nat.{ℕ, ◌+◌, ◌*◌, ◌^◌, ◌<◌, ◌≤◌}
use native.Mathlib.Omega.{arith}
use native.Mathlib.Nat.{mul-le-mul}
use Rattle.std.specs.Prelude.{Option, Some, None, is_some}
use Rattle.std.specs.Option.{unwrap_or}
use lib.Dec.{T, not_T, leb}
use lib.IntN.{ℤ, nat_abs}
use lib.ListN.{length, get_or, take, get_or-append}
use lib.Seq.{get_or-take}
use Rattle.integers.proofs.Tests.{true-is, false-is, le_or_lt, all_true, all_elim, all_cong, all_none, all_more}
use Rattle.integers.specs.Tests.{all}
use Rattle.matrices.specs.Lengths.{less_square}
use Rattle.matrices.specs.Matrices.{squared_length}
use Rattle.matrices.proofs.Lengths.{LeftAfter, square_above, none-taken, one-taken, too_long, all-taken}
use Rattle.matrices.proofs.Tables.{row_within}
use Rattle.lova.specs.Tests.{every}
use Rattle.digit_entries.specs.Entries.{entry_of, limit, clamped, follow_rule}
use Rattle.digit_entries.proofs.Clamped.{clamped-within, clamped-reaches}
use Rattle.digit_rows.specs.Rows.{digits_at, taken, place, entry_at, short_columns, ruled_entries}
use Rattle.digit_rows.proofs.Blocks.{part-of-part}

-- a square of at least limit² is above what is left of a word
far : (left : ℕ) (z : ℤ) → left < 2 ^ 64 → limit ≤ nat_abs z → less_square left z ≡ None
far left z h l =
    let w = nat_abs z in
    let above : left < w * w = omega (arith, mul-le-mul {n₁ = 4294967296} {m₁ = 4294967296} {n₂ = w} {m₂ = w} l l) in
    sym (square_above left w z refl above)

-- so an entry that was given up is taken as the entry itself is
clamped-taken : (left : ℕ) (z : ℤ) → left < 2 ^ 64 → less_square left (clamped limit z) ≡ less_square left z
clamped-taken left z h = ⊎_elim
    (λ (l : limit ≤ nat_abs z).
    let size : nat_abs (clamped limit z) ≡ limit = clamped-reaches limit z l in
    far left (clamped limit z) h (omega arith) ∙ sym (far left z h l))
    (λ (l : nat_abs z < limit). ap (less_square left) (clamped-within limit z (omega arith)))
    (le_or_lt limit (nat_abs z))

-- what a square left, and 0 where it was above what there was
abbrev pub rest_of : Option ℕ → ℕ
rest_of o = unwrap_or o 0

pub was_within : (o : Option ℕ) (rest : ℕ) → T (is_some o) → rest ≡ rest_of o → o ≡ Some rest
was_within (Some x) rest h e = ap Some (sym e)
was_within None rest h e = absurd h

pub was_above : (o : Option ℕ) → T (not (is_some o)) → o ≡ None
was_above (Some x) h = absurd h
was_above None h = refl

-- what is left for the columns after i rows
module _ (b k wide : ℕ) (S~ : List ℤ) (m bound : ℕ) where
  abbrev squares : ℕ → ℕ → ℕ
  squares j i = nat_abs (entry_at b k wide S~ i j) * nat_abs (entry_at b k wide S~ i j)

  abbrev pub LeftFor : ℕ → List ℕ → Type 0
  LeftFor i left = (j : ℕ) → j < wide → LeftAfter m (squares j) bound i (get_or left j 0)

  pub left-none : (left : List ℕ) → ((j : ℕ) → j < wide → get_or left j 0 ≡ bound) → LeftFor 0 left
  left-none left e j h = rw (e j h) (none-taken m (squares j) bound)

  -- the same of the part that is lent
  pub left-part : (i : ℕ) (left : List ℕ) → LeftFor i left → LeftFor i (take wide left)
  left-part i left e j h = rw (get_or-take wide left j 0 h) (e j h)

  -- all rows are taken: each column is short
  pub left-all : (i : ℕ) (left : List ℕ) → m ≤ i → LeftFor i left → short_columns b k wide S~ m bound ≡ true
  left-all i left h e = true-is (short_columns b k wide S~ m bound) (all_true wide _ (λ j l. subst T (all-taken m (squares j) bound i (get_or left j 0) h (e j l)) tt))

  -- one row more, read as a part of S~
  module _ (bound-fits : bound < 2 ^ 64) (long : length S~ ≡ m * (wide * k)) (i : ℕ) (hi : i < m) (left : List ℕ) (size : length left ≡ wide) (so_far : LeftFor i left) where
    abbrev row : List ℤ
    row = digits_at (wide * k) S~ (i * (wide * k))

    row-digits : (j : ℕ) → j < wide → digits_at k row (j * k) ≡ digits_at k S~ (place k wide i j)
    row-digits j h = part-of-part k (j * k) (wide * k) (i * (wide * k)) S~ (row_within wide k j h) (rw long (row_within m (wide * k) i hi))

    -- its squares are those of the entries
    taken-entry : (j : ℕ) → j < wide → taken b k row left j ≡ less_square (get_or left j 0) (entry_at b k wide S~ i j)
    taken-entry j h =
        ap (λ (ds : List ℤ). less_square (get_or left j 0) (clamped limit (entry_of b ds))) (row-digits j h)
        ∙ clamped-taken (get_or left j 0) (entry_at b k wide S~ i j) (omega (arith, so_far j h))

    pub row_ruled : all (length left) (λ j. follow_rule b (digits_at k row (j * k))) ≡ all wide (λ j. follow_rule b (digits_at k S~ (place k wide i j)))
    row_ruled = ap (λ (n : ℕ). all n (λ j. follow_rule b (digits_at k row (j * k)))) size ∙ all_cong wide _ _ (λ j h. ap (follow_rule b) (row-digits j h))

    -- each square was within what was left
    row-taken : (next : List ℕ) → ((j : ℕ) → j < wide → taken b k row left j ≡ Some (get_or next j 0)) → LeftFor (i + 1) next
    row-taken next e j h =
        one-taken m (squares j) bound i (get_or left j 0) (entry_at b k wide S~ i j) (taken b k row left j) (so_far j h) refl (taken-entry j h) (get_or next j 0) (e j h)

    -- or one was above it, and then its column is too long
    pub row-above : (j : ℕ) → j < wide → taken b k row left j ≡ None → short_columns b k wide S~ m bound ≡ false
    row-above j h is =
        let above = too_long m (squares j) bound i (get_or left j 0) (entry_at b k wide S~ i j) (taken b k row left j) (so_far j h) refl (taken-entry j h) hi is in
        false-is (short_columns b k wide S~ m bound) (not_T (short_columns b k wide S~ m bound) (λ t. subst T (sym above) (all_elim wide (λ j. leb (squared_length m (entry_at b k wide S~) j) bound) t j h)))

    -- the part that was lent, with what is left now, and what is behind it
    pub part-taken : (ys rest : List ℕ) → length ys ≡ wide → ((j : ℕ) → j < wide → taken b k row left j ≡ Some (get_or ys j 0)) → LeftFor (i + 1) (ys ++ rest)
    part-taken ys rest long e = row-taken (ys ++ rest) (λ j h. e j h ∙ ap Some (sym (get_or-append ys rest 0 j (omega (arith, long)))))

  -- the rows' digits, one row more
  pub ruled_none : true ≡ ruled_entries b k wide S~ 0
  unfolding every
  ruled_none = sym (all_none _)

  pub ruled_more : (i : ℕ) → ruled_entries b k wide S~ (i + 1) ≡ (ruled_entries b k wide S~ i && all wide (λ j. follow_rule b (digits_at k S~ (place k wide i j))))
  unfolding every
  ruled_more i = all_more i _
