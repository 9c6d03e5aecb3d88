-- Products summed by rows: what a multiple of a row adds, what a row of each factor adds, and all rows together.
use mathlib.Core.Path.{◌≡◌, refl, sym, ◌∙◌, ap, ap₂}
use mathlib.Core.List.{List, ◌++◌}
use Prim.Native.Nat.{ℕ, ◌+◌, ◌*◌, ◌-◌, ◌^◌, ◌<◌, ◌≤◌}
use native.Mathlib.Omega.{arith}
use native.Mathlib.Nat.{zero-mul, add-mul, one-mul}
use borrow.Author.Count.{below_more}
use lib.Arith.{digits_lt}
use lib.ListN.{length, get_or, take, drop, replicate, length-take, length-drop}
use lib.Seq.{get_or-take, get_or-drop, length-take-le}
use lib.IntN.{ℤ, pos, nat_abs, ◌+ℤ◌, ◌*ℤ◌, +ℤ_assoc, +ℤ_idl}
use mir.Syntax.{w64}
use mir.Val.{SFits, to_z, of_z}
use mir.ValLaws.{to_z-of_z}
use Rattle.integers.specs.Sums.{sum, sum_ℕ}
use Rattle.integers.proofs.Lists.{part-long, part_in, part-before, part-after}
use Rattle.integers.proofs.Sums.{sum_cong, sum-split, sum_step, sum-none_yet, nat_abs-sum}
use Rattle.integers.proofs.Sums.{sum_ℕ_cong, sum_ℕ-step, sum_ℕ_mono, sum_ℕ-split}
use Rattle.matrices.specs.Matrices.{Matrix, product, transposed, sizes, Agree}
use Rattle.matrices.specs.Tables.{signed, table}
use Rattle.matrices.proofs.Tables.{row_within, rows-within, row-long, row_at, entry-table}
use Rattle.small_rows.proofs.Small.{zeros}
use Rattle.cross_products.specs.Rows.{outer, Small, Room, RowRoom}

-- four products as row i of x transposed times y at column j, where x and y have four rows
module _ (rows cols i j : ℕ) (x y : List ℤ) where
  -- product number q
  abbrev term : ℕ → ℤ
  term q = signed rows x q i *ℤ signed cols y q j

  four-of : (f : ℕ → ℤ) (a : ℤ) → a +ℤ f 0 +ℤ f 1 +ℤ f 2 +ℤ f 3 ≡ a +ℤ sum 4 f
  unfolding sum
  four-of f a = simp (+ℤ_assoc, +ℤ_idl) refl

  sizes-of : (f : ℕ → ℤ) → nat_abs (f 0) + nat_abs (f 1) + nat_abs (f 2) + nat_abs (f 3) ≡ sum_ℕ 4 (λ q. nat_abs (f q))
  unfolding sum_ℕ
  sizes-of f = omega arith

  -- the numbers of x that a turn reads, and the sum b that it adds to, fit a signed word
  pub record Fit (b : ℤ) : Type 0 where
    pub sum : SFits w64 b
    pub x₀ : SFits w64 (get_or x i (pos 0))
    pub x₁ : SFits w64 (get_or x (rows + i) (pos 0))
    pub x₂ : SFits w64 (get_or x (2 * rows + i) (pos 0))
    pub x₃ : SFits w64 (get_or x (3 * rows + i) (pos 0))

  module _ (b : ℤ) (fit : Fit b) where
    read : to_z w64 (of_z w64 b) ≡ b
    read = to_z-of_z w64 b fit.sum

    first : to_z w64 (of_z w64 (get_or x i (pos 0))) *ℤ get_or y j (pos 0) ≡ term 0
    first =
        let ei : i ≡ 0 * rows + i = omega (arith, zero-mul rows) in
        let ej : j ≡ 0 * cols + j = omega (arith, zero-mul cols) in
        ap₂ ◌*ℤ◌ (to_z-of_z w64 _ fit.x₀ ∙ ap (λ (n : ℕ). get_or x n (pos 0)) ei) (ap (λ (n : ℕ). get_or y n (pos 0)) ej)

    second : to_z w64 (of_z w64 (get_or x (rows + i) (pos 0))) *ℤ get_or y (cols + j) (pos 0) ≡ term 1
    second =
        let ei : rows + i ≡ 1 * rows + i = omega (arith, one-mul rows) in
        let ej : cols + j ≡ 1 * cols + j = omega (arith, one-mul cols) in
        ap₂ ◌*ℤ◌ (to_z-of_z w64 _ fit.x₁ ∙ ap (λ (n : ℕ). get_or x n (pos 0)) ei) (ap (λ (n : ℕ). get_or y n (pos 0)) ej)

    third : to_z w64 (of_z w64 (get_or x (2 * rows + i) (pos 0))) *ℤ get_or y (2 * cols + j) (pos 0) ≡ term 2
    third = ap (λ (z : ℤ). z *ℤ get_or y (2 * cols + j) (pos 0)) (to_z-of_z w64 _ fit.x₂)

    fourth : to_z w64 (of_z w64 (get_or x (3 * rows + i) (pos 0))) *ℤ get_or y (3 * cols + j) (pos 0) ≡ term 3
    fourth = ap (λ (z : ℤ). z *ℤ get_or y (3 * cols + j) (pos 0)) (to_z-of_z w64 _ fit.x₃)

    pub four-room : nat_abs b + sizes 4 (transposed (signed rows x)) (signed cols y) i j ≤ 2 ^ 62
        → nat_abs (to_z w64 (of_z w64 b)) + nat_abs (to_z w64 (of_z w64 (get_or x i (pos 0))) *ℤ get_or y j (pos 0))
        + nat_abs (to_z w64 (of_z w64 (get_or x (rows + i) (pos 0))) *ℤ get_or y (cols + j) (pos 0))
        + nat_abs (to_z w64 (of_z w64 (get_or x (2 * rows + i) (pos 0))) *ℤ get_or y (2 * cols + j) (pos 0))
        + nat_abs (to_z w64 (of_z w64 (get_or x (3 * rows + i) (pos 0))) *ℤ get_or y (3 * cols + j) (pos 0)) ≤ 2 ^ 62
    four-room h = rw (read, first, second, third, fourth) (omega (arith, sizes-of term))

    pub four-sum : {r : ℤ} → r ≡ to_z w64 (of_z w64 b) +ℤ to_z w64 (of_z w64 (get_or x i (pos 0))) *ℤ get_or y j (pos 0)
        +ℤ to_z w64 (of_z w64 (get_or x (rows + i) (pos 0))) *ℤ get_or y (cols + j) (pos 0)
        +ℤ to_z w64 (of_z w64 (get_or x (2 * rows + i) (pos 0))) *ℤ get_or y (2 * cols + j) (pos 0)
        +ℤ to_z w64 (of_z w64 (get_or x (3 * rows + i) (pos 0))) *ℤ get_or y (3 * cols + j) (pos 0)
        → SFits w64 r → to_z w64 (of_z w64 r) ≡ b +ℤ product 4 (transposed (signed rows x)) (signed cols y) i j
    four-sum {r} e fits = to_z-of_z w64 r fits ∙ e ∙ rw (read, first, second, third, fourth) (four-of term b)

-- row i of a matrix, lent as a part of it
abbrev pub lent : ℕ → ℕ → List ℤ → List ℤ
lent cols i xs = take (i * cols + cols - i * cols) (drop (i * cols) xs)

-- F is added to the first i rows, and those from i on are as before
pub record RowsAdded (cols : ℕ) (F : Matrix) (i : ℕ) (before after : List ℤ) : Type 0 where
  pub long : length after ≡ length before
  pub rows : (a b : ℕ) → a < i → b < cols → signed cols after a b ≡ signed cols before a b +ℤ F a b
  pub rest : (k : ℕ) → i * cols ≤ k → get_or after k (pos 0) ≡ get_or before k (pos 0)

module _ (cols : ℕ) (F : Matrix) (before : List ℤ) where
  pub rows_none : RowsAdded cols F 0 before before
  rows_none = record { long = refl; rows = λ a b h. absurd (omega arith); rest = λ k h. refl }

  -- row i more, which is lent, and comes back as ys
  module _ (rows i : ℕ) (d : List ℤ) (hi : i < rows) (size : length d ≡ rows * cols)
      (w : RowsAdded cols F i before d) where
    pub lent-before : (j : ℕ) → j < cols → get_or (lent cols i d) j (pos 0) ≡ signed cols before i j
    lent-before j l = row_at (pos 0) cols i d j l ∙ w.rest (i * cols + j) (omega arith)

    pub rows_more : (ys : List ℤ) → length ys ≡ length (lent cols i d)
        → ((j : ℕ) → j < cols → get_or ys j (pos 0) ≡ get_or (lent cols i d) j (pos 0) +ℤ F i j)
        → RowsAdded cols F (i + 1) before
        (take (i * cols) d ++ (ys ++ drop (i * cols + cols - i * cols) (drop (i * cols) d)))
    rows_more ys same done = rw width (record {
      long = part-long (i * cols) cols d ys (pos 0) fits long ∙ w.long;
      rows = λ a b h m. below_more (λ a. signed cols put a b ≡ signed cols before a b +ℤ F a b) i
          (λ a l. part-before (i * cols) cols d ys (pos 0) fits long (a * cols + b) (digits_lt l m) ∙ w.rows a b l m)
          (part_in (i * cols) cols d ys (pos 0) fits long b m ∙ done b m ∙ ap (λ (z : ℤ). z +ℤ F i b) (lent-before b m))
          a h;
      rest = λ k h.
          let after : i * cols + cols ≤ k = omega (arith, add-mul i 1 cols, one-mul cols) in
          part-after (i * cols) cols d ys (pos 0) fits long k after ∙ w.rest k (omega arith);
    })
      where
        width : i * cols + cols - i * cols ≡ cols
        width = omega arith

        put : List ℤ
        put = take (i * cols) d ++ (ys ++ drop cols (drop (i * cols) d))

        fits : i * cols + cols ≤ length d
        fits = omega (arith, row_within rows cols i hi)

        long : length ys ≡ cols
        long = same ∙ row-long rows cols i d size hi

-- the same for a multiple of y; the machine has u for the number i of x
module _ (rows cols : ℕ) (x y before : List ℤ) (i : ℕ) (d : List ℤ) (u : ℤ)
    (hi : i < rows) (size : length d ≡ rows * cols) (e : u ≡ get_or x i (pos 0))
    (w : RowsAdded cols (outer x y) i before d) where
  pub multiple_room : Room rows cols (signed cols before) (λ i j. nat_abs (outer x y i j))
      → RowRoom (length (lent cols i d)) (lent cols i d) (λ j. nat_abs (u *ℤ get_or y j (pos 0)))
  multiple_room room j l =
      let h : j < cols = omega (arith, row-long rows cols i d size hi) in
      rw (lent-before cols (outer x y) before rows i d hi size w j h, e) (room i j hi h)

  pub multiple_more : (ys : List ℤ) → length ys ≡ length (lent cols i d)
      → ((j : ℕ) → j < length (lent cols i d)
      → get_or ys j (pos 0) ≡ get_or (lent cols i d) j (pos 0) +ℤ u *ℤ get_or y j (pos 0))
      → RowsAdded cols (outer x y) (i + 1) before
      (take (i * cols) d ++ (ys ++ drop (i * cols + cols - i * cols) (drop (i * cols) d)))
  multiple_more ys same done = rows_more cols (outer x y) before rows i d hi size w ys same
      (λ j l. done j (omega (arith, row-long rows cols i d size hi))
      ∙ ap (λ (z : ℤ). get_or (lent cols i d) j (pos 0) +ℤ z *ℤ get_or y j (pos 0)) e)

-- four rows from row k on, lent as a part
abbrev pub lent_four : ℕ → ℕ → List ℤ → List ℤ
lent_four t k xs = take (k * t + 4 * t - k * t) (drop (k * t) xs)

pub four-size : (m t k : ℕ) (xs : List ℤ) → k + 4 ≤ m → length xs ≡ m * t → length (lent_four t k xs) ≡ 4 * t
four-size m t k xs h long = simp (length-take, length-drop) (omega (arith, rows-within m t k 4 h))

four-at : (t k : ℕ) (xs : List ℤ) (q j : ℕ) → q < 4 → j < t → signed t (lent_four t k xs) q j ≡ signed t xs (k + q) j
four-at t k xs q j hq hj =
    let e : k * t + (q * t + j) ≡ (k + q) * t + j = omega (arith, add-mul k q t) in
    get_or-take (k * t + 4 * t - k * t) (drop (k * t) xs) (q * t + j) (pos 0) (omega (arith, digits_lt hq hj))
    ∙ get_or-drop (k * t) xs (q * t + j) (pos 0)
    ∙ ap (λ (n : ℕ). get_or xs n (pos 0)) e

-- the first row, lent as a part
pub first-size : (m t : ℕ) (xs : List ℤ) → 0 < m → length xs ≡ m * t → length (take t xs) ≡ t
first-size m t xs h long = length-take-le t xs (omega (arith, row_within m t 0 h, zero-mul t))

first-at : (t : ℕ) (xs : List ℤ) (j : ℕ) → j < t → get_or (take t xs) j (pos 0) ≡ signed t xs 0 j
first-at t xs j h =
    let e : j ≡ 0 * t + j = omega (arith, zero-mul t) in
    get_or-take t xs j (pos 0) h ∙ ap (λ (n : ℕ). get_or xs n (pos 0)) e

-- x transposed times y, of the first k rows of both: before the first row, with one more, and the room for it
module _ (rows cols : ℕ) (x y : List ℤ) where
  -- product number k of those that make entry (i, j)
  abbrev product_at : ℕ → ℕ → ℕ → ℤ
  product_at i j k = signed rows x k i *ℤ signed cols y k j

  -- the product of the first k rows of both, and the sizes of what it is summed from
  abbrev pub crossed : ℕ → Matrix
  crossed k = product k (transposed (signed rows x)) (signed cols y)

  abbrev pub crossed_sizes : ℕ → ℕ → ℕ → ℕ
  crossed_sizes k = sizes k (transposed (signed rows x)) (signed cols y)

  -- the products of row k of both
  abbrev pub crossed_one : ℕ → Matrix
  crossed_one k = outer (lent rows k x) (lent cols k y)

  -- the product of the four rows from row k on, and its sizes
  abbrev pub crossed_four : ℕ → Matrix
  crossed_four k = product 4 (transposed (signed rows (lent_four rows k x))) (signed cols (lent_four cols k y))

  abbrev pub four_sizes : ℕ → ℕ → ℕ → ℕ
  four_sizes k = sizes 4 (transposed (signed rows (lent_four rows k x))) (signed cols (lent_four cols k y))

  pub crossed-none : (d : List ℤ) (l : ℕ) → d ≡ replicate l (pos 0) → Agree rows cols (signed cols d) (crossed 0)
  crossed-none d l e i j hi hj =
      ap (λ (xs : List ℤ). get_or xs (i * cols + j) (pos 0)) e ∙ zeros l (i * cols + j) ∙ sym (sum-none_yet _)

  lent-product : (k : ℕ) → Agree rows cols (crossed_one k) (λ i j. product_at i j k)
  lent-product k i j hi hj = ap₂ ◌*ℤ◌ (row_at (pos 0) rows k x i hi) (row_at (pos 0) cols k y j hj)

  -- the products of the first row of both, which are written
  abbrev pub crossed_first : Matrix
  crossed_first = outer (take rows x) (take cols y)

  first-product : Agree rows cols crossed_first (λ i j. product_at i j 0)
  first-product i j hi hj = ap₂ ◌*ℤ◌ (first-at rows x i hi) (first-at cols y j hj)

  pub first-crossed : Agree rows cols crossed_first (crossed 1)
  first-crossed i j hi hj =
      first-product i j hi hj
      ∙ sym (sum_step 0 (product_at i j) ∙ ap (λ (z : ℤ). z +ℤ product_at i j 0) (sum-none_yet (product_at i j)) ∙ +ℤ_idl _)

  pub crossed-first : (d : List ℤ) → d ≡ table rows cols crossed_first → Agree rows cols (signed cols d) (crossed 1)
  crossed-first d e i j hi hj =
      ap (λ (xs : List ℤ). get_or xs (i * cols + j) (pos 0)) e
      ∙ entry-table (pos 0) rows cols crossed_first i j hi hj
      ∙ first-crossed i j hi hj

  pub crossed-first-room : (m : ℕ) → ((i j : ℕ) → i < rows → j < cols → crossed_sizes m i j ≤ 2 ^ 62) → 0 < m
      → (i : ℕ) → i < rows → Small cols (crossed_first i)
  crossed-first-room m small h i hi j hj =
      rw (first-product i j hi hj) (omega (
        arith,
        sum_ℕ-step 0 (λ k. nat_abs (product_at i j k)),
        sum_ℕ_mono 1 m (λ k. nat_abs (product_at i j k)) h,
        small i j hi hj,
      ))

  -- four rows more
  module _ (k i j : ℕ) (hi : i < rows) (hj : j < cols) where
    four-term : (q : ℕ) → q < 4
        → signed rows (lent_four rows k x) q i *ℤ signed cols (lent_four cols k y) q j ≡ product_at i j (k + q)
    four-term q h = ap₂ ◌*ℤ◌ (four-at rows k x q i h hi) (four-at cols k y q j h hj)

    four-product : crossed k i j +ℤ crossed_four k i j ≡ crossed (k + 4) i j
    four-product =
        ap (λ (z : ℤ). crossed k i j +ℤ z) (sum_cong 4 _ (λ q. product_at i j (k + q)) four-term)
        ∙ sym (sum-split k 4 (product_at i j))

    four-sizes : crossed_sizes k i j + four_sizes k i j ≡ crossed_sizes (k + 4) i j
    four-sizes =
        ap (λ (n : ℕ). crossed_sizes k i j + n)
        (sum_ℕ_cong 4 _ (λ q. nat_abs (product_at i j (k + q))) (λ q h. ap nat_abs (four-term q h)))
        ∙ sym (sum_ℕ-split k 4 (λ r. nat_abs (product_at i j r)))

  -- D is the product of the first k rows
  module _ (k : ℕ) (D : Matrix) (w : Agree rows cols D (crossed k)) where
    pub crossed-more : (D' : Matrix) → Agree rows cols D' (λ i j. D i j +ℤ crossed_one k i j)
        → Agree rows cols D' (crossed (k + 1))
    crossed-more D' r i j hi hj =
        r i j hi hj ∙ ap₂ ◌+ℤ◌ (w i j hi hj) (lent-product k i j hi hj) ∙ sym (sum_step k (product_at i j))

    pub crossed-four : (D' : Matrix) → Agree rows cols D' (λ i j. D i j +ℤ crossed_four k i j)
        → Agree rows cols D' (crossed (k + 4))
    crossed-four D' r i j hi hj =
        r i j hi hj ∙ ap (λ (z : ℤ). z +ℤ crossed_four k i j) (w i j hi hj) ∙ four-product k i j hi hj

    module _ (m : ℕ) (small : (i j : ℕ) → i < rows → j < cols → crossed_sizes m i j ≤ 2 ^ 62) where
      pub crossed-room : k < m → Room rows cols D (λ i j. nat_abs (crossed_one k i j))
      crossed-room h i j hi hj =
          rw (w i j hi hj, lent-product k i j hi hj) (omega (
            arith,
            nat_abs-sum k (product_at i j),
            sum_ℕ-step k (λ k. nat_abs (product_at i j k)),
            sum_ℕ_mono (k + 1) m (λ k. nat_abs (product_at i j k)) (omega arith),
            small i j hi hj,
          ))

      pub crossed-four-room : k + 4 ≤ m → Room rows cols D (four_sizes k)
      crossed-four-room h i j hi hj =
          rw (w i j hi hj) (omega (
            arith,
            nat_abs-sum k (product_at i j),
            four-sizes k i j hi hj,
            sum_ℕ_mono (k + 4) m (λ r. nat_abs (product_at i j r)) h,
            small i j hi hj,
          ))
