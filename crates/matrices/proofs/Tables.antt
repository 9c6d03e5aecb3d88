-- Lists that hold a matrix by rows: what stands in them, and how a loop fills one.
use Rattle.std.proofs.Common.{◌≡◌, ℕ, zero, suc, ◌+◌, ◌-◌, ◌*◌, ◌/◌, ◌%◌, ◌<◌, ◌≤◌, ◌↔◌, List, ◌++◌, length, get_or, take, drop, set, ℤ, sym, refl, ap, ◌∙◌, mul-le-mul_right, mod-lt, suc-mul, div-lt_iff_lt-mul, add-mul, one-mul, div-add-mod', arith, length-drop, length-take-le, get_or-drop, get_or-take, ext_get_or}
use lib.Arith.{digits_lt, digits_div, digits_mod}
use Rattle.integers.specs.Lists.{build}
use Rattle.integers.proofs.Lists.{length-build, get_or-build, Filled, filled_none, filled_more, filled-part, filled-all}
use Rattle.matrices.specs.Tables.{table, entry, entries}
use Rattle.matrices.specs.Matrices.{Agree}

-- row i of a matrix lies within its list
pub row_within : (rows cols i : ℕ) → i < rows → i * cols + cols ≤ rows * cols
row_within rows cols i h = omega (arith, suc-mul i cols, mul-le-mul_right cols h)

-- and so do the p rows from row i on
pub rows-within : (rows cols i p : ℕ) → i + p ≤ rows → i * cols + p * cols ≤ rows * cols
rows-within rows cols i p h = omega (arith, add-mul i p cols, mul-le-mul_right cols h)

module _ {A : Type 0} where
  -- a table has rows × cols elements
  pub length-table : (rows cols : ℕ) (f : ℕ → ℕ → A) → length (table rows cols f) ≡ rows * cols
  unfolding table
  length-table rows cols f = length-build (rows * cols) _

  -- what was written at (i, j) is read at (i, j)
  pub entry-table : (d : A) (rows cols : ℕ) (f : ℕ → ℕ → A) → Agree rows cols (entry d cols (table rows cols f)) f
  unfolding table
  entry-table d rows cols f i j hi hj =
      get_or-build (rows * cols) (λ x. f (x / cols) (x % cols)) (i * cols + j) d (digits_lt hi hj) ∙ rw (digits_div i hj, digits_mod i hj)

  -- the same of the numbers that the elements stand for
  pub entries-table : (value : A → ℤ) (d : A) (rows cols : ℕ) (f : ℕ → ℕ → A)
      → Agree rows cols (entries value d cols (table rows cols f)) (λ i j. value (f i j))
  entries-table value d rows cols f i j hi hj = ap value (entry-table d rows cols f i j hi hj)

  -- row i, lent as a part: its length, and what stands in it
  pub row-long : (rows cols i : ℕ) (xs : List A) → length xs ≡ rows * cols → i < rows → length (take (i * cols + cols - i * cols) (drop (i * cols) xs)) ≡ cols
  row-long rows cols i xs e h = length-take-le (i * cols + cols - i * cols) (drop (i * cols) xs) (rw (length-drop (i * cols) xs) (omega (arith, e, row_within rows cols i h))) ∙ omega arith

  pub row_at : (d : A) (cols i : ℕ) (xs : List A) (j : ℕ) → j < cols → get_or (take (i * cols + cols - i * cols) (drop (i * cols) xs)) j d ≡ entry d cols xs i j
  row_at d cols i xs j h = get_or-take (i * cols + cols - i * cols) (drop (i * cols) xs) j d (omega arith) ∙ get_or-drop (i * cols) xs j d

  -- two lists of the stated length with the same entries are equal
  pub entry_ext : (d : A) (rows cols : ℕ) (xs ys : List A) → length xs ≡ rows * cols → length ys ≡ rows * cols
      → Agree rows cols (entry d cols xs) (entry d cols ys) → xs ≡ ys
  entry_ext d rows zero xs ys hx hy h = ext_get_or d xs ys (hx ∙ sym hy) (λ x l. absurd (omega arith))
  entry_ext d rows (suc c) xs ys hx hy h = ext_get_or d xs ys (hx ∙ sym hy) (λ x l. rw (div-add-mod' x (suc c)) at
      (h (x / suc c) (x % suc c) ((div-lt_iff_lt-mul (omega arith)).1 (omega arith)) (mod-lt x (omega arith))))

  -- a list of the stated length whose entries are f's is the table of f
  pub table_of : (d : A) (rows cols : ℕ) (f : ℕ → ℕ → A) (xs : List A) → length xs ≡ rows * cols
      → Agree rows cols (entry d cols xs) f → xs ≡ table rows cols f
  table_of d rows cols f xs e h =
      entry_ext d rows cols xs (table rows cols f) e (length-table rows cols f) (λ i j hi hj. h i j hi hj ∙ sym (entry-table d rows cols f i j hi hj))

  -- a list of the stated length is the table of a matrix exactly where their entries agree
  pub is-table : (d : A) (rows cols : ℕ) (f : ℕ → ℕ → A) (xs : List A) → length xs ≡ rows * cols
      → (xs ≡ table rows cols f) ↔ Agree rows cols (entry d cols xs) f
  is-table d rows cols f xs e = (
    λ q i j hi hj. ap (λ (ys : List A). entry d cols ys i j) q ∙ entry-table d rows cols f i j hi hj,
    λ h. table_of d rows cols f xs e h,
  )

  -- tables of matrices that agree are equal
  pub table_cong : (d : A) (rows cols : ℕ) (f g : ℕ → ℕ → A) → Agree rows cols f g → table rows cols f ≡ table rows cols g
  table_cong d rows cols f g h =
      table_of d rows cols g (table rows cols f) (length-table rows cols f) (λ i j hi hj. entry-table d rows cols f i j hi hj ∙ h i j hi hj)

-- `out` has the stated length, and its first n elements are those of the table of F
abbrev pub TableTo : {A : Type 0} → A → ℕ → ℕ → (ℕ → ℕ → A) → List A → ℕ → Type 0
TableTo d rows cols F out n = Filled (rows * cols) (λ x. F (x / cols) (x % cols)) d n out

-- loops over rows i and columns j that fill a table: before the first store, after one at (i, j), at a row's start and end, and at the end
module _ {A : Type 0} (d : A) (rows cols : ℕ) (F : ℕ → ℕ → A) (out : List A) where
  pub table_none : (n : ℕ) → n ≡ 0 → length out ≡ rows * cols → TableTo d rows cols F out n
  table_none n e l = rw e (filled_none (rows * cols) (λ x. F (x / cols) (x % cols)) d out l)

  pub table_more : (i j : ℕ) (v : A) → i < rows → j < cols → v ≡ F i j → TableTo d rows cols F out (i * cols + j)
      → TableTo d rows cols F (set out (i * cols + j) v) (i * cols + (j + 1))
  table_more i j v hi hj e w =
      let next : i * cols + (j + 1) ≡ i * cols + j + 1 = omega arith in
      rw next (filled_more (rows * cols) (λ x. F (x / cols) (x % cols)) d (i * cols + j) out v (digits_lt hi hj) (rw (digits_div i hj, digits_mod i hj) e) w)

  pub table-start : (i : ℕ) → TableTo d rows cols F out (i * cols) → TableTo d rows cols F out (i * cols + 0)
  table-start i w = let same : i * cols + 0 ≡ i * cols = omega arith in rw same w

  pub table-row : (i j : ℕ) → j ≡ cols → TableTo d rows cols F out (i * cols + j) → TableTo d rows cols F out ((i + 1) * cols)
  table-row i j e w = let next : (i + 1) * cols ≡ i * cols + j = omega (arith, add-mul i 1 cols, one-mul cols) in rw next w

  -- row i was lent as a part of out, and has come back
  pub table-part-of : (i : ℕ) (row : List A) (f : ℕ → A) → i < rows → row ≡ build cols f → ((j : ℕ) → j < cols → f j ≡ F i j)
      → TableTo d rows cols F out (i * cols)
      → TableTo d rows cols F (take (i * cols) out ++ (row ++ drop (i * cols + cols - i * cols) (drop (i * cols) out))) ((i + 1) * cols)
  table-part-of i row f hi e same w =
      let next : (i + 1) * cols ≡ i * cols + cols = omega (arith, add-mul i 1 cols, one-mul cols) in
      let size : i * cols + cols - i * cols ≡ cols = omega arith in
      rw (next, size) (filled-part (rows * cols) (λ x. F (x / cols) (x % cols)) d (i * cols) cols out row (row_within rows cols i hi) (ap length e ∙ length-build cols f)
      (λ j h. ap (λ (xs : List A). get_or xs j d) e ∙ get_or-build cols f j d h ∙ same j h ∙ rw (digits_div i h, digits_mod i h)) w)

  -- the same where the row is the table's own
  pub table-part : (i : ℕ) (row : List A) → i < rows → row ≡ build cols (F i) → TableTo d rows cols F out (i * cols)
      → TableTo d rows cols F (take (i * cols) out ++ (row ++ drop (i * cols + cols - i * cols) (drop (i * cols) out))) ((i + 1) * cols)
  table-part i row hi e w = table-part-of i row (F i) hi e (λ j h. refl) w

  pub table-all : (i : ℕ) → rows ≤ i → TableTo d rows cols F out (i * cols) → out ≡ table rows cols F
  unfolding table
  table-all i h w = filled-all (rows * cols) (λ x. F (x / cols) (x % cols)) d (i * cols) out (mul-le-mul_right cols h) w
