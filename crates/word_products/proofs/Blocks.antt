-- A table whose rows are written anew one after the other, and what a block of rows of the second factor adds to a row.
use mathlib.Core.Path.{◌≡◌, refl, sym, ◌∙◌, ap, ap₂}
use mathlib.Core.List.{List, ◌++◌}
use Prim.Native.Nat.{ℕ, ◌+◌, ◌*◌, ◌-◌, ◌<◌, ◌≤◌}
use native.Mathlib.Omega.{arith}
use native.Mathlib.Nat.{zero-mul, add-mul, one-mul}
use lib.IntN.{ℤ, pos, ◌+ℤ◌, ◌*ℤ◌, +ℤ_idl}
use lib.ListN.{length, get_or, take, drop, length-take, length-drop}
use lib.Seq.{get_or-take, get_or-drop}
use Rattle.integers.specs.Lists.{build}
use Rattle.integers.specs.Sums.{sum}
use Rattle.integers.specs.Residues.{residue, word}
use Rattle.integers.proofs.Lists.{length-build, is-build, part-after}
use Rattle.matrices.specs.Matrices.{Matrix, product}
use Rattle.matrices.specs.Tables.{table, unsigned, signed}
use Rattle.matrices.proofs.Tables.{row_within, length-table, entry-table, TableTo, table_none, table-part}
use Rattle.matrices.specs.Elements.{modulo, Added}
use Rattle.matrices.proofs.Elements.{modulo-sums, added-on}
use Rattle.word_rows.specs.Rows.{row_times}
use Rattle.word_rows.proofs.Rows.{times-block, times_more}

-- the first i rows of `after` are those of F, and the others are those of `before`
pub record Renewed {A : Type 0} (d : A) (rows cols : ℕ) (F : ℕ → ℕ → A) (before after : List A) (i : ℕ) : Type 0 where
  pub new : TableTo d rows cols F after (i * cols)
  pub rest : (x : ℕ) → i * cols ≤ x → get_or after x d ≡ get_or before x d

module _ {A : Type 0} (d : A) (rows cols : ℕ) (F G : ℕ → ℕ → A) (before : List A) (held : before ≡ table rows cols G) where
  -- before the first row
  pub renewed_none : Renewed d rows cols F before before 0
  renewed_none = record { new = table_none d rows cols F before _ (zero-mul cols) (ap length held ∙ length-table rows cols G); rest = λ x h. refl }

  module _ (after : List A) (i : ℕ) (h : i < rows) (w : Renewed d rows cols F before after i) where
    -- row i, which is lent as a part, is still G's
    pub renewed_row : take (i * cols + cols - i * cols) (drop (i * cols) after) ≡ build cols (G i)
    renewed_row = is-build cols (G i) d _ (simp (length-take, length-drop) (omega (arith, row_within rows cols i h, w.new.long)))
        (λ j l. get_or-take (i * cols + cols - i * cols) (drop (i * cols) after) j d (omega arith) ∙ get_or-drop (i * cols) after j d
        ∙ w.rest (i * cols + j) (omega arith) ∙ ap (λ (xs : List A). get_or xs (i * cols + j) d) held ∙ entry-table d rows cols G i j h l)

    -- and it has come back as F's
    pub renewed_more : (row : List A) → row ≡ build cols (F i)
        → Renewed d rows cols F before (take (i * cols) after ++ (row ++ drop (i * cols + cols - i * cols) (drop (i * cols) after))) (i + 1)
    renewed_more row e = record {
      new = table-part d rows cols F after i row h e w.new;
      rest = λ x l.
          let size : i * cols + cols - i * cols ≡ cols = omega arith in
          rw size (part-after (i * cols) cols after row d (omega (arith, row_within rows cols i h, w.new.long)) (ap length e ∙ length-build cols (F i)) x
          (omega (arith, add-mul i 1 cols, one-mul cols)) ∙ w.rest x (omega (arith, add-mul i 1 cols, one-mul cols)));
    }

-- row i of a product of the first `base` columns and rows, to which the next `len` words of row i of the first factor times the
-- next `len` rows of the second are added, both lent as parts
module _ (n m cols base len i : ℕ) (a : List ℕ) (s : List ℤ) (sized : length a ≡ n * m) (fits : base + len ≤ m) (h : i < n) where
  abbrev words : List ℕ
  words = take (i * m + base + len - (i * m + base)) (drop (i * m + base) a)

  abbrev block : List ℤ
  block = take (base * cols + len * cols - base * cols) (drop (base * cols) s)

  pub words_long : length words ≡ len
  words_long = simp (length-take, length-drop) (omega (arith, row_within n m i h))

  pub block_row : (before after : List ℕ) → before ≡ build cols (λ j. word (product base (unsigned m a) (signed cols s) i j))
      → Added modulo (row_times (length words) words (signed cols block)) 0 (length before) before after
      → after ≡ build cols (λ j. word (product (base + len) (unsigned m a) (signed cols s) i j))
  block_row before after e w = added-on modulo modulo-sums cols (length before) _ _ _ before after (ap length e ∙ length-build cols _) e w (λ j l. times-block (λ z. z) (pos 0) cols a s base j l m i len
      ∙ ap (λ (p : ℕ). product base (unsigned m a) (signed cols s) i j +ℤ row_times p words (signed cols block) j) (sym words_long))

-- the row x times s, where x has a word: the products of the first row of s, which are written into a row, and those of the others,
-- which are added to it, all lent as parts
module _ (cols : ℕ) (x : List ℕ) (s : List ℤ) (sized : length s ≡ length x * cols) (some : 0 < length x) where
  abbrev others : List ℕ
  others = take (length x - 1) (drop 1 x)

  abbrev other_rows : List ℤ
  other_rows = take (length s - cols) (drop cols s)

  pub first-within : cols ≤ length s
  first-within = omega (arith, row_within (length x) cols 0 some, zero-mul cols, sized)

  others-long : length others ≡ length x - 1
  others-long = simp (length-take, length-drop) (omega arith)

  others-size : (length x - 1) * cols ≡ length s - cols
  others-size =
      let e : length x ≡ 1 + (length x - 1) = omega arith in
      omega (arith, sized, ap (λ (p : ℕ). p * cols) e, add-mul 1 (length x - 1) cols, one-mul cols)

  pub others_fit : length other_rows ≡ length others * cols
  others_fit = simp (length-take, length-drop) (omega arith) ∙ sym others-size ∙ ap (λ (p : ℕ). p * cols) (sym others-long)

  first_alone : (j : ℕ) → j < cols → row_times 1 x (signed cols s) j ≡ pos (get_or x 0 0) *ℤ get_or (take cols s) j (pos 0)
  unfolding sum
  first_alone j h =
      let none : 0 * cols + j ≡ j = omega (arith, zero-mul cols) in
      +ℤ_idl _ ∙ ap (λ (z : ℤ). pos (get_or x 0 0) *ℤ z) (ap (λ (n : ℕ). get_or s n (pos 0)) none ∙ sym (get_or-take cols s j (pos 0) h))

  first-and-others : (j : ℕ) → j < cols → row_times (length x) x (signed cols s) j
      ≡ pos (get_or x 0 0) *ℤ get_or (take cols s) j (pos 0) +ℤ row_times (length others) others (signed cols other_rows) j
  first-and-others j h =
      let p = length x - 1 in
      let all : length x ≡ 1 + p = omega arith in
      let words : 1 + p - 1 ≡ p = omega arith in
      let rows : cols + p * cols - cols ≡ length s - cols = omega (arith, others-size) in
      ap (λ (k : ℕ). row_times k x (signed cols s) j) all
      ∙ times_more (λ z. z) (pos 0) cols x s 1 j h p cols (sym (one-mul cols))
      ∙ ap₂ ◌+ℤ◌ (first_alone j h)
      (ap₂ (λ (k b : ℕ). row_times p (take k (drop 1 x)) (signed cols (take b (drop cols s))) j) words rows
      ∙ ap (λ (k : ℕ). row_times k others (signed cols other_rows) j) (sym others-long))

  pub first-row : (before after : List ℕ) → before ≡ build cols (λ j. word (pos (get_or x 0 0) *ℤ get_or (take cols s) j (pos 0)))
      → Added modulo (row_times (length others) others (signed cols other_rows)) 0 (length before) before after
      → after ≡ build cols (λ j. word (row_times (length x) x (signed cols s) j))
  first-row before after e w = added-on modulo modulo-sums cols (length before) _ _ _ before after (ap length e ∙ length-build cols _) e w first-and-others

-- a list of zeros is the table of a product of no columns and rows
pub product-none : (rows cols : ℕ) (X Y : Matrix) → build (rows * cols) (λ x. 0) ≡ table rows cols (λ i j. word (product 0 X Y i j))
unfolding table sum residue
product-none rows cols X Y = refl
