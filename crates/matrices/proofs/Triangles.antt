-- Lower triangles: where an entry stands, what is read of what was written, and a triangle that is written or added to row by row.
use Rattle.std.proofs.Common.{◌≡◌, ℕ, zero, suc, ◌+◌, ◌-◌, ◌*◌, ◌/◌, ◌<◌, ◌≤◌, leb, ◌↔◌, List, ◌++◌, length, get_or, take, drop, ℤ, pos, ◌+ℤ◌, ◌*ℤ◌, nat_abs, sym, refl, ap, ◌∙◌, ap₂, ⊎_elim, append_assoc, le_of_suc-le-suc, eq-or-lt_of_le, add-one, arith, le→leb, length-append, length-drop, length-take-le, get_or-drop, take_all, get_or-take, take_at, get_or-append-add, ext_get_or}
use native.Mathlib.Nat.{add-mul-div_right}
use lib.Arith.{lt→nleb}
use lib.IntN.{*ℤ_comm}
use lib.ListN.{get_or-append}
use Rattle.integers.specs.Lists.{build}
use Rattle.integers.specs.Sums.{sum}
use Rattle.integers.proofs.Lists.{length-build, get_or-build, build_cong, part-long, part-after}
use Rattle.integers.proofs.Ring.{ac}
use Rattle.integers.proofs.Sums.{sum_cong, sum-swap, sum_mul_right}
use Rattle.integers.proofs.Tests.{cond_yes, cond_no, le_or_lt}
use Rattle.matrices.specs.Matrices.{Matrix, transposed, gram, both_sides, Agree, Symmetric}
use Rattle.matrices.specs.Triangles.{triangular, lower, mirrored, mirrored_plus, lower_part}
use Rattle.matrices.proofs.Matrices.{both_sides_cong}

-- row i has i + 1 entries
pub triangular-more : (i : ℕ) → triangular (suc i) ≡ triangular i + suc i
triangular-more i = ap (λ (n : ℕ). n / 2) (spread i) ∙ add-mul-div_right (i * (i + 1)) (suc i) {z = 2} (omega arith)
  where
    spread : (i : ℕ) → suc i * (suc i + 1) ≡ i * (i + 1) + suc i * 2
    spread i = omega arith

pub triangular_mono : (i n : ℕ) → i ≤ n → triangular i ≤ triangular n
triangular_mono i zero h = let e : i ≡ 0 = omega arith in rw e (omega arith)
triangular_mono i (suc n) h = ⊎_elim
    (λ (e : i ≡ suc n). rw e (omega arith))
    (λ (l : i < suc n). omega (arith, triangular-more n, triangular_mono i n (omega arith)))
    (eq-or-lt_of_le h)

-- an entry of row i stands before the next row, and in the first n rows
pub cell_within : (n i j : ℕ) → i < n → j ≤ i → triangular i + j < triangular n
cell_within n i j hi hj = omega (arith, triangular-more i, triangular_mono (suc i) n hi)

-- and every place is that of an entry
pub record Cell (n x : ℕ) : Type 0 where
  pub row : ℕ
  pub column : ℕ
  pub row_within : row < n
  pub column-within : column ≤ row
  pub place : x ≡ triangular row + column

pub cell_of : (n x : ℕ) → x < triangular n → Cell n x
cell_of zero x h = absurd (omega (arith, h))
cell_of (suc n) x h = ⊎_elim
    (λ (l : triangular n ≤ x). record { row = n; column = x - triangular n; row_within = omega arith; column-within = omega (arith, triangular-more n, h); place = omega (arith, l) })
    (λ (l : x < triangular n). let c = cell_of n x l in record { row = c.row; column = c.column; row_within = omega (arith, c.row_within); column-within = c.column-within; place = c.place })
    (le_or_lt (triangular n) x)

pub length-lower : (n : ℕ) (X : Matrix) → length (lower n X) ≡ triangular n
unfolding lower
length-lower zero X = refl
length-lower (suc n) X = length-append (lower n X) _ ∙ ap₂ ◌+◌ (length-lower n X) (length-build (suc n) _) ∙ sym (triangular-more n)

-- entry (i, j) stands at i(i + 1)/2 + j
pub lower-entry : (n : ℕ) (X : Matrix) (i j : ℕ) → i < n → j ≤ i → get_or (lower n X) (triangular i + j) (pos 0) ≡ X i j
unfolding lower
lower-entry zero X i j hi hj = absurd (omega arith)
lower-entry (suc n) X i j hi hj = ⊎_elim
    (λ (e : i ≡ n). rw e (
    ap (λ (x : ℕ). get_or (lower n X ++ build (suc n) (X n)) (x + j) (pos 0)) (sym (length-lower n X))
    ∙ get_or-append-add (lower n X) (build (suc n) (X n)) j (pos 0)
    ∙ get_or-build (suc n) (X n) j (pos 0) (omega (arith, e, hj))))
    (λ (l : i < n). get_or-append (lower n X) (build (suc n) (X n)) (pos 0) (triangular i + j) (rw (length-lower n X) (cell_within n i j l hj)) ∙ lower-entry n X i j l hj)
    (eq-or-lt_of_le (le_of_suc-le-suc hi))

-- a list with these entries is the lower triangle
pub is-lower : (n : ℕ) (X : Matrix) (xs : List ℤ) → length xs ≡ triangular n → ((i j : ℕ) → i < n → j ≤ i → get_or xs (triangular i + j) (pos 0) ≡ X i j) → xs ≡ lower n X
is-lower n X xs long h = ext_get_or (pos 0) xs (lower n X) (long ∙ sym (length-lower n X)) (λ x l. at (cell_of n x (rw long at l)))
  where
    at : {x : ℕ} → Cell n x → get_or xs x (pos 0) ≡ get_or (lower n X) x (pos 0)
    at c = rw c.place (h c.row c.column c.row_within c.column-within ∙ sym (lower-entry n X c.row c.column c.row_within c.column-within))

-- the triangle depends on the entries on and below the diagonal alone
pub lower_cong : (n : ℕ) (X Y : Matrix) → Agree n n X Y → lower n X ≡ lower n Y
lower_cong n X Y h = is-lower n Y (lower n X) (length-lower n X) (λ i j hi hj. lower-entry n X i j hi hj ∙ h i j hi (omega (arith, hi, hj)))

lower-more : (X : Matrix) (i : ℕ) → lower (i + 1) X ≡ lower i X ++ build (i + 1) (X i)
unfolding lower
lower-more X i = rw (add-one i) refl

-- a triangle of n rows that is being written: the first i rows are X's, and row i begins at `start`
pub record LowerTo (n : ℕ) (X : Matrix) (i start : ℕ) (xs : List ℤ) : Type 0 where
  pub within : i ≤ n
  pub begins : start ≡ triangular i
  pub long : length xs ≡ triangular n
  pub rows : take start xs ≡ lower i X

module _ (n : ℕ) (X : Matrix) where
  pub lower-none : (xs : List ℤ) → length xs ≡ triangular n → LowerTo n X 0 0 xs
  unfolding lower
  lower-none xs h = record { within = omega arith; begins = refl; long = h; rows = refl }

  module _ (i start : ℕ) (xs : List ℤ) (hi : i < n) (w : LowerTo n X i start xs) where
    -- row i lies within the list
    pub lower-within : start + i + 1 ≤ length xs
    lower-within = omega (arith, w.begins, w.long, cell_within n i i hi (omega arith))

    -- its length, where it is lent as a part
    pub lower-lent : length (take (start + i + 1 - start) (drop start xs)) ≡ i + 1
    lower-lent = length-take-le (start + i + 1 - start) (drop start xs) (rw (length-drop start xs) (omega (arith, lower-within))) ∙ omega arith

    -- it has come back as X's
    pub lower-part : (ys : List ℤ) → ys ≡ build (i + 1) (X i) → LowerTo n X (i + 1) (start + i + 1) (take start xs ++ (ys ++ drop (start + i + 1 - start) (drop start xs)))
    lower-part ys e = record {
      within = omega arith;
      begins = next;
      long = part-long start (start + i + 1 - start) xs ys (pos 0) (omega (arith, lower-within)) size ∙ w.long;
      rows = joined (drop (start + i + 1 - start) (drop start xs));
    }
      where
        next : start + i + 1 ≡ triangular (i + 1)
        next = rw (add-one i) (omega (arith, w.begins, triangular-more i))

        size : length ys ≡ start + i + 1 - start
        size = ap length e ∙ length-build (i + 1) (X i) ∙ omega arith

        joined : (rest : List ℤ) → take (start + i + 1) (take start xs ++ (ys ++ rest)) ≡ lower (i + 1) X
        joined rest =
            ap₂ (λ (above row : List ℤ). take (start + i + 1) (above ++ (row ++ rest))) w.rows e
            ∙ ap (take (start + i + 1)) (sym (append_assoc (lower i X) (build (i + 1) (X i)) rest))
            ∙ take_at (lower i X ++ build (i + 1) (X i)) rest (start + i + 1) (ap length (sym (lower-more X i)) ∙ length-lower (i + 1) X ∙ sym next)
            ∙ sym (lower-more X i)

  pub lower-all : (i start : ℕ) (xs : List ℤ) → n ≤ i → LowerTo n X i start xs → xs ≡ lower n X
  lower-all i start xs h w =
      let e : i ≡ n = omega (arith, w.within) in
      sym (take_all start xs (rw (w.long, w.begins, e) (omega arith))) ∙ w.rows ∙ ap (λ (k : ℕ). lower k X) e

-- what is read: on and below the diagonal, and above it
pub mirrored-low : (xs : List ℤ) (i j : ℕ) → j ≤ i → mirrored xs i j ≡ get_or xs (triangular i + j) (pos 0)
unfolding mirrored
mirrored-low xs i j h = cond_yes (leb j i) _ _ (le→leb j i h)

pub mirrored-high : (xs : List ℤ) (i j : ℕ) → i < j → mirrored xs i j ≡ get_or xs (triangular j + i) (pos 0)
unfolding mirrored
mirrored-high xs i j h = cond_no (leb j i) _ _ (lt→nleb j i h)

-- F is added to the first i rows of the triangle `before`, and from `start` on, where row i begins, it is as it was
pub record LowerAdded (n : ℕ) (F : Matrix) (before : List ℤ) (i start : ℕ) (after : List ℤ) : Type 0 where
  pub rows : LowerTo n (mirrored_plus before F) i start after
  pub rest : (x : ℕ) → start ≤ x → get_or after x (pos 0) ≡ get_or before x (pos 0)

module _ (n : ℕ) (F : Matrix) (before : List ℤ) where
  pub lower-added-none : length before ≡ triangular n → LowerAdded n F before 0 0 before
  lower-added-none h = record { rows = lower-none n (mirrored_plus before F) before h; rest = λ x l. refl }

  module _ (i start : ℕ) (xs : List ℤ) (hi : i < n) (w : LowerAdded n F before i start xs) where
    -- row i, where it is lent as a part
    abbrev pub lower_row : List ℤ
    lower_row = take (start + i + 1 - start) (drop start xs)

    pub lower-row-before : (j : ℕ) → j < i + 1 → get_or lower_row j (pos 0) ≡ get_or before (start + j) (pos 0)
    lower-row-before j h = get_or-take (start + i + 1 - start) (drop start xs) j (pos 0) (omega arith) ∙ get_or-drop start xs j (pos 0) ∙ w.rest (start + j) (omega arith)

    pub lower-row-at : (j : ℕ) → j < i + 1 → get_or lower_row j (pos 0) ≡ mirrored before i j
    lower-row-at j h = lower-row-before j h ∙ ap (λ (x : ℕ). get_or before (x + j) (pos 0)) w.rows.begins ∙ sym (mirrored-low before i j (omega arith))

    -- it has come back with F added
    pub lower-added-row : (ys : List ℤ) → ys ≡ build (i + 1) (λ j. get_or lower_row j (pos 0) +ℤ F i j)
        → LowerAdded n F before (i + 1) (start + i + 1) (take start xs ++ (ys ++ drop (start + i + 1 - start) (drop start xs)))
    lower-added-row ys e = record {
      rows = lower-part n (mirrored_plus before F) i start xs hi w.rows ys (e ∙ build_cong (i + 1) _ _ (λ j l. ap (λ (z : ℤ). z +ℤ F i j) (lower-row-at j l)));
      rest = λ x l. part-after start (start + i + 1 - start) xs ys (pos 0) (omega (arith, lower-within n (mirrored_plus before F) i start xs hi w.rows)) size x (omega arith)
          ∙ w.rest x (omega arith);
    }
      where
        size : length ys ≡ start + i + 1 - start
        size = ap length e ∙ length-build (i + 1) _ ∙ omega arith

-- the square is symmetric, whatever the triangle is
pub mirrored-symmetric : (xs : List ℤ) (i j : ℕ) → mirrored xs i j ≡ mirrored xs j i
mirrored-symmetric xs i j = ⊎_elim
    (λ (h : j ≤ i). ⊎_elim
    (λ (l : i ≤ j). let e : i ≡ j = omega arith in rw e refl)
    (λ (l : j < i). mirrored-low xs i j h ∙ sym (mirrored-high xs j i l))
    (le_or_lt i j))
    (λ (h : i < j). mirrored-high xs i j h ∙ sym (mirrored-low xs j i (omega arith)))
    (le_or_lt j i)

-- a symmetric matrix, written as a triangle, reads as it was
pub mirrored-lower : (n : ℕ) (X : Matrix) → Symmetric n X → Agree n n (mirrored (lower n X)) X
mirrored-lower n X sides i j hi hj = ⊎_elim
    (λ (h : j ≤ i). mirrored-low (lower n X) i j h ∙ lower-entry n X i j hi h)
    (λ (h : i < j). mirrored-high (lower n X) i j h ∙ lower-entry n X j i hj (omega arith) ∙ sides j i hj hi)
    (le_or_lt j i)

-- a symmetric X equals Y where, on and below the diagonal, it equals Y and Y transposed
pub agree_below : (n : ℕ) (X Y : Matrix) → Symmetric n X → ((i j : ℕ) → i < n → j ≤ i → (X i j ≡ Y i j) × (X i j ≡ Y j i)) ↔ Agree n n X Y
agree_below n X Y sides = (
  (λ h i j hi hj. ⊎_elim
      (λ (l : j ≤ i). (h i j hi l).0)
      (λ (l : i < j). sides i j hi hj ∙ (h j i hj (omega arith)).1)
      (le_or_lt j i)),
  (λ h i j hi l. let hj : j < n = omega arith in (h i j hi hj, sides i j hi hj ∙ h j i hj hi)),
)

-- 10 over the stored entries is 10 over the mirrored square
pub mirrored_bounds : (n H : ℕ) (xs : List ℤ) → ((i j : ℕ) → i < n → j < n → nat_abs (mirrored xs i j) ≤ H) ↔ ((x : ℕ) → x < triangular n → nat_abs (get_or xs x (pos 0)) ≤ H)
mirrored_bounds n H xs = (
  (λ h x l. let c = cell_of n x l in rw c.place (rw (mirrored-low xs c.row c.column c.column-within) at (h c.row c.column c.row_within (omega (arith, c.row_within, c.column-within))))),
  (λ h i j hi hj. ⊎_elim
      (λ (l : j ≤ i). rw (mirrored-low xs i j l) (h (triangular i + j) (cell_within n i j hi l)))
      (λ (l : i < j). rw (mirrored-high xs i j l) (h (triangular j + i) (cell_within n j i hj (omega arith))))
      (le_or_lt j i)),
)

pub part_low : (xs : List ℤ) (a b : ℕ) → b ≤ a → lower_part xs a b ≡ get_or xs (triangular a + b) (pos 0)
unfolding lower_part
part_low xs a b h = cond_yes (leb b a) _ _ (le→leb b a h)

pub part-high : (xs : List ℤ) (a b : ℕ) → a < b → lower_part xs a b ≡ pos 0
unfolding lower_part
part-high xs a b h = cond_no (leb b a) _ _ (lt→nleb b a h)

-- C-transposed D C, entry by entry of D
pub entrywise : (n : ℕ) (C D : Matrix) (i j : ℕ) → both_sides n C D i j ≡ sum n (λ a. sum n (λ b. C a i *ℤ D a b *ℤ C b j))
entrywise n C D i j = sum_cong n _ (λ b. sum n (λ a. C a i *ℤ D a b *ℤ C b j)) (λ b h. sum_mul_right n (C b j) (λ a. C a i *ℤ D a b)) ∙ sum-swap n n (λ b a. C a i *ℤ D a b *ℤ C b j)

-- turned, it is that of D transposed, so for a symmetric D it is symmetric
pub turned-sides : (n : ℕ) (C D : Matrix) (i j : ℕ) → both_sides n C D j i ≡ both_sides n C (transposed D) i j
turned-sides n C D i j =
    entrywise n C D j i
    ∙ sum-swap n n (λ a b. C a j *ℤ D a b *ℤ C b i)
    ∙ sum_cong n _ _ (λ b hb. sum_cong n _ _ (λ a ha. turned (C a j) (D a b) (C b i)))
    ∙ sym (entrywise n C (transposed D) i j)
  where
    turned : (x y z : ℤ) → x *ℤ y *ℤ z ≡ z *ℤ y *ℤ x
    turned x y z = simp ac refl

pub both_sides-symmetric : (n : ℕ) (C D : Matrix) (i j : ℕ) → Symmetric n D → both_sides n C D i j ≡ both_sides n C D j i
both_sides-symmetric n C D i j sides = both_sides_cong n C C D (transposed D) i j (λ k h. refl) (λ k h. refl) sides ∙ sym (turned-sides n C D i j)

-- a Gram matrix is symmetric
pub gram-symmetric : (m n : ℕ) (X : Matrix) → Symmetric n (gram m X)
gram-symmetric m n X i j hi hj = sum_cong m _ _ (λ k h. *ℤ_comm (X k i) (X k j))

-- and what its triangle stands for
pub mirrored-gram : (m n : ℕ) (X : Matrix) (xs : List ℤ) → xs ≡ lower n (gram m X) → Agree n n (mirrored xs) (gram m X)
mirrored-gram m n X xs e i j hi hj = ap (λ (ys : List ℤ). mirrored ys i j) e ∙ mirrored-lower n (gram m X) (gram-symmetric m n X) i j hi hj
