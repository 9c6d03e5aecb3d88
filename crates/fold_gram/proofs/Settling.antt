-- Row i and column i of a table, put to their means pair by pair, and the rows that are then D'.
use mathlib.Core.Path.{◌≡◌, refl, sym, ◌∙◌, ap, ap₂}
use mathlib.Core.Logic.{⊎_elim}
use mathlib.Core.List.{List, ◌++◌}
use Prim.Native.Nat.{ℕ, ◌+◌, ◌*◌, ◌/◌, ◌%◌, ◌^◌, ◌<◌, ◌≤◌}
use native.Mathlib.Omega.{arith}
use native.Mathlib.Nat.{add-mul, one-mul, eq-or-lt_of_le}
use native.Mathlib.Decide.{ℕ_discrete}
use borrow.Author.Count.{below_more}
use lib.Arith.{digits_lt, digits_div, digits_mod}
use lib.ListN.{length, get_or, set, take, drop, length-set, length-take, get_or-append}
use lib.Seq.{get_or-set_same, get_or-set_other, get_or-take, length-take-le, length_front}
use lib.IntN.{ℤ, pos, nat_abs, ◌+ℤ◌, +ℤ_comm}
use lib.Signed.{quot_z}
use Rattle.integers.proofs.Lists.{get_or-build}
use Rattle.integers.proofs.Tests.{le_or_lt}
use Rattle.matrices.specs.Matrices.{Matrix, Agree}
use Rattle.matrices.specs.Tables.{table, signed}
use Rattle.matrices.proofs.Tables.{table_of, table_cong, length-table, TableTo}
use Rattle.small_rows.specs.Small.{Within}
use Rattle.small_rows.proofs.Columns.{same_cell}
use Rattle.small_rows.proofs.Small.{within_list}
use Rattle.fold_gram.specs.Halves.{mean, corner}
use Rattle.fold_gram.proofs.Halves.{folded_by, doubled_by, half_twice, corner_in, corner_out, corner-size, doubled-twice, doubled_by-size, folded_by-size}

mean-symmetric : (X : Matrix) (r c : ℕ) → mean X r c ≡ mean X c r
mean-symmetric X r c = ap (λ (z : ℤ). quot_z z (pos 2)) (+ℤ_comm (X r c) (X c r))

-- the first j pairs of row i and column i are at their means
module _ (t i : ℕ) (before : List ℤ) where
  pub record Settled (j : ℕ) (after : List ℤ) : Type 0 where
    pub within : j ≤ i + 1
    pub long : length after ≡ length before
    pub row : (c : ℕ) → c < j → signed t after i c ≡ mean (signed t before) i c
    pub column : (r : ℕ) → r < j → signed t after r i ≡ mean (signed t before) i r
    pub others : (r c : ℕ) → c < t → (r ≡ i → j ≤ c) → (c ≡ i → j ≤ r) → signed t after r c ≡ signed t before r c

  pub settled-none : Settled 0 before
  settled-none = record { within = omega arith; long = refl; row = λ c h. absurd (omega arith); column = λ r h. absurd (omega arith); others = λ r c h f g. refl }

  module _ (room : length before ≡ (i + 1) * t) (hi : i < t) where
    -- one pair more
    pub settled-more : (j : ℕ) (after : List ℤ) (v : ℤ) → j ≤ i → v ≡ mean (signed t before) i j → Settled j after
        → Settled (j + 1) (set (set after (j * t + i) v) (i * t + j) v)
    settled-more j after v hj is w = record {
      within = omega arith;
      long = length-set (set after (j * t + i) v) (i * t + j) v ∙ length-set after (j * t + i) v ∙ w.long;
      row = below_more (λ c. signed t new i c ≡ mean (signed t before) i c) j
          (λ c l. kept i c (omega arith) (λ e f. omega arith) (λ e f. omega arith) ∙ w.row c l)
          (get_or-set_same (set after (j * t + i) v) (i * t + j) v (pos 0) (rw (length-set after (j * t + i) v) low) ∙ is);
      column = below_more (λ r. signed t new r i ≡ mean (signed t before) i r) j
          (λ r l. kept r i hi (λ e f. omega arith) (λ e f. omega arith) ∙ w.column r l)
          (image (ℕ_discrete (j * t + i) (i * t + j)) ∙ is);
      others = λ r c l f g. kept r c l (λ e k. let h = f e in omega arith) (λ e k. let h = g k in omega arith)
          ∙ w.others r c l (λ e. let h = f e in omega arith) (λ e. let h = g e in omega arith);
    }
      where
        new : List ℤ
        new = set (set after (j * t + i) v) (i * t + j) v

        low : i * t + j < length after
        low = omega (arith, w.long, room, add-mul i 1 t, one-mul t)

        high : j * t + i < length after
        high = omega (arith, w.long, room, digits_lt {q = j} {m = i + 1} {r = i} {c = t} (omega arith) hi)

        kept : (r c : ℕ) → c < t → (r ≡ i → c ≡ j → ⊥) → (r ≡ j → c ≡ i → ⊥) → signed t new r c ≡ signed t after r c
        kept r c l f g =
            get_or-set_other (set after (j * t + i) v) (i * t + j) (r * t + c) v (pos 0) (λ q. let s = same_cell t r c i j l (omega arith) q in f s.0 s.1)
            ∙ get_or-set_other after (j * t + i) (r * t + c) v (pos 0) (λ q. let s = same_cell t r c j i l hi q in g s.0 s.1)

        image : Dec (j * t + i ≡ i * t + j) → signed t new j i ≡ v
        image (yes e) = ap (λ (x : ℕ). get_or new x (pos 0)) e ∙ get_or-set_same (set after (j * t + i) v) (i * t + j) v (pos 0) (rw (length-set after (j * t + i) v) low)
        image (no f) = get_or-set_other (set after (j * t + i) v) (i * t + j) (j * t + i) v (pos 0) f ∙ get_or-set_same after (j * t + i) v (pos 0) high

    -- all of them
    pub settled-all : (j : ℕ) (after : List ℤ) → i < j → Settled j after
        → after ≡ table (i + 1) t (corner i (signed t before) (corner (i + 1) (mean (signed t before)) (signed t before)))
    settled-all j after done w = table_of (pos 0) (i + 1) t all after (w.long ∙ room) (λ r c hr hc. ⊎_elim
        (λ (h : i + 1 ≤ c). w.others r c hc (λ e. omega (arith, w.within)) (λ e. absurd (omega arith))
        ∙ sym (corner_out i X _ r c (λ a b. omega arith) ∙ corner_out (i + 1) (mean X) X r c (λ a b. omega arith)))
        (λ (h : c < i + 1). ⊎_elim
        (λ (e : r ≡ i). rw e (w.row c (omega arith) ∙ sym (at-mean i c (omega arith) h (λ a b. omega arith))))
        (λ (l : r < i). ⊎_elim
        (λ (e : c ≡ i). rw e (w.column r (omega arith) ∙ mean-symmetric X i r ∙ sym (at-mean r i hr (omega arith) (λ a b. omega arith))))
        (λ (m : c < i). w.others r c hc (λ e. absurd (omega arith)) (λ e. absurd (omega arith)) ∙ sym (corner_in i X _ r c l m))
        (eq-or-lt_of_le (omega arith)))
        (eq-or-lt_of_le (omega arith)))
        (le_or_lt (i + 1) c))
      where
        X : Matrix
        X = signed t before

        all : Matrix
        all = corner i X (corner (i + 1) (mean X) X)

        at-mean : (r c : ℕ) → r < i + 1 → c < i + 1 → (r < i → c < i → ⊥) → all r c ≡ mean X r c
        at-mean r c hr hc f = corner_out i X _ r c f ∙ corner_in (i + 1) (mean X) X r c hr hc

-- what stands in the first rows after i turns: D' in the corner, and N beside it
abbrev pub made : ℕ → Matrix → List ℤ → ℕ → Matrix
made n C d i = corner i (folded_by n C d) (doubled_by n C d)

-- the first i + 1 rows, p numbers, when row i has been written
module _ (n : ℕ) (C : Matrix) (d : List ℤ) (t i p : ℕ) (hi : i < t) (size : p ≡ (i + 1) * t) (out : List ℤ) (w : TableTo (pos 0) t t (made n C d i) out ((i + 1) * t)) where
  abbrev X : Matrix
  X = signed t (take p out)

  front : Agree (i + 1) t X (made n C d i)
  front r c hr hc =
      get_or-take p out (r * t + c) (pos 0) (rw size (digits_lt hr hc)) ∙ w.right (r * t + c) (digits_lt hr hc) ∙ rw (digits_div r hc, digits_mod r hc)

  pub front-size : n ≤ 512 → Within (2 ^ 31) d → ((a i : ℕ) → nat_abs (C a i) ≤ 16) → Within (2 ^ 60) (take p out)
  front-size few small factors = within_list (2 ^ 60) (take p out) (λ x l.
      let h : x < p = omega (arith, length-take p out) in
      rw (get_or-take p out x (pos 0) h, w.right x (omega (arith, size)))
      (corner-size i (folded_by n C d) (doubled_by n C d) (x / t) (x % t) (2 ^ 60) (omega (arith, folded_by-size n C d few small factors (x / t) (x % t)))
      (omega (arith, doubled_by-size n C d few small factors (x / t) (x % t)))))

  -- settled, they hold D' in one more row and column
  next : Agree (i + 1) t (corner i X (corner (i + 1) (mean X) X)) (made n C d (i + 1))
  next r c hr hc = ⊎_elim
      (λ (h : i + 1 ≤ c).
      corner_out i X _ r c (λ a b. omega arith)
      ∙ corner_out (i + 1) (mean X) X r c (λ a b. omega arith)
      ∙ front r c hr hc
      ∙ corner_out i F N r c (λ a b. omega arith)
      ∙ sym (corner_out (i + 1) F N r c (λ a b. omega arith)))
      (λ (h : c < i + 1). ⊎_elim
      (λ (l : i ≤ r). settled h (λ a b. omega arith))
      (λ (l : r < i). ⊎_elim
      (λ (m : i ≤ c). settled h (λ a b. omega arith))
      (λ (m : c < i). corner_in i X _ r c l m ∙ front r c hr hc ∙ corner_in i F N r c l m ∙ sym (corner_in (i + 1) F N r c hr h))
      (le_or_lt i c))
      (le_or_lt i r))
      (le_or_lt (i + 1) c)
    where
      F : Matrix
      F = folded_by n C d

      N : Matrix
      N = doubled_by n C d

      settled : c < i + 1 → (r < i → c < i → ⊥) → corner i X (corner (i + 1) (mean X) X) r c ≡ made n C d (i + 1) r c
      settled h f =
          corner_out i X _ r c f
          ∙ corner_in (i + 1) (mean X) X r c hr h
          ∙ ap (λ (z : ℤ). quot_z z (pos 2)) (
          ap₂ ◌+ℤ◌ (front r c hr hc ∙ corner_out i F N r c f) (front c r h (omega arith) ∙ corner_out i F N c r (λ a b. f b a))
          ∙ doubled-twice n C d r c)
          ∙ half_twice (F r c)
          ∙ sym (corner_in (i + 1) F N r c hr h)

  pub front-next : (ys : List ℤ) → ys ≡ table (i + 1) t (corner i X (corner (i + 1) (mean X) X)) → TableTo (pos 0) t t (made n C d (i + 1)) (ys ++ drop p out) ((i + 1) * t)
  unfolding table
  front-next ys is = record {
    within = w.within;
    long = length_front out ys p (long ∙ sym (length-take-le p out (omega (arith, size, w.within, w.long)))) ∙ w.long;
    right = λ x h.
        get_or-append ys (drop p out) (pos 0) x (omega (arith, long, size))
        ∙ ap (λ (zs : List ℤ). get_or zs x (pos 0)) (is ∙ table_cong (pos 0) (i + 1) t _ (made n C d (i + 1)) next)
        ∙ get_or-build ((i + 1) * t) (λ x. made n C d (i + 1) (x / t) (x % t)) x (pos 0) h;
  }
    where
      long : length ys ≡ p
      long = ap length is ∙ length-table (i + 1) t (corner i X (corner (i + 1) (mean X) X)) ∙ sym size
