-- A row of the second part spread over the right half of a joined row, and the joined matrices by what is lent.
use mathlib.Core.Path.{◌≡◌, refl, sym, ◌∙◌, ap, ap₂, subst}
use mathlib.Core.List.{List}
use Prim.Native.Nat.{ℕ, ◌+◌, ◌-◌, ◌*◌, ◌<◌, ◌≤◌}
use native.Mathlib.Omega.{arith}
use lib.IntN.{ℤ, pos}
use lib.ListN.{length, get_or, take, drop, length-take, length-drop}
use Rattle.integers.specs.Lists.{build}
use Rattle.integers.specs.Residues.{word}
use Rattle.integers.proofs.Lists.{length-build, get_or-build, is-build}
use Rattle.matrices.specs.Tables.{entry}
use Rattle.matrices.proofs.Tables.{row-long, row_at, entry-table, table_cong}
use Rattle.settings.specs.Settings.{Parameters}
use Rattle.lova.specs.declared.Profile.{Profile}
use Rattle.lova.specs.declared.Profile.TheVariants.{General, Fresh}
use Rattle.lova.specs.Stored.{Instance, right_for, matrix_T, matrix_D, matrix_V, right_T, right_D, sent_V, joined_T, joined_D}
use Rattle.lova.specs.Fold.{beside, blocks}
use Rattle.lova.specs.Repeats.{repeated_instance, repeated_V}
use Rattle.lova.specs.Join.{joined_instance}
use Rattle.lova.proofs.Blocks.{beside_cong, blocks_cong}
use Rattle.joins.specs.Columns.{column_of, spread, spread_both}

-- what stands in the right half is a column, or row, of the second part
pub column-within : (t : ℕ) (f : Profile) (j : ℕ) → j < t → column_of f j < right_for t f
column-within t General j h = h
column-within t Fresh j h = omega arith

-- a row of the second part is copied to n places, or its one element stands in each
module _ {A : Type 0} (d : A) (f : Profile) (row : List A) (n : ℕ) (fits : length row ≡ right_for n f) where
  pub general_long : f ≡ General → length row ≡ n
  general_long e = fits ∙ ap (λ (g : Profile). right_for n g) e

  pub fresh_long : f ≡ Fresh → length row ≡ 1
  fresh_long e = fits ∙ ap (λ (g : Profile). right_for n g) e

  pub spread_general : f ≡ General → row ≡ build n (λ j. get_or row (column_of f j) d)
  spread_general e = is-build n _ d row (general_long e) (λ j h. ap (λ (g : Profile). get_or row (column_of g j) d) (sym e))

  pub spread_fresh : f ≡ Fresh → build n (λ j. get_or row 0 d) ≡ build n (λ j. get_or row (column_of f j) d)
  spread_fresh e = ap (λ (g : Profile). build n (λ j. get_or row (column_of g j) d)) (sym e)

-- n places that are lent from place p on
pub room-long : {A : Type 0} (p n : ℕ) (xs : List A) → p + n ≤ length xs → length (take (p + n - p) (drop p xs)) ≡ n
room-long p n xs h = simp (length-take, length-drop) (omega arith)

-- row i of the second part, lent as a part of its list, and the half that has come back
module _ {A : Type 0} (d : A) (f : Profile) (rows cols right i : ℕ) (xs : List A) (e : right ≡ right_for cols f) (long : length xs ≡ rows * right) (hi : i < rows) where
  abbrev row : List A
  row = take (i * right + right - i * right) (drop (i * right) xs)

  module _ {n : ℕ} (same : n ≡ cols) where
    pub row_fits : length row ≡ right_for n f
    row_fits = row-long rows right i xs long hi ∙ e ∙ ap (λ (m : ℕ). right_for m f) (sym same)

    module _ (half : List A) (is : half ≡ build n (λ j. get_or row (column_of f j) d)) where
      pub half-long : length half ≡ cols
      half-long = ap length is ∙ length-build n (λ j. get_or row (column_of f j) d) ∙ same

      pub half_at : (j : ℕ) → j < cols → get_or half j d ≡ entry d right xs i (column_of f j)
      half_at j h =
          ap (λ (ys : List A). get_or ys j d) is
          ∙ get_or-build n (λ j. get_or row (column_of f j) d) j d (omega arith)
          ∙ row_at d right i xs (column_of f j) (subst (λ (m : ℕ). column_of f j < m) (sym e) (column-within cols f j h))

-- the joined T and D of all that is fresh, repeated, by what is lent
pub joined_once : (p : Parameters) (f : Profile) (I₁ I₂ : Instance) («V» : List ℤ) → joined_instance p I₁ (repeated_instance p f I₂) (repeated_V p f «V») ≡ record {
  T = (joined_T p).write (beside p.t ((matrix_T p).read I₁.T) (spread f ((right_T p f).read I₂.T)));
  D = (joined_D p).write (blocks p.t ((matrix_D p).read I₁.D) (spread f ((sent_V p f).read «V»)) (spread_both f ((right_D p f).read I₂.D)));
}
unfolding joined_instance
joined_once p General I₁ I₂ «V» = refl
joined_once p Fresh I₁ I₂ «V» = ap₂ (λ (t : List ℕ) (d : List ℤ). record { T = t; D = d })
    (table_cong 0 p.n (2 * p.t) _ _ (λ i j hi hj.
    beside_cong p.t ((matrix_T p).read I₁.T) ((matrix_T p).read I₁.T) ((matrix_T p).read (repeated_instance p Fresh I₂).T) (spread Fresh ((right_T p Fresh).read I₂.T)) word i j hj
    (λ j h. refl) (λ j h. ap (λ (x : ℕ). word (pos x)) (entry-table 0 p.n p.t _ i j hi h))))
    (table_cong (pos 0) (2 * p.t) (2 * p.t) _ _
    (blocks_cong p.t ((matrix_D p).read I₁.D) ((matrix_D p).read I₁.D) ((matrix_V p).read (repeated_V p Fresh «V»)) (spread Fresh ((sent_V p Fresh).read «V»)) ((matrix_D p).read (repeated_instance p Fresh I₂).D) (spread_both Fresh ((right_D p Fresh).read I₂.D))
    (λ i j hi hj. refl) (λ i j hi hj. entry-table (pos 0) p.t p.t _ i j hi hj) (λ i j hi hj. entry-table (pos 0) p.t p.t _ i j hi hj)))
