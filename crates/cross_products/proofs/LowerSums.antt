-- Products summed in a lower triangle: what a multiple of a row's first numbers makes, what one row adds, and all rows together.
use mathlib.Core.Path.{◌≡◌, refl, ◌∙◌, ap, ap₂}
use mathlib.Core.List.{List}
use Prim.Native.Nat.{ℕ, ◌+◌, ◌<◌}
use native.Mathlib.Omega.{arith}
use lib.IntN.{ℤ, pos, nat_abs, ◌+ℤ◌, ◌*ℤ◌}
use lib.ListN.{length, get_or, take}
use lib.Seq.{get_or-take, length-take-le}
use Rattle.integers.specs.Lists.{build}
use Rattle.integers.proofs.Lists.{is-build, build_cong}
use Rattle.matrices.specs.Matrices.{gram}
use Rattle.matrices.specs.Tables.{signed}
use Rattle.matrices.specs.Triangles.{lower, mirrored, mirrored_plus}
use Rattle.matrices.proofs.Triangles.{lower_cong, mirrored-gram}
use Rattle.cross_products.specs.Rows.{outer, Small, RowRoom}
use Rattle.cross_products.proofs.Sums.{crossed_first, crossed_one, first-crossed, crossed-more}

-- the numbers of y up to number i, lent as a part
module _ (y : List ℤ) (i : ℕ) where
  pub front_long : i < length y → length (take (i + 1) y) ≡ i + 1
  front_long h = length-take-le (i + 1) y (omega arith)

  -- a multiple of them, where the machine has u for number i of y: row i of the triangle, which has k numbers
  module _ (u : ℤ) (e : u ≡ get_or y i (pos 0)) (k : ℕ) (same : k ≡ i + 1) where
    front-product : (j : ℕ) → j < i + 1 → u *ℤ get_or (take (i + 1) y) j (pos 0) ≡ outer y y i j
    front-product j h = ap₂ ◌*ℤ◌ e (get_or-take (i + 1) y j (pos 0) h)

    -- it is written
    pub front-small : (n : ℕ) → i < n → Small n (outer y y i) → Small k (λ j. u *ℤ get_or (take (i + 1) y) j (pos 0))
    front-small n hi small j h =
        let b : j < i + 1 = omega arith in
        rw (front-product j b) (small j (omega arith))

    pub front-written : (ys : List ℤ) → ys ≡ build k (λ j. u *ℤ get_or (take (i + 1) y) j (pos 0)) → ys ≡ build (i + 1) (outer y y i)
    front-written ys is = is ∙ ap (λ (n : ℕ). build n (λ j. u *ℤ get_or (take (i + 1) y) j (pos 0))) same ∙ build_cong (i + 1) _ _ front-product

    -- or added to what stands there
    module _ (row : List ℤ) (long : length row ≡ k) where
      pub front-room : RowRoom (i + 1) row (λ j. nat_abs (outer y y i j)) → RowRoom (length row) row (λ j. nat_abs (u *ℤ get_or (take (i + 1) y) j (pos 0)))
      front-room room j h =
          let b : j < i + 1 = omega arith in
          rw (front-product j b) (room j b)

      pub front-added : (ys : List ℤ) → length ys ≡ length row
          → ((j : ℕ) → j < length row → get_or ys j (pos 0) ≡ get_or row j (pos 0) +ℤ u *ℤ get_or (take (i + 1) y) j (pos 0))
          → ys ≡ build (i + 1) (λ j. get_or row j (pos 0) +ℤ outer y y i j)
      front-added ys equal done = is-build (i + 1) (λ j. get_or row j (pos 0) +ℤ outer y y i j) (pos 0) ys (equal ∙ long ∙ same)
          (λ j l. done j (omega arith) ∙ ap (λ (z : ℤ). get_or row j (pos 0) +ℤ z) (front-product j l))

-- the Gram matrix of the first rows of s, with the first row and with one more
module _ (cols : ℕ) (s d : List ℤ) where
  pub lower-first : d ≡ lower cols (crossed_first cols cols s s) → d ≡ lower cols (gram 1 (signed cols s))
  lower-first e = e ∙ lower_cong cols (crossed_first cols cols s s) (gram 1 (signed cols s)) (first-crossed cols cols s s)

  pub lower-next : (k : ℕ) (d' : List ℤ) → d ≡ lower cols (gram k (signed cols s)) → d' ≡ lower cols (mirrored_plus d (crossed_one cols cols s s k))
      → d' ≡ lower cols (gram (k + 1) (signed cols s))
  lower-next k d' w e =
      e ∙ lower_cong cols (mirrored_plus d (crossed_one cols cols s s k)) (gram (k + 1) (signed cols s))
      (crossed-more cols cols s s k (mirrored d) (mirrored-gram k cols (signed cols s) d w) (mirrored_plus d (crossed_one cols cols s s k)) (λ i j hi hj. refl))
