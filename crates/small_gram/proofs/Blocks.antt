-- The Gram matrix by blocks of 32 rows: what one block adds to a number and to a row, and all blocks together.
use mathlib.Core.Path.{◌≡◌, sym, ◌∙◌, ap, ap₂}
use mathlib.Core.List.{List}
use Prim.Native.Nat.{ℕ, ◌+◌, ◌*◌, ◌^◌, ◌<◌, ◌≤◌}
use native.Mathlib.Omega.{arith}
use native.Mathlib.Nat.{mul-le-mul, mul-le-mul_right}
use lib.Arith.{digits_lt}
use lib.ListN.{length, get_or, replicate, length-replicate, get_or-eq_default}
use lib.IntN.{ℤ, pos, nat_abs, ◌+ℤ◌, ◌*ℤ◌, zero-*ℤ, *ℤ-one, *ℤ_comm, one}
use mir.Syntax.{w32, w64}
use mir.Val.{SFits, to_z, of_z}
use mir.ValLaws.{to_z-of_z}
use Rattle.integers.proofs.Sizes.{nat_abs-*}
use Rattle.integers.proofs.Sums.{sum_cong, sum-split, sum-none_yet, sum_past, sum_ℕ_cong}
use Rattle.integers.proofs.Words.{Held}
use Rattle.matrices.specs.Matrices.{Matrix, gram, transposed}
use Rattle.matrices.specs.Tables.{signed}
use Rattle.matrices.specs.Triangles.{triangular, lower, mirrored, mirrored_plus}
use Rattle.matrices.proofs.Bounds.{product-bound}
use Rattle.matrices.proofs.Triangles.{LowerAdded, lower_row, lower-lent, lower-row-before}
use Rattle.matrices.proofs.Triangles.{is-lower, length-lower, lower_cong, mirrored_bounds, mirrored-gram}
use Rattle.small_rows.specs.Small.{Within, SmallBlocks}
use Rattle.small_rows.specs.Columns.{Columns}
use Rattle.small_rows.proofs.Small.{within_list, zeros}
use Rattle.dots.specs.Dots.{sizes_of}
use Rattle.dots.proofs.Trees.{dots-wide, dots-size}
use Rattle.small_gram.specs.Blocks.{block_of, BlockFits}

-- f times b is added to the number g, where the machine has v for b, the products of two columns: what that asks, and what it gives
pub record Turn (f g v b : ℤ) : Type 0 where
  pub fits : SFits w64 (to_z w32 (of_z w32 v))
  pub asks : nat_abs (to_z w64 (of_z w64 g)) + nat_abs (to_z w64 (of_z w64 f) *ℤ to_z w64 (of_z w64 (to_z w32 (of_z w32 v)))) < 2 ^ 63
  pub gives : {r : ℤ} → r ≡ to_z w64 (of_z w64 g) +ℤ to_z w64 (of_z w64 f) *ℤ to_z w64 (of_z w64 (to_z w32 (of_z w32 v))) → SFits w64 r
      → to_z w64 (of_z w64 r) ≡ g +ℤ to_z w64 (of_z w64 f) *ℤ b

pub turn-of : (p : List ℤ) (a b : ℕ) (f g v : ℤ) → sizes_of p p (a * 32) (b * 32) 32 < 2 ^ 31 → v ≡ block_of p a b → SFits w64 f → SFits w64 g
    → nat_abs f ≤ 2 ^ 20 → nat_abs g ≤ 2 ^ 61 → Turn f g v (block_of p a b)
turn-of p a b f g v few is ff fg hf hg = record {
  fits = wide.fits;
  asks = rw (to_z-of_z w64 g fg, to_z-of_z w64 f ff, wide.read, nat_abs-* f (block_of p a b)) (omega (arith, mul-le-mul hf small));
  gives = λ {r} e fr. to_z-of_z w64 r fr ∙ e ∙ ap₂ (λ (y z : ℤ). y +ℤ to_z w64 (of_z w64 f) *ℤ z) (to_z-of_z w64 g fg) wide.read;
}
  where
    wide : Held w64 (to_z w32 (of_z w32 v)) (block_of p a b)
    wide = dots-wide p p (a * 32) (b * 32) few is

    small : nat_abs (block_of p a b) ≤ 2 ^ 31
    small = omega (arith, dots-size p p (a * 32) (b * 32) 32)

-- a row of a triangle, lent while F is added to its rows, is within a bound where the triangle was
pub lent-within : (n : ℕ) (F : Matrix) (before : List ℤ) (i start : ℕ) (d : List ℤ) (hi : i < n) (w : LowerAdded n F before i start d) (M : ℕ)
    → Within M before → Within M (lower_row n F before i start d hi w)
lent-within n F before i start d hi w M small = within_list M (lower_row n F before i start d hi w) (λ j l.
    rw (lower-row-before n F before i start d hi w j (omega (arith, lower-lent n (mirrored_plus before F) i start d hi w.rows))) (small (start + j)))

once : (z : ℤ) → pos 1 *ℤ z ≡ z
unfolding one
once z = *ℤ_comm (pos 1) z ∙ *ℤ-one z

-- the sum over the blocks: before the first one, with one more, and at the end
module _ (s : List ℤ) (n : ℕ) where
  pub gram-none : (d : List ℤ) (l : ℕ) → l ≡ triangular n → d ≡ replicate l (pos 0) → d ≡ lower n (gram 0 (signed n s))
  gram-none d l h e = is-lower n (gram 0 (signed n s)) d (ap length e ∙ length-replicate l (pos 0) ∙ h)
      (λ i j hi hj. ap (λ (xs : List ℤ). get_or xs (triangular i + j) (pos 0)) e ∙ zeros l (triangular i + j) ∙ sym (sum-none_yet _))

  pub gram-more : (base : ℕ) (p d d' : List ℤ) → Columns 32767 32 n (λ i j. signed n s (base + i) j) (32 * n) p
      → d ≡ lower n (gram base (signed n s)) → d' ≡ lower n (mirrored_plus d (λ a b. pos 1 *ℤ block_of p a b)) → d' ≡ lower n (gram (base + 32) (signed n s))
  gram-more base p d d' c w u =
      u ∙ lower_cong n (mirrored_plus d (λ a b. pos 1 *ℤ block_of p a b)) (gram (base + 32) (signed n s)) (λ a b ha hb.
      ap₂ ◌+ℤ◌
      (mirrored-gram base n (signed n s) d w a b ha hb)
      (once (block_of p a b)
      ∙ sum_cong 32 _ (λ r. signed n s (base + r) a *ℤ signed n s (base + r) b)
      (λ r q. ap₂ ◌*ℤ◌ (c.cells r a q ha (digits_lt q ha)) (c.cells r b q hb (digits_lt q hb))))
      ∙ sym (sum-split base 32 (λ r. signed n s r a *ℤ signed n s r b)))

  -- and the sizes of its products are those of its rows
  pub block-fits : (base : ℕ) (p : List ℤ) → Columns 32767 32 n (λ i j. signed n s (base + i) j) (32 * n) p → SmallBlocks n s → BlockFits n p
  block-fits base p c few a b ha hb =
      rw (sum_ℕ_cong 32 (λ r. nat_abs (get_or p (a * 32 + r) (pos 0) *ℤ get_or p (b * 32 + r) (pos 0))) (λ r. nat_abs (signed n s (base + r) a *ℤ signed n s (base + r) b))
      (λ r q. ap₂ (λ (y z : ℤ). nat_abs (y *ℤ z)) (c.cells r a q ha (digits_lt q ha)) (c.cells r b q hb (digits_lt q hb))))
      (few base a b ha hb)

  -- 4096 rows of such numbers leave room for a block
  pub gram-room : (base : ℕ) (d : List ℤ) → base ≤ 4096 → Within 32767 s → d ≡ lower n (gram base (signed n s)) → Within (2 ^ 61) d
  gram-room base d h small w = within_list (2 ^ 61) d (λ x l. (mirrored_bounds n (2 ^ 61) d).0 entry-room x (omega (arith, long)))
    where
      long : length d ≡ triangular n
      long = ap length w ∙ length-lower n (gram base (signed n s))

      entry-room : (a b : ℕ) → a < n → b < n → nat_abs (mirrored d a b) ≤ 2 ^ 61
      entry-room a b ha hb =
          rw (mirrored-gram base n (signed n s) d w a b ha hb)
          (omega (
            arith,
            mul-le-mul_right (32767 * 32767) h,
            product-bound base 32767 32767 (transposed (signed n s)) (signed n s) a b (λ r q. small (r * n + a)) (λ r q. small (r * n + b)),
          ))

  -- rows past the last one are 0
  pub gram-all : (m base : ℕ) (d : List ℤ) → length s ≡ m * n → m ≤ base → d ≡ lower n (gram base (signed n s)) → d ≡ lower n (gram m (signed n s))
  gram-all m base d long h w =
      w ∙ lower_cong n (gram base (signed n s)) (gram m (signed n s)) (λ a b ha hb. sum_past m base (λ r. signed n s r a *ℤ signed n s r b) h
      (λ r k. ap (λ (z : ℤ). z *ℤ signed n s r b) (get_or-eq_default s (pos 0) (omega (arith, mul-le-mul_right n k))) ∙ zero-*ℤ (signed n s r b)))
