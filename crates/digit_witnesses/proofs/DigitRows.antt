-- Rows of a digit witness, written in two parts, and the witness written row by row.
use mathlib.Core.Path.{◌≡◌, refl, sym, ◌∙◌, ap, subst}
use mathlib.Core.Logic.{⊎_elim}
use mathlib.Core.List.{List, ◌++◌}
use Prim.Native.Nat.{ℕ, ◌+◌, ◌*◌, ◌-◌, ◌/◌, ◌%◌, ◌<◌, ◌≤◌}
use native.Mathlib.Omega.{arith}
use native.Mathlib.Nat.{div-lt_iff_lt-mul, mul-le-mul_right}
use lib.IntN.{ℤ, pos}
use lib.ListN.{length, get_or, take, drop, length-append, get_or-append}
use lib.Seq.{get_or-append-add}
use Rattle.integers.specs.Lists.{build}
use Rattle.integers.proofs.Tests.{le_or_lt}
use Rattle.matrices.specs.Matrices.{Matrix}
use Rattle.matrices.specs.Tables.{signed}
use Rattle.matrices.proofs.Tables.{TableTo, row-long, row_at, table-part-of}
use Rattle.settings.specs.Settings.{Parameters, k_of, NOf}
use Rattle.digits.specs.declared.Base.{Base}
use Rattle.digits.specs.Bases.{base_of, IsBase, AllInReach}
use Rattle.digits.specs.Digits.{digit_of, row_digits}
use Rattle.digits.proofs.Bases.{is_base, part_in_reach}
use Rattle.digits.proofs.Rows.{digit_at}
use Rattle.lova.specs.Fold.{beside, digit_witness}
use Rattle.lova.proofs.Blocks.{beside-left, beside-right}

-- with as many columns on the right as on the left the digit witness has N columns, and with fewer no more than N
both-wide : (p : Parameters) → (p.t + p.t) * k_of p ≡ NOf p
both-wide p = omega arith

pub wide_high : (p : Parameters) (right : ℕ) → right ≤ p.t → (p.t + right) * k_of p ≤ NOf p
wide_high p right h = rw (← both-wide p) (mul-le-mul_right (k_of p) (omega arith))

-- row i of a matrix, lent as a part of it
abbrev pub row_of : ℕ → List ℤ → ℕ → List ℤ
row_of cols S i = take (i * cols + cols - i * cols) (drop (i * cols) S)

-- the rows are in reach of the base of b that `Base::new` gave, and the digits to it are those to b
module _ (b : ℕ) (low : 2 ≤ b) (high : b ≤ 65535) (base : Base) (made : base ≡ base_of b) where
  pub rows_in_reach : (t right i : ℕ) (S₁ S₂ : List ℤ) → AllInReach b S₁ → AllInReach b S₂
      → IsBase base × AllInReach base.b (row_of t S₁ i) × AllInReach base.b (row_of right S₂ i)
  rows_in_reach t right i S₁ S₂ reach₁ reach₂ =
      subst (λ (x : Base). IsBase x × AllInReach x.b (row_of t S₁ i) × AllInReach x.b (row_of right S₂ i)) (sym made) (
        is_base b low (omega arith),
        part_in_reach b (i * t) (i * t + t - i * t) S₁ reach₁,
        part_in_reach b (i * right) (i * right + right - i * right) S₂ reach₂,
      )

  pub to_the_base : (t right i k : ℕ) (S₁ S₂ : List ℤ) → row_digits base.b k (row_of t S₁ i ++ row_of right S₂ i) ≡ row_digits b k (row_of t S₁ i ++ row_of right S₂ i)
  to_the_base t right i k S₁ S₂ = ap (λ (x : Base). row_digits x.b k (row_of t S₁ i ++ row_of right S₂ i)) made

-- the digit witness of [S1 S2], where S2 has so many columns
abbrev pub digits_of_both : Parameters → ℕ → List ℤ → List ℤ → Matrix
digits_of_both p right S₁ S₂ = digit_witness p (beside p.t (signed p.t S₁) (signed right S₂))

-- row i of it, with the number of digits that a setting has
module _ (p : Parameters) (right k : ℕ) (S₁ S₂ : List ℤ) (is-k : k ≡ k_of p)
    (size₁ : length S₁ ≡ p.m * p.t) (size₂ : length S₂ ≡ p.m * right) (i : ℕ) (hi : i < p.m) where
  -- how many columns it has
  abbrev pub wide : ℕ
  wide = (p.t + right) * k

  -- row i of [S1 S2]
  abbrev both : List ℤ
  both = row_of p.t S₁ i ++ row_of right S₂ i

  left-long : length (row_of p.t S₁ i) ≡ p.t
  left-long = row-long p.m p.t i S₁ size₁ hi

  right-long : length (row_of right S₂ i) ≡ right
  right-long = row-long p.m right i S₂ size₂ hi

  both_long : length both ≡ p.t + right
  both_long = length-append (row_of p.t S₁ i) (row_of right S₂ i) ∙ omega (arith, left-long, right-long)

  both_entry : (j : ℕ) → j < p.t + right → get_or both j (pos 0) ≡ beside p.t (signed p.t S₁) (signed right S₂) i j
  both_entry j h = ⊎_elim (λ (g : p.t ≤ j). past g) (λ (g : j < p.t). within g) (le_or_lt p.t j)
    where
      within : j < p.t → get_or both j (pos 0) ≡ beside p.t (signed p.t S₁) (signed right S₂) i j
      within g =
          get_or-append (row_of p.t S₁ i) (row_of right S₂ i) (pos 0) j (omega (arith, left-long))
          ∙ row_at (pos 0) p.t i S₁ j g
          ∙ sym (beside-left p.t (signed p.t S₁) (signed right S₂) i j g)

      past : p.t ≤ j → get_or both j (pos 0) ≡ beside p.t (signed p.t S₁) (signed right S₂) i j
      past g =
          let at : j ≡ length (row_of p.t S₁ i) + (j - p.t) = omega (arith, left-long) in
          ap (λ (x : ℕ). get_or both x (pos 0)) at
          ∙ get_or-append-add (row_of p.t S₁ i) (row_of right S₂ i) (j - p.t) (pos 0)
          ∙ row_at (pos 0) right i S₂ (j - p.t) (omega arith)
          ∙ sym (beside-right p.t (signed p.t S₁) (signed right S₂) i j g)

  -- the digit in column c
  digit_is : (c : ℕ) → c < wide → digit_at p.b k both c ≡ digits_of_both p right S₁ S₂ i c
  unfolding digit_witness
  digit_is c h = rw is-k (ap (λ (z : ℤ). digit_of p.b z (c % k_of p)) (both_entry (c / k_of p) entry))
    where
      entry : c / k_of p < p.t + right
      entry = (div-lt_iff_lt-mul {k = k_of p} (omega arith)).1 (rw is-k at h)

  -- the row has room for the digits of both rows
  pub row_fits : (out : List ℤ) → length out ≡ p.m * wide
      → length (row_of wide out i) ≡ (length (row_of p.t S₁ i) + length (row_of right S₂ i)) * k
  row_fits out long = rw (row-long p.m wide i out long hi, left-long, right-long) refl

  -- one row more of the digit witness
  pub row_written : (out ys : List ℤ) → ys ≡ row_digits p.b k both
      → TableTo (pos 0) p.m wide (digits_of_both p right S₁ S₂) out (i * wide)
      → TableTo (pos 0) p.m wide (digits_of_both p right S₁ S₂)
      (take (i * wide) out ++ (ys ++ drop (i * wide + wide - i * wide) (drop (i * wide) out))) ((i + 1) * wide)
  row_written out ys e w =
      table-part-of (pos 0) p.m wide (digits_of_both p right S₁ S₂) out i ys (digit_at p.b k both) hi
      (e ∙ ap (λ (n : ℕ). build (n * k) (digit_at p.b k both)) both_long) digit_is w
