-- How a matrix is put into a list by columns, one entry after the other in the order of its rows.
use mathlib.Core.Path.{◌≡◌, sym, ◌∙◌, ap, ap₂, subst₂}
use mathlib.Core.Logic.{⊎_elim}
use mathlib.Core.List.{List}
use Prim.Native.Nat.{ℕ, ◌+◌, ◌*◌, ◌/◌, ◌%◌, ◌<◌, ◌≤◌}
use native.Mathlib.Omega.{arith}
use native.Mathlib.Nat.{eq-or-lt_of_le}
use lib.Arith.{digits_div, digits_mod}
use lib.ListN.{length, get_or, set}
use lib.Seq.{get_or-set_same, get_or-set_other}
use lib.IntN.{ℤ, pos, nat_abs}
use Rattle.matrices.specs.Matrices.{Matrix}
use Rattle.small_rows.specs.Small.{Within}
use Rattle.small_rows.specs.Columns.{Columns}
use Rattle.small_rows.proofs.Small.{within-set}

-- a place tells its row and its column
pub same_cell : (c q r q' r' : ℕ) → r < c → r' < c → q * c + r ≡ q' * c + r' → (q ≡ q') × (r ≡ r')
same_cell c q r q' r' h h' e = (
  sym (digits_div q h) ∙ ap (λ (x : ℕ). x / c) e ∙ digits_div q' h',
  sym (digits_mod q h) ∙ ap (λ (x : ℕ). x % c) e ∙ digits_mod q' h',
)

module _ (h stride cols : ℕ) (X : Matrix) (p : List ℤ) where
  pub columns-none : Within h p → Columns h stride cols X 0 p
  columns-none small = record { small = small; cells = λ i j hi hj l. absurd (omega arith) }

  -- one entry more, that of row k and column c
  pub columns-more : (k c : ℕ) (v : ℤ) → k < stride → c < cols → c * stride + k < length p → nat_abs v ≤ h → v ≡ X k c
      → Columns h stride cols X (k * cols + c) p → Columns h stride cols X (k * cols + (c + 1)) (set p (c * stride + k) v)
  columns-more k c v hk hc room small e w = record {
    small = within-set h p (c * stride + k) v room small w.small;
    cells = λ i j hi hj l. ⊎_elim
        (λ (s : i * cols + j ≡ k * cols + c).
        let t = same_cell cols i j k c hj hc s in
        subst₂ (λ (i j : ℕ). get_or (set p (c * stride + k) v) (j * stride + i) (pos 0) ≡ X i j) (sym t.0) (sym t.1)
        (get_or-set_same p (c * stride + k) v (pos 0) room ∙ e))
        (λ (s : i * cols + j < k * cols + c).
        get_or-set_other p (c * stride + k) (j * stride + i) v (pos 0)
        (λ q. let t = same_cell stride j i c k hi hk q in
        let u : i * cols + j ≡ k * cols + c = ap₂ (λ (a b : ℕ). a * cols + b) t.1 t.0 in
        omega arith)
        ∙ w.cells i j hi hj s)
        (eq-or-lt_of_le (omega arith));
  }
