-- A row of words times a matrix, by the rows of the matrix.
use mathlib.Core.Path.{◌≡◌, refl, sym, ◌∙◌, ap, ap₂}
use mathlib.Core.List.{List, [], ◌∷◌}
use Prim.Native.Nat.{ℕ, ◌+◌, ◌*◌, ◌-◌, ◌^◌, ◌<◌}
use native.Mathlib.Omega.{arith}
use native.Mathlib.Nat.{zero-mul, one-mul, add-mul}
use lib.Arith.{digits_lt}
use lib.ListN.{get_or, take, drop, replicate}
use lib.Seq.{get_or-take, get_or-drop}
use lib.IntN.{ℤ, pos, ◌+ℤ◌, ◌*ℤ◌, +ℤ_idl, +ℤ_idr}
use mir.Syntax.{w64}
use mir.Val.{SFits, to_z, of_z}
use mir.ValLaws.{to_z-of_z}
use Rattle.integers.specs.Lists.{build}
use Rattle.integers.specs.Sums.{sum}
use Rattle.integers.specs.Residues.{word}
use Rattle.integers.proofs.Lists.{build_cong, build_constant}
use Rattle.integers.proofs.Sums.{sum_cong, sum_step, sum-split}
use Rattle.integers.proofs.Residues.{residue-small}
use Rattle.matrices.specs.Matrices.{Matrix, product}
use Rattle.matrices.specs.Tables.{entries, unsigned, signed}
use Rattle.matrices.specs.Elements.{modulo}
use Rattle.matrices.proofs.Elements.{modulo-sums, next-on}
use Rattle.word_rows.specs.Rows.{row_times}

-- x y added to b by the machine, where the signed word y is read from a list
pub read-on : (b x : ℕ) (y : ℤ) {r : ℕ} → SFits w64 y → r ≡ word (pos b +ℤ pos x *ℤ to_z w64 (of_z w64 y)) → r ≡ word (pos b +ℤ pos x *ℤ y)
read-on b x y f e = e ∙ ap (λ (z : ℤ). word (pos b +ℤ pos x *ℤ z)) (to_z-of_z w64 y f)

-- 0 added to a word
pub nothing-on : (x : ℕ) (z : ℤ) → x < 2 ^ 64 → z ≡ pos 0 → word (pos x +ℤ z) ≡ x
nothing-on x z small none = ap (λ (y : ℤ). word (pos x +ℤ y)) none ∙ ap word (+ℤ_idr (pos x)) ∙ residue-small (2 ^ 64) x small

-- four products, added to b one after the other
module _ (b : ℕ) (f : ℕ → ℤ) where
  four-on : {p q r s : ℕ} → p ≡ word (pos b +ℤ f 0) → q ≡ word (pos p +ℤ f 1) → r ≡ word (pos q +ℤ f 2) → s ≡ word (pos r +ℤ f 3)
      → s ≡ word (pos b +ℤ sum 4 f)
  unfolding sum
  four-on e₀ e₁ e₂ e₃ = next-on modulo modulo-sums (pos b) 3 f (next-on modulo modulo-sums (pos b) 2 f (next-on modulo modulo-sums (pos b) 1 f (e₀ ∙ ap (λ (z : ℤ). word (pos b +ℤ z)) (sym (+ℤ_idl (f 0)))) e₁) e₂) e₃

-- an element of the part of a list that starts at b and has n elements
part_at : {A : Type 0} (d : A) (b n : ℕ) (xs : List A) (j : ℕ) → j < n → get_or (take (b + n - b) (drop b xs)) j d ≡ get_or xs (b + j) d
part_at d b n xs j h = get_or-take (b + n - b) (drop b xs) j d (omega arith) ∙ get_or-drop b xs j d

-- row i of a matrix, lent as a part of it, times Y: one entry, and all
pub times-entry : (m i j : ℕ) (a : List ℕ) (Y : Matrix)
    → word (row_times m (take (i * m + m - i * m) (drop (i * m) a)) Y j) ≡ word (product m (unsigned m a) Y i j)
times-entry m i j a Y = ap word (sum_cong m _ _ (λ k l. ap (λ (v : ℕ). pos v *ℤ Y k j) (part_at 0 (i * m) m a k l)))

pub times-row : (n m i : ℕ) (a : List ℕ) (Y : Matrix)
    → build n (λ j. word (row_times m (take (i * m + m - i * m) (drop (i * m) a)) Y j)) ≡ build n (λ j. word (product m (unsigned m a) Y i j))
times-row n m i a Y = build_cong n _ _ (λ j h. times-entry m i j a Y)

module _ {A : Type 0} (value : A → ℤ) (d : A) (cols : ℕ) (x : List ℕ) (ys : List A) (k j : ℕ) (h : j < cols) where
  -- one row of the second factor more, lent as a part of it
  pub times-one : row_times (k + 1) x (entries value d cols ys) j
      ≡ row_times k x (entries value d cols ys) j +ℤ pos (get_or x k 0) *ℤ value (get_or (take (k * cols + cols - k * cols) (drop (k * cols) ys)) j d)
  times-one = sum_step k (λ k. pos (get_or x k 0) *ℤ entries value d cols ys k j)
      ∙ ap (λ (v : A). row_times k x (entries value d cols ys) j +ℤ pos (get_or x k 0) *ℤ value v) (sym (part_at d (k * cols) cols ys j h))

  -- p words from word number `from` on times the p rows from row k on, each lent as a part
  part-times : (p from start : ℕ) → start ≡ k * cols
      → row_times p (take (from + p - from) (drop from x)) (entries value d cols (take (start + p * cols - start) (drop start ys))) j
      ≡ sum p (λ q. pos (get_or x (from + q) 0) *ℤ entries value d cols ys (k + q) j)
  part-times p from start s = sum_cong p _ _ (λ q l.
      let e : start + (q * cols + j) ≡ (k + q) * cols + j = omega (arith, add-mul k q cols) in
      ap₂ (λ (u : ℕ) (v : A). pos u *ℤ value v) (part_at 0 from p x q l)
      (part_at d start (p * cols) ys (q * cols + j) (digits_lt l h) ∙ ap (λ (n : ℕ). get_or ys n d) e))

  -- p words and rows more
  pub times_more : (p start : ℕ) → start ≡ k * cols → row_times (k + p) x (entries value d cols ys) j
      ≡ row_times k x (entries value d cols ys) j
      +ℤ row_times p (take (k + p - k) (drop k x)) (entries value d cols (take (start + p * cols - start) (drop start ys))) j
  times_more p start s = sum-split k p (λ k. pos (get_or x k 0) *ℤ entries value d cols ys k j)
      ∙ ap (λ (z : ℤ). row_times k x (entries value d cols ys) j +ℤ z) (sym (part-times p k start s))

  -- the same where x is row i of a matrix of m columns
  pub times-block : (m i p : ℕ) → product (k + p) (unsigned m x) (entries value d cols ys) i j
      ≡ product k (unsigned m x) (entries value d cols ys) i j
      +ℤ row_times p (take (i * m + k + p - (i * m + k)) (drop (i * m + k) x)) (entries value d cols (take (k * cols + p * cols - k * cols) (drop (k * cols) ys))) j
  times-block m i p = sum-split k p (λ k. pos (get_or x (i * m + k) 0) *ℤ entries value d cols ys k j)
      ∙ ap (λ (z : ℤ). product k (unsigned m x) (entries value d cols ys) i j +ℤ z) (sym (part-times p (i * m + k) (k * cols) refl
      ∙ sum_cong p _ _ (λ q l.
      let e : i * m + k + q ≡ i * m + (k + q) = omega arith in
      ap (λ (n : ℕ). pos (get_or x n 0) *ℤ entries value d cols ys (k + q) j) e)))

-- four products, of words with what stands in column j of four rows, added to b one after the other
pub times-four : (cols j b x₀ x₁ x₂ x₃ : ℕ) (y : List ℤ) {p q r s : ℕ} → p ≡ word (pos b +ℤ pos x₀ *ℤ get_or y j (pos 0))
    → q ≡ word (pos p +ℤ pos x₁ *ℤ get_or y (cols + j) (pos 0)) → r ≡ word (pos q +ℤ pos x₂ *ℤ get_or y (2 * cols + j) (pos 0))
    → s ≡ word (pos r +ℤ pos x₃ *ℤ get_or y (3 * cols + j) (pos 0)) → s ≡ word (pos b +ℤ row_times 4 (x₀ ∷ x₁ ∷ x₂ ∷ x₃ ∷ []) (signed cols y) j)
times-four cols j b x₀ x₁ x₂ x₃ y {p} e₀ e₁ e₂ e₃ =
    let none : 0 * cols + j ≡ j = omega (arith, zero-mul cols) in
    let one : 1 * cols + j ≡ cols + j = omega (arith, one-mul cols) in
    four-on b (λ k. pos (get_or (x₀ ∷ x₁ ∷ x₂ ∷ x₃ ∷ []) k 0) *ℤ signed cols y k j)
    (e₀ ∙ ap (λ (n : ℕ). word (pos b +ℤ pos x₀ *ℤ get_or y n (pos 0))) (sym none))
    (e₁ ∙ ap (λ (n : ℕ). word (pos p +ℤ pos x₁ *ℤ get_or y n (pos 0))) (sym one)) e₂ e₃

-- a row of four words is the list of them
pub times_words : (x : List ℕ) (Y : Matrix) (j : ℕ) → row_times 4 (get_or x 0 0 ∷ get_or x 1 0 ∷ get_or x 2 0 ∷ get_or x 3 0 ∷ []) Y j ≡ row_times 4 x Y j
unfolding sum
times_words x Y j = refl

-- a row of zeros is what a constant builds
pub zeros_built : (n : ℕ) (xs : List ℕ) → xs ≡ replicate n 0 → xs ≡ build n (λ i. 0)
zeros_built n xs e = e ∙ sym (build_constant n 0)
