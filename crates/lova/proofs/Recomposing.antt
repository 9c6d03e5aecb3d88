-- Recomposition and the digit rule: the digits of two short witnesses stand for them, and digits that follow the rule are those of what
-- they stand for. In either profile.
use mathlib.Core.Path.{◌≡◌, refl, sym, ◌∙◌, ap, ap₂}
use mathlib.Core.Logic.{⊎_elim}
use mathlib.Core.List.{List}
use Prim.Native.Nat.{ℕ, ◌+◌, ◌*◌, ◌-◌, ◌/◌, ◌%◌, ◌<◌, ◌≤◌}
use native.Mathlib.Omega.{arith}
use native.Mathlib.Nat.{le_trans, div-lt_iff_lt-mul}
use lib.IntN.{ℤ, pos, nat_abs}
use Rattle.integers.proofs.Sums.{sum_ℕ_cong}
use Rattle.integers.proofs.Tests.{le_or_lt}
use Rattle.matrices.specs.Matrices.{Matrix, product, squared_length, Agree}
use Rattle.matrices.proofs.Matrices.{product_cong}
use Rattle.matrices.proofs.Tables.{entry-table, table_of}
use Rattle.matrices.proofs.Bounds.{entry-squared}
use Rattle.settings.specs.Settings.{Parameters, k_of}
use Rattle.settings.proofs.Accepted.{Accepted}
use Rattle.digits.specs.Digits.{digit_of}
use Rattle.lova.specs.declared.Profile.{Profile}
use Rattle.lova.specs.Stored.{Witnesses, matrix_S, right_of, columns_of, right_S, sent_S~}
use Rattle.lova.specs.Calls.{Fits, Short, ShortRight, ShortRecomposed, FollowsRule}
use Rattle.lova.specs.Fold.{beside, digit_witness, gadget}
use Rattle.lova.specs.Recompose.{recomposed, witnesses_of}
use Rattle.lova.proofs.Blocks.{beside-all, beside-left, beside-right}
use Rattle.lova.proofs.Gadget.{recomposes}
use Rattle.lova.proofs.Widths.{columns-are}

-- equal columns have equal lengths
pub length_cong : (m : ℕ) (X Y : Matrix) (i j : ℕ) → ((r : ℕ) → r < m → X r i ≡ Y r j) → squared_length m X i ≡ squared_length m Y j
length_cong m X Y i j e = sum_ℕ_cong m _ _ (λ r h. ap (λ (z : ℤ). nat_abs z * nat_abs z) (e r h))

module _ (p : Parameters) (f : Profile) where
  -- the column of [S1 S2], or of [S1 v], that a digit's column belongs to
  column-of : (c : ℕ) → 1 ≤ k_of p → c < columns_of p f → c / k_of p < p.t + right_of p f
  column-of c some h = (div-lt_iff_lt-mul some).1 (rw (← columns-are p f) h)

  -- digits depend on the matrix's entries alone
  digits_cong : (X Y : Matrix) → Agree p.m (p.t + right_of p f) X Y → Agree p.m (columns_of p f) (digit_witness p X) (digit_witness p Y)
  unfolding digit_witness
  digits_cong X Y e i c hi hc = ap (λ (z : ℤ). digit_of p.b z (c % k_of p)) (e i (c / k_of p) hi (column-of c (omega arith) hc))

  module _ (S₁ S₂ : List ℤ) where
    -- [S1 S2], or [S1 v], and its digit witness as it is stored
    abbrev pub W : Matrix
    W = beside p.t ((matrix_S p).read S₁) ((right_S p f).read S₂)

    abbrev pub stored : List ℤ
    stored = (sent_S~ p f).write (digit_witness p W)

    module _ (acc : Accepted p) (short₁ : Short p S₁) (short₂ : ShortRight p f S₂) where
      -- the digit witness of short witnesses stands for them: S~ G is [S1 S2], or [S1 v]
      pub stands_for : Agree p.m (p.t + right_of p f) (product (columns_of p f) (digit_witness p W) (gadget p)) W
      stands_for i j hi hj =
          ap (λ (n : ℕ). product n (digit_witness p W) (gadget p) i j) (columns-are p f)
          ∙ recomposes p (p.t + right_of p f) W i j acc.b-low acc.above hj
          (beside-all p.t ((matrix_S p).read S₁) ((right_S p f).read S₂) (λ z. nat_abs z * nat_abs z ≤ p.bound) (right_of p f) i j hj
          (λ j l. le_trans (entry-squared p.m ((matrix_S p).read S₁) i j hi) (short₁ j l))
          (λ j l. le_trans (entry-squared p.m ((right_S p f).read S₂) i j hi) (short₂ j l)))

      -- so it does as it is stored
      stored_for : Agree p.m (p.t + right_of p f) (recomposed p f stored) W
      stored_for i j hi hj =
          product_cong (columns_of p f) ((sent_S~ p f).read stored) (digit_witness p W) (gadget p) (gadget p) i j
          (λ c h. entry-table (pos 0) p.m (columns_of p f) (digit_witness p W) i c hi h) (λ c h. refl)
          ∙ stands_for i j hi hj

      left-column : (i j : ℕ) → i < p.m → j < p.t → recomposed p f stored i j ≡ (matrix_S p).read S₁ i j
      left-column i j hi hj = stored_for i j hi (omega arith) ∙ beside-left p.t ((matrix_S p).read S₁) ((right_S p f).read S₂) i j hj

      right-column : (i j : ℕ) → i < p.m → j < right_of p f → recomposed p f stored i (p.t + j) ≡ (right_S p f).read S₂ i j
      right-column i j hi hj =
          let back : p.t + j - p.t ≡ j = omega arith in
          stored_for i (p.t + j) hi (omega arith)
          ∙ beside-right p.t ((matrix_S p).read S₁) ((right_S p f).read S₂) i (p.t + j) (omega arith) ∙ ap ((right_S p f).read S₂ i) back

      -- and gives them back
      pub given_back : Fits (matrix_S p) S₁ → Fits (right_S p f) S₂ → witnesses_of p f stored ≡ record { S₁ = S₁; S₂ = S₂ }
      unfolding witnesses_of
      given_back fits₁ fits₂ = ap₂ (λ (x y : List ℤ). record { S₁ = x; S₂ = y })
          (sym (table_of (pos 0) p.m p.t _ S₁ fits₁ (λ i j hi hj. sym (left-column i j hi hj))))
          (sym (table_of (pos 0) p.m (right_of p f) _ S₂ fits₂ (λ i j hi hj. sym (right-column i j hi hj))))

      -- its columns are theirs, and are short
      pub short-again : ShortRecomposed p f stored
      short-again j hj = ⊎_elim
          (λ (l : p.t ≤ j).
          let at : j ≡ p.t + (j - p.t) = omega arith in
          let few : j - p.t < right_of p f = omega arith in
          rw (length_cong p.m (recomposed p f stored) ((right_S p f).read S₂) j (j - p.t)
          (λ i hi. ap (recomposed p f stored i) at ∙ right-column i (j - p.t) hi few)) (short₂ (j - p.t) few))
          (λ (l : j < p.t). rw (length_cong p.m (recomposed p f stored) ((matrix_S p).read S₁) j j (λ i hi. left-column i j hi l)) (short₁ j l))
          (le_or_lt p.t j)

      -- and it follows the rule
      pub rule_followed : FollowsRule p f stored
      rule_followed i c hi hc =
          digits_cong (recomposed p f stored) W stored_for i c hi hc
          ∙ sym (entry-table (pos 0) p.m (columns_of p f) (digit_witness p W) i c hi hc)

  -- ---- and nothing else passes

  module _ (S~ : List ℤ) where
    abbrev written : Witnesses
    written = witnesses_of p f S~

    left-written : Agree p.m p.t ((matrix_S p).read written.S₁) (recomposed p f S~)
    unfolding witnesses_of
    left-written i j hi hj = entry-table (pos 0) p.m p.t (recomposed p f S~) i j hi hj

    right-written : (i j : ℕ) → i < p.m → j < right_of p f → (right_S p f).read written.S₂ i j ≡ recomposed p f S~ i (p.t + j)
    unfolding witnesses_of
    right-written i j hi hj = entry-table (pos 0) p.m (right_of p f) (λ i j. recomposed p f S~ i (p.t + j)) i j hi hj

    -- the two witnesses that S~ stands for make up what it stands for
    halves : Agree p.m (p.t + right_of p f) (beside p.t ((matrix_S p).read written.S₁) ((right_S p f).read written.S₂)) (recomposed p f S~)
    halves i j hi hj = ⊎_elim
        (λ (l : p.t ≤ j).
        let at : p.t + (j - p.t) ≡ j = omega arith in
        beside-right p.t ((matrix_S p).read written.S₁) ((right_S p f).read written.S₂) i j l ∙ right-written i (j - p.t) hi (omega arith) ∙ ap (recomposed p f S~ i) at)
        (λ (l : j < p.t). beside-left p.t ((matrix_S p).read written.S₁) ((right_S p f).read written.S₂) i j l ∙ left-written i j hi l)
        (le_or_lt p.t j)

    -- they are short where its columns are
    pub short-left : ShortRecomposed p f S~ → Short p written.S₁
    short-left short j hj = rw (length_cong p.m ((matrix_S p).read written.S₁) (recomposed p f S~) j j (λ i hi. left-written i j hi hj)) (short j (omega arith))

    pub short-right : ShortRecomposed p f S~ → ShortRight p f written.S₂
    short-right short j hj =
        rw (length_cong p.m ((right_S p f).read written.S₂) (recomposed p f S~) j (p.t + j) (λ i hi. right-written i j hi hj)) (short (p.t + j) (omega arith))

    -- digits that follow the rule are the digit witness of the two witnesses that they stand for
    pub made_again : Fits (sent_S~ p f) S~ → FollowsRule p f S~ → S~ ≡ stored written.S₁ written.S₂
    made_again fits rule = table_of (pos 0) p.m (columns_of p f) _ S~ fits
        (λ i c hi hc. sym (digits_cong (beside p.t ((matrix_S p).read written.S₁) ((right_S p f).read written.S₂)) (recomposed p f S~) halves i c hi hc ∙ rule i c hi hc))
