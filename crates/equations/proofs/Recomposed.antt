-- D~ and T~ times the gadget G as the verifier sums them up: by the k entries of a block, with the powers that it is handed.
use mathlib.Core.Path.{◌≡◌, refl, sym, ◌∙◌, ap, ap₂, subst}
use mathlib.Core.List.{List}
use Prim.Native.Nat.{ℕ, ◌+◌, ◌*◌, ◌^◌, ◌<◌, ◌≤◌}
use native.Mathlib.Omega.{arith}
use native.Mathlib.Nat.{pow-zero, pow-le-pow_right}
use lib.IntN.{ℤ, pos, ◌*ℤ◌}
use lib.ListN.{length, get_or}
use Rattle.integers.specs.Sums.{sum, sum_ℕ}
use Rattle.integers.proofs.Sums.{sum_cong, sum_ℕ_cong}
use Rattle.matrices.specs.Matrices.{Matrix, product, both_sides}
use Rattle.matrices.specs.Tables.{unsigned}
use Rattle.matrices.specs.Triangles.{triangular, mirrored}
use Rattle.matrices.proofs.Tables.{row_within}
use Rattle.matrices.proofs.Triangles.{triangular_mono, mirrored-symmetric, both_sides-symmetric}
use Rattle.settings.specs.declared.Setting.{Setting}
use Rattle.settings.specs.Settings.{Parameters, k_of, HOf, repunit, setting_refusal, powers_of}
use Rattle.settings.proofs.Accepted.{Accepted, accepted}
use Rattle.settings.proofs.Powers.{length_powers, powers_at, repunit-sum}
use Rattle.lova.specs.declared.Profile.{Profile}
use Rattle.lova.specs.Stored.{right_of, columns_of}
use Rattle.lova.specs.Calls.{Bounded}
use Rattle.lova.specs.Fold.{gadget}
use Rattle.lova.proofs.Gadget.{gadget-right, gadget-both}
use Rattle.lova.proofs.Rebuilding.{k-is, rebuilt-is, rebuilt-accepted}
use Rattle.lova.proofs.Tests.{mirrored-everywhere}
use Rattle.lova.proofs.Widths.{columns-are, right-high, wide_is, wide_high}
use Rattle.equations.specs.Blocks.{Small, row_term}
use Rattle.equations.specs.declared.parts.Parts.{Parts}
use Rattle.equations.specs.Parts.{across, numbers}
use Rattle.equations.proofs.RowSums.{block-rows}

-- the numbers and powers that a comparison goes by: those of p, which is accepted, and of the profile f
pub record Handed (p : Parameters) (f : Profile) (t right k columns : ℕ) (powers : List ℕ) : Type 0 where
  pub ok : setting_refusal p ≡ 0
  pub t-is : t ≡ p.t
  pub right_is : right ≡ right_of p f
  pub k-is : k ≡ k_of p
  pub wide_is : columns ≡ columns_of p f
  pub powers_are : powers ≡ powers_of p.b (k_of p)

pub handed : (x : Parts) → Handed (numbers x) x.profile x.accepted.now.setting.t x.right x.accepted.now.setting.k (across x * x.accepted.now.setting.k) x.accepted.now.setting.powers
handed x =
    let s = x.accepted.now.setting in
    let r = rebuilt-is x.accepted.now in record {
      ok = r.ok;
      t-is = refl;
      right_is = x.right_is;
      k-is = k-is s r;
      wide_is = ap (λ (y : ℕ). (s.t + y) * s.k) x.right_is ∙ wide_is s r x.profile;
      powers_are = ap (λ (y : Setting). y.powers) r.whole;
    }

-- the matrices that are compared have at most 32 columns, and T~ and D~ at most 512
pub narrow : (x : Parts) → across x ≤ 32
narrow x =
    let acc = rebuilt-accepted x.accepted.now.setting (rebuilt-is x.accepted.now) in
    omega (arith, x.right_is, right-high x.accepted.now.setting.t x.profile acc.t-low, acc.t-high)

pub few : (x : Parts) → across x * x.accepted.now.setting.k ≤ 512
few x = omega (arith, (handed x).wide_is, wide_high x.accepted.now.setting (rebuilt-is x.accepted.now) x.profile)

module _ {p : Parameters} {f : Profile} {t right k columns : ℕ} {powers : List ℕ} (h : Handed p f t right k columns powers) where
  facts : Accepted p
  facts = accepted p h.ok

  -- there are k powers, power q is b^q, and each is a signed word
  pub powers_long : k ≤ length powers
  powers_long = rw (h.powers_are, length_powers p.b (k_of p), h.k-is) facts.k-high

  power-is : (q : ℕ) → q < k_of p → get_or powers q 0 ≡ p.b ^ q
  power-is q l = ap (λ (x : List ℕ). get_or x q 0) h.powers_are ∙ powers_at p.b (k_of p) q l facts.k-high

  power-fits : (q : ℕ) → q < k → get_or powers q 0 < 2 ^ 63
  power-fits q l =
      let below : q < k_of p = rw (← h.k-is) l in
      rw (power-is q below) (omega (arith, pow-le-pow_right {n = p.b} (omega (arith, facts.b-low)) {i = q} {j = k_of p} (omega arith), facts.powers_fit))

  power-low : (q : ℕ) → q < k → 1 ≤ get_or powers q 0
  power-low q l = rw (power-is q (rw (← h.k-is) l)) (omega (arith, pow-le-pow_right {n = p.b} (omega (arith, facts.b-low)) {i = 0} {j = q} (omega arith), pow-zero p.b))

  -- and they add up to (b^k − 1)/(b − 1)
  powers_sum : sum_ℕ k (λ q. get_or powers q 0) ≡ repunit p.b (k_of p)
  powers_sum = ap (λ (n : ℕ). sum_ℕ n (λ q. get_or powers q 0)) h.k-is ∙ sum_ℕ_cong (k_of p) _ (λ q. p.b ^ q) power-is ∙ sym (repunit-sum p.b (k_of p) facts.b-low)

  -- block j of the t + right that T~ and D~ have
  below : (j : ℕ) → j < t + right → j < p.t + right_of p f
  below j l = subst (λ (n : ℕ). j < n) (ap₂ ◌+◌ h.t-is h.right_is) l

  -- its k columns are columns of T~ and D~
  block-below : (j : ℕ) → j < t + right → j * k + k ≤ columns
  block-below j l = rw (h.wide_is, columns-are p f, h.k-is) (row_within (p.t + right_of p f) (k_of p) j (below j l))

  -- the k rows of block i lie within D~
  pub rows-below : (i : ℕ) → i < t + right → triangular (i * k + k) ≤ triangular (columns_of p f)
  rows-below i l = triangular_mono (i * k + k) (columns_of p f) (subst (λ (n : ℕ). i * k + k ≤ n) h.wide_is (block-below i l))

  -- block j of row x lies within its list
  pub block_within : (rows x j : ℕ) → x < rows → j < t + right → x * columns + j * k + k ≤ rows * columns_of p f
  block_within rows x j hx hj = subst (λ (n : ℕ). x * columns + j * k + k ≤ rows * n) h.wide_is (omega (arith, row_within rows columns x hx, block-below j hj))

  -- X G: only the k rows of a column count
  by_powers_lem : (X : Matrix) (x j : ℕ) → j < t + right → product (columns_of p f) X (gadget p) x j ≡ sum (k_of p) (λ q. X x (j * k_of p + q) *ℤ pos (p.b ^ q))
  by_powers_lem X x j hj = ap (λ (n : ℕ). product n X (gadget p) x j) (columns-are p f) ∙ gadget-right p (p.t + right_of p f) X x j (below j hj)

  module _ (xs : List ℕ) (x j : ℕ) where
    -- the entries of block j of row x of T~ as they are stored, each times its power as it is stored
    abbrev term : ℕ → ℤ
    term q = pos (get_or xs (x * columns + j * k + q) 0) *ℤ pos (get_or powers q 0)

    block-term : (q : ℕ) → q < k_of p → term q ≡ unsigned (columns_of p f) xs x (j * k_of p + q) *ℤ pos (p.b ^ q)
    block-term q l =
        let place : x * columns + j * k + q ≡ x * columns_of p f + (j * k_of p + q) = rw (h.wide_is, h.k-is) (omega arith) in
        ap₂ (λ (y b : ℕ). pos (get_or xs y 0) *ℤ pos b) place (power-is q l)

    -- a block's terms add up to entry (x, j) of T~ G
    pub block-sum : j < t + right → sum k term ≡ product (columns_of p f) (unsigned (columns_of p f) xs) (gadget p) x j
    block-sum hj =
        ap (λ (n : ℕ). sum n term) h.k-is
        ∙ sum_cong (k_of p) term (λ q. unsigned (columns_of p f) xs x (j * k_of p + q) *ℤ pos (p.b ^ q)) block-term
        ∙ sym (by_powers_lem (unsigned (columns_of p f) xs) x j hj)

  module _ (D : List ℤ) where
    -- D~ within H: no sum over a block leaves a signed word
    pub small : length D ≡ triangular (columns_of p f) → Bounded (columns_of p f) (columns_of p f) (HOf p) (mirrored D) → Small D powers k
    small long within = record {
      long = powers_long;
      power-low = power-low;
      power-fits = power-fits;
      bound = HOf p;
      within = mirrored-everywhere (columns_of p f) (HOf p) D long within;
      fits = rw powers_sum (omega (arith, facts.width));
    }

    module _ (i j : ℕ) (hi : i < t + right) (hj : j ≤ i) where
      abbrev X : Matrix
      X = mirrored D

      abbrev blocks : ℕ
      blocks = p.t + right_of p f

      -- the rows' terms add up to entry (i, j) of G-transposed D~ G, D~ being symmetric
      pub by_rows : sum k (row_term D powers k i j) ≡ both_sides (columns_of p f) (gadget p) X i j
      by_rows =
          block-rows D powers k i j hj
          ∙ rw h.k-is (sum_cong (k_of p) _ (λ q. sum (k_of p) (λ u. X (j * k_of p + u) (i * k_of p + q) *ℤ pos (p.b ^ u)) *ℤ pos (p.b ^ q))
          (λ q l. ap₂ (λ (z : ℤ) (b : ℕ). z *ℤ pos b)
          (sum_cong (k_of p) _ _ (λ u m. ap₂ (λ (z : ℤ) (b : ℕ). z *ℤ pos b) (mirrored-symmetric D (i * k_of p + q) (j * k_of p + u)) (power-is u m))) (power-is q l)))
          ∙ sym (gadget-both p blocks X j i (below j (omega (arith, hi, hj))) (below i hi))
          ∙ both_sides-symmetric (blocks * k_of p) (gadget p) X j i (λ a b ha hb. mirrored-symmetric D a b)
          ∙ ap (λ (n : ℕ). both_sides n (gadget p) X i j) (sym (columns-are p f))
