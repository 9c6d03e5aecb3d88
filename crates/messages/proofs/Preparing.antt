-- Message: what its products ask of a proper call, and what they leave together.
use mathlib.Core.Path.{◌≡◌, refl, sym, ◌∙◌, ap, ap₂}
use mathlib.Core.List.{List}
use Prim.Native.Nat.{ℕ, ◌+◌, ◌*◌, ◌^◌, ◌<◌, ◌≤◌}
use native.Mathlib.Omega.{arith}
use native.Mathlib.Nat.{le_trans}
use lib.IntN.{ℤ, pos}
use lib.ListN.{length}
use Rattle.integers.specs.Residues.{word}
use Rattle.matrices.specs.Matrices.{Matrix, product, transposed, gram, sizes, Agree}
use Rattle.matrices.specs.Tables.{table, signed, unsigned}
use Rattle.matrices.specs.Triangles.{triangular, lower}
use Rattle.matrices.proofs.Matrices.{product_cong}
use Rattle.matrices.proofs.Tables.{length-table, entry-table, table_cong}
use Rattle.matrices.proofs.Triangles.{lower_cong}
use Rattle.settings.specs.declared.Setting.{Setting}
use Rattle.settings.specs.declared.acceptance.AcceptedSetting.{AcceptedSetting}
use Rattle.settings.specs.Accepted.{parameters_in}
use Rattle.settings.specs.Settings.{Parameters, k_of, h_of}
use Rattle.digits.specs.Bases.{AllInReach}
use Rattle.small_rows.specs.Small.{Within, SmallMatrix, SmallBlocks}
use Rattle.small_rows.proofs.Small.{small-blocks}
use Rattle.lova.specs.declared.Profile.{Profile}
use Rattle.lova.specs.declared.Profile.TheVariants.{General}
use Rattle.lova.specs.Stored.{Prepared, right_for, columns_of}
use Rattle.lova.specs.Calls.{Rebuilt, ProperMessage}
use Rattle.lova.specs.Fold.{beside, digit_witness}
use Rattle.lova.specs.Message.{prepared_as, prepared_in}
use Rattle.lova.proofs.Gadget.{digit_size}
use Rattle.lova.proofs.NeverWraps.{columns_fit, entries_in_reach}
use Rattle.lova.proofs.Tests.{bounded-everywhere}
use Rattle.lova.proofs.Rebuilding.{rebuilt-accepted, rebuilt-is}
use Rattle.lova.proofs.Widths.{columns-are, wide_of, wide-few}

-- the products with a matrix as it is stored are those with the matrix itself
module _ (m w : ℕ) (X : Matrix) (S~ : List ℤ) (is : S~ ≡ table m w X) where
  reads : Agree m w (signed w S~) X
  reads i j hi hj = rw is (entry-table (pos 0) m w X i j hi hj)

  stored-commitment : (n : ℕ) (A : List ℕ) → table n w (λ i j. word (product m (unsigned m A) (signed w S~) i j)) ≡ table n w (λ i j. word (product m (unsigned m A) X i j))
  stored-commitment n A = table_cong 0 n w _ _ (λ i j hi hj. ap word (product_cong m (unsigned m A) (unsigned m A) (signed w S~) X i j (λ k h. refl) (λ k h. reads k j h hj)))

  stored-gram : lower w (gram m (signed w S~)) ≡ lower w (gram m X)
  stored-gram = lower_cong w _ _ (λ i j hi hj. product_cong m (transposed (signed w S~)) (transposed X) (signed w S~) X i j (λ k h. reads k i h hi) (λ k h. reads k j h hj))

-- `right` is what the profile gives: the columns of the second witness
module _ (accepted : AcceptedSetting) (f : Profile) (right : ℕ) (is : right ≡ right_for accepted.setting.t f) where
  abbrev s : Setting
  s = accepted.setting

  whole : Rebuilt s
  whole = rebuilt-is accepted

  -- the five numbers of the setting, and how wide the code makes the digit witness
  abbrev q : Parameters
  q = parameters_in accepted

  abbrev wide : ℕ
  wide = (s.t + right) * s.k

  sent : (s.t + right) * k_of q ≡ columns_of q f
  sent = ap (λ (r : ℕ). (s.t + r) * k_of q) is ∙ sym (columns-are q f)

  module _ (A : List ℕ) (S₁ S₂ : List ℤ) (out : Prepared) (proper : ProperMessage q f A S₁ S₂ out) where
    -- the digit witness of both, with so many columns of the second
    abbrev digits : ℕ → Matrix
    digits r = digit_witness q (beside s.t (signed s.t S₁) (signed r S₂))

    abbrev X : Matrix
    X = digits (right_for s.t f)

    pub cross-lengths : (length S₁ ≡ s.m * s.t) × (length S₂ ≡ s.m * right) × (length out.message.«V» ≡ s.t * right)
    cross-lengths = let l = proper.lengths in rw is (l.1, l.2, l.3.0.0)

    pub cross-sizes : (i j : ℕ) → i < s.t → j < right → sizes s.m (transposed (signed s.t S₁)) (signed right S₂) i j ≤ 2 ^ 62
    cross-sizes = rw is (columns_fit q (rebuilt-accepted s whole) General f S₁ S₂ proper.columns.0 proper.columns.1)

    pub witness-lengths : (length S₁ ≡ s.m * s.t) × (length S₂ ≡ s.m * right) × (length out.S~ ≡ s.m * ((s.t + right) * k_of q))
    witness-lengths = (cross-lengths.0, cross-lengths.1, rw sent proper.lengths.3.1)

    pub witness-reach : AllInReach s.b S₁ × AllInReach s.b S₂
    witness-reach =
        let acc = rebuilt-accepted s whole in
        (entries_in_reach q acc General S₁ proper.lengths.1 proper.columns.0, entries_in_reach q acc f S₂ proper.lengths.2 proper.columns.1)

    -- with the digit witness written
    module _ (S~ : List ℤ) (made : S~ ≡ table s.m ((s.t + right) * k_of q) (digits right)) where
      written : S~ ≡ table s.m (columns_of q f) X
      written = made ∙ ap₂ (λ (w r : ℕ). table s.m w (digits r)) sent is

      long : length S~ ≡ s.m * columns_of q f
      long = ap length written ∙ length-table s.m (columns_of q f) X

      pub commitment-lengths : (length A ≡ s.n * s.m) × (length S~ ≡ s.m * wide) × (length out.message.T~ ≡ s.n * wide)
      commitment-lengths = let l = proper.lengths in rw (wide_of s whole f right is) (l.0, long, l.3.0.1)

      small : Within 1024 S~
      small i = le_trans
          (bounded-everywhere s.m (columns_of q f) (h_of q) S~ long (λ i j hi hj. rw (written, entry-table (pos 0) s.m (columns_of q f) X i j hi hj) (digit_size q _ i j (rebuilt-accepted s whole).b-low)) i)
          (rebuilt-accepted s whole).digits-small

      pub gram-asks : SmallMatrix 32767 s.m wide S~ × SmallBlocks wide S~ × (s.m ≤ 4096) × (length out.message.D~ ≡ triangular wide)
      gram-asks =
          let w = wide_of s whole f right is in (
            record { long = rw w long; few = wide-few s whole f right is; small = λ i. omega (arith, small i) },
            small-blocks 1024 wide S~ (omega arith) small,
            (rebuilt-accepted s whole).m-high,
            rw w proper.lengths.3.0.2,
          )

      pub prepared-is : («V» : List ℤ) (T~ : List ℕ) (D~ : List ℤ)
          → «V» ≡ table s.t right (product s.m (transposed (signed s.t S₁)) (signed right S₂))
          → T~ ≡ table s.n wide (λ i j. word (product s.m (unsigned s.m A) (signed wide S~) i j))
          → D~ ≡ lower wide (gram s.m (signed wide S~))
          → ◌≡◌ {A = Prepared} (record { message = record { «V» = «V»; T~ = T~; D~ = D~ }; S~ = S~ }) (prepared_in q f A S₁ S₂)
      unfolding prepared_as
      prepared-is «V» T~ D~ v t d = whole_of crosses commitments triangles written
        where
          crosses : «V» ≡ table s.t (right_for s.t f) (product s.m (transposed (signed s.t S₁)) (signed (right_for s.t f) S₂))
          crosses = v ∙ ap (λ (r : ℕ). table s.t r (product s.m (transposed (signed s.t S₁)) (signed r S₂))) is

          commitments : T~ ≡ table s.n (columns_of q f) (λ i j. word (product s.m (unsigned s.m A) X i j))
          commitments =
              t ∙ ap (λ (w : ℕ). table s.n w (λ i j. word (product s.m (unsigned s.m A) (signed w S~) i j))) (wide_of s whole f right is)
              ∙ stored-commitment s.m (columns_of q f) X S~ written s.n A

          triangles : D~ ≡ lower (columns_of q f) (gram s.m X)
          triangles = d ∙ ap (λ (w : ℕ). lower w (gram s.m (signed w S~))) (wide_of s whole f right is) ∙ stored-gram s.m (columns_of q f) X S~ written

          whole_of : {v₁ v₂ d₁ d₂ s₁ s₂ : List ℤ} {t₁ t₂ : List ℕ} → v₁ ≡ v₂ → t₁ ≡ t₂ → d₁ ≡ d₂ → s₁ ≡ s₂
              → ◌≡◌ {A = Prepared} (record { message = record { «V» = v₁; T~ = t₁; D~ = d₁ }; S~ = s₁ }) (record { message = record { «V» = v₂; T~ = t₂; D~ = d₂ }; S~ = s₂ })
          whole_of a b c e = cc
