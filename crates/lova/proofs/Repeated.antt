-- What is made of v, repeated, is what is made of v repeated.
use mathlib.Core.Path.{◌≡◌, refl, sym, ◌∙◌, ap, ap₂}
use mathlib.Core.Logic.{◌↔◌, ⊎_elim}
use mathlib.Core.List.{List}
use Prim.Native.Nat.{ℕ, ◌+◌, ◌*◌, ◌-◌, ◌/◌, ◌%◌, ◌<◌, ◌≤◌}
use native.Mathlib.Omega.{arith}
use native.Mathlib.Nat.{mod-lt, div-lt_iff_lt-mul, le-div_iff_mul-le, mul-le-mul_right}
use lib.Arith.{digits_div, digits_mod}
use lib.IntN.{ℤ, pos, ◌*ℤ◌}
use Rattle.integers.specs.Residues.{word}
use Rattle.integers.proofs.Sums.{sum_cong}
use Rattle.integers.proofs.Tests.{le_or_lt}
use Rattle.matrices.specs.Matrices.{Matrix, product, gram, both_sides, contracted, squared_length, Agree}
use Rattle.matrices.specs.Tables.{table}
use Rattle.matrices.proofs.Matrices.{product_cong, squared_length_cong}
use Rattle.matrices.proofs.Tables.{entry-table, table_cong}
use Rattle.matrices.proofs.Triangles.{lower_cong, mirrored-lower, mirrored-symmetric, gram-symmetric}
use Rattle.settings.specs.Settings.{Parameters, k_of, NOf}
use Rattle.digits.specs.Digits.{digit_of}
use Rattle.lova.specs.Stored.{Message, columns_of, matrix_A, matrix_S, matrix_S~, matrix_D~, right_S, sent_S~, sent_T~, sent_D~, read_C}
use Rattle.lova.specs.Calls.{Short, Bounded}
use Rattle.lova.specs.Fold.{beside, beside_S, digit_witness}
use Rattle.lova.specs.Commit.{instance_in, instance_of}
use Rattle.lova.specs.Message.{prepared_as, prepared_in, prepared_of}
use Rattle.lova.specs.Verdict.{folded_instance}
use Rattle.lova.specs.Witness.{folded_witness}
use Rattle.lova.proofs.Blocks.{beside-left, beside-right}
use Rattle.lova.specs.declared.Profile.TheVariants.{General, Fresh}
use Rattle.lova.specs.Repeats.{place_of, repeated_S, repeated_instance, repeated_message, repeated_S~, meant}
use Rattle.lova.proofs.Judged.{Same}
use Rattle.lova.proofs.Contracted.{place-left, place-right, product-contracts, sides_contract}

module _ (p : Parameters) where
  -- N is the columns of S1's digits and as many again
  pub N-halves : NOf p ≡ p.t * k_of p + p.t * k_of p
  N-halves = omega arith

  pub place-bound : (c : ℕ) → place_of p.t (k_of p) c < columns_of p Fresh
  place-bound c = ⊎_elim
      (λ (l : p.t * k_of p ≤ c). rw (place-right p.t (k_of p) c l) (omega (arith, mod-lt c {m = k_of p} (omega arith))))
      (λ (l : c < p.t * k_of p). rw (place-left p.t (k_of p) c l) (omega arith))
      (le_or_lt (p.t * k_of p) c)

  module _ (v : List ℤ) where
    repeated-entry : Agree p.m p.t ((matrix_S p).read (repeated_S p Fresh v)) (λ i j. (right_S p Fresh).read v i 0)
    repeated-entry i j hi hj = entry-table (pos 0) p.m p.t _ i j hi hj

    -- 8 for v is 8 for v repeated
    pub repeated-short : 1 ≤ p.t → Short p (repeated_S p Fresh v) ↔ (squared_length p.m ((right_S p Fresh).read v) 0 ≤ p.bound)
    repeated-short low = (
      (λ h. rw (same 0 (omega arith)) at (h 0 (omega arith))),
      (λ h j hj. rw (same j hj) h),
    )
      where
        same : (j : ℕ) → j < p.t → squared_length p.m ((matrix_S p).read (repeated_S p Fresh v)) j ≡ squared_length p.m ((right_S p Fresh).read v) 0
        same j hj = squared_length_cong p.m ((matrix_S p).read (repeated_S p Fresh v)) (λ i j. (right_S p Fresh).read v i 0) j (λ i hi. repeated-entry i j hi hj)

    -- the instance
    pub instance_repeats : (A : List ℕ) → repeated_instance p Fresh (instance_in p Fresh A v) ≡ instance_of p A (repeated_S p Fresh v)
    unfolding instance_in
    instance_repeats A = ap₂ (λ (t : List ℕ) (d : List ℤ). record { T = t; D = d })
        (table_cong 0 p.n p.t _ _ (λ i j hi hj.
        entry-table 0 p.n 1 _ i 0 hi (omega arith)
        ∙ ap word (sum_cong p.m _ _ (λ k h. ap (λ (z : ℤ). (matrix_A p).read A i k *ℤ z) (sym (repeated-entry k j h hj))))))
        (table_cong (pos 0) p.t p.t _ _ (λ i j hi hj.
        entry-table (pos 0) 1 1 _ 0 0 (omega arith) (omega arith)
        ∙ sum_cong p.m _ _ (λ k h. ap₂ ◌*ℤ◌ (sym (repeated-entry k i h hi)) (sym (repeated-entry k j h hj)))))

    module _ (S₁ : List ℤ) where
      -- [S1 v] and [S1 v .. v], and their digits
      abbrev once : Matrix
      once = beside p.t ((matrix_S p).read S₁) ((right_S p Fresh).read v)

      abbrev often : Matrix
      often = beside_S p S₁ (repeated_S p Fresh v)

      left-part : (i c : ℕ) → c < p.t * k_of p → once i (c / k_of p) ≡ often i (c / k_of p)
      left-part i c l =
          let h : c / k_of p < p.t = (div-lt_iff_lt-mul {k = k_of p} (omega arith)).1 l in
          beside-left p.t ((matrix_S p).read S₁) ((right_S p Fresh).read v) i (c / k_of p) h
          ∙ sym (beside-left p.t ((matrix_S p).read S₁) ((matrix_S p).read (repeated_S p Fresh v)) i (c / k_of p) h)

      right-part : (i c : ℕ) → i < p.m → p.t * k_of p ≤ c → c < NOf p → once i p.t ≡ often i (c / k_of p)
      right-part i c hi l hc =
          let low : p.t ≤ c / k_of p = (le-div_iff_mul-le {k = k_of p} (omega arith)).1 l in
          let high : c / k_of p < p.t + p.t = (div-lt_iff_lt-mul {k = k_of p} (omega arith)).1 (omega arith) in
          let z : p.t - p.t ≡ 0 = omega arith in
          beside-right p.t ((matrix_S p).read S₁) ((right_S p Fresh).read v) i p.t (omega arith)
          ∙ ap (λ (x : ℕ). (right_S p Fresh).read v i x) z
          ∙ sym (repeated-entry i (c / k_of p - p.t) hi (omega arith))
          ∙ sym (beside-right p.t ((matrix_S p).read S₁) ((matrix_S p).read (repeated_S p Fresh v)) i (c / k_of p) low)

      pub digits_repeat : (i c : ℕ) → i < p.m → c < NOf p → digit_witness p once i (place_of p.t (k_of p) c) ≡ digit_witness p often i c
      unfolding digit_witness
      digits_repeat i c hi hc = ⊎_elim
          (λ (l : p.t * k_of p ≤ c).
          let r : c % k_of p < k_of p = mod-lt c (omega arith) in
          rw (place-right p.t (k_of p) c l, digits_div p.t r, digits_mod p.t r)
          (ap (λ (z : ℤ). digit_of p.b z (c % k_of p)) (right-part i c hi l hc)))
          (λ (l : c < p.t * k_of p). rw (place-left p.t (k_of p) c l) (ap (λ (z : ℤ). digit_of p.b z (c % k_of p)) (left-part i c l)))
          (le_or_lt (p.t * k_of p) c)

      module _ (A : List ℕ) where
        -- the digit witness
        pub witness_repeats : repeated_S~ p Fresh (prepared_in p Fresh A S₁ v).S~ ≡ (prepared_of p A S₁ (repeated_S p Fresh v)).S~
        unfolding prepared_as
        witness_repeats = table_cong (pos 0) p.m (NOf p) _ _ (λ i c hi hc.
            entry-table (pos 0) p.m (columns_of p Fresh) _ i _ hi (place-bound c) ∙ digits_repeat i c hi hc)

        -- the message
        pub message_repeats : repeated_message p Fresh (prepared_in p Fresh A S₁ v).message ≡ (prepared_of p A S₁ (repeated_S p Fresh v)).message
        unfolding prepared_as
        message_repeats = same-message
            (table_cong (pos 0) p.t p.t _ _ (λ i j hi hj.
            entry-table (pos 0) p.t 1 _ i 0 hi (omega arith)
            ∙ sum_cong p.m _ _ (λ k h. ap (λ (z : ℤ). (matrix_S p).read S₁ k i *ℤ z) (sym (repeated-entry k j h hj)))))
            (table_cong 0 p.n (NOf p) _ _ (λ i c hi hc.
            entry-table 0 p.n (columns_of p Fresh) _ i _ hi (place-bound c)
            ∙ ap word (sum_cong p.m _ _ (λ k h. ap (λ (z : ℤ). (matrix_A p).read A i k *ℤ z) (digits_repeat k c h hc)))))
            (lower_cong (NOf p) _ _ (λ a c ha hc.
            mirrored-lower (columns_of p Fresh) (gram p.m (digit_witness p once)) (gram-symmetric p.m (columns_of p Fresh) (digit_witness p once)) _ _ (place-bound a) (place-bound c)
            ∙ sum_cong p.m _ _ (λ k h. ap₂ ◌*ℤ◌ (digits_repeat k a h ha) (digits_repeat k c h hc))))
          where
            same-message : {u u' : List ℤ} {w w' : List ℕ} {d d' : List ℤ} → u ≡ u' → w ≡ w' → d ≡ d'
                → ◌≡◌ {A = Message} (record { «V» = u; T~ = w; D~ = d }) (record { «V» = u'; T~ = w'; D~ = d' })
            same-message e f g = rw (e, f, g) refl

  -- 10 and 11: a bound of a fresh matrix is the bound of the repeated one
  repeated-D~ : (M : Message) → Agree (NOf p) (NOf p) ((matrix_D~ p).read (repeated_message p Fresh M).D~) (λ a c. (sent_D~ p Fresh).read M.D~ (place_of p.t (k_of p) a) (place_of p.t (k_of p) c))
  repeated-D~ M = mirrored-lower (NOf p) _ (λ a c ha hc. mirrored-symmetric M.D~ _ _)

  -- every column of a fresh matrix stands somewhere in the repeated one
  pub onto : 1 ≤ p.t → (x : ℕ) → x < columns_of p Fresh → (x < NOf p) × (place_of p.t (k_of p) x ≡ x)
  onto low x h = ⊎_elim
      (λ (l : p.t * k_of p ≤ x).
      let e : x ≡ p.t * k_of p + (x - p.t * k_of p) = omega arith in
      let r : x - p.t * k_of p < k_of p = omega arith in
      let more : k_of p ≤ p.t * k_of p = grows p.t (k_of p) low in
      (omega arith, place-right p.t (k_of p) x l ∙ sym (e ∙ ap (λ (y : ℕ). p.t * k_of p + y) (sym (ap (λ (y : ℕ). y % k_of p) e ∙ digits_mod p.t r)))))
      (λ (l : x < p.t * k_of p). (omega arith, place-left p.t (k_of p) x l))
      (le_or_lt (p.t * k_of p) x)
    where
      grows : (t k : ℕ) → 1 ≤ t → k ≤ t * k
      grows t k h = let more = mul-le-mul_right k h in omega arith

  pub D~_bounds : 1 ≤ p.t → (H : ℕ) (M : Message) → Bounded (NOf p) (NOf p) H ((matrix_D~ p).read (repeated_message p Fresh M).D~) ↔ Bounded (columns_of p Fresh) (columns_of p Fresh) H ((sent_D~ p Fresh).read M.D~)
  D~_bounds low H M = (
    (λ h a c ha hc.
        let x = onto low a ha in
        let y = onto low c hc in
        rw (repeated-D~ M a c x.0 y.0, x.1, y.1) at (h a c x.0 y.0)),
    (λ h a c ha hc. rw (repeated-D~ M a c ha hc) (h _ _ (place-bound a) (place-bound c))),
  )

  pub repeated-S~ : (S~ : List ℤ) → Agree p.m (NOf p) ((matrix_S~ p).read (repeated_S~ p Fresh S~)) (λ i c. (sent_S~ p Fresh).read S~ i (place_of p.t (k_of p) c))
  repeated-S~ S~ i c hi hc = entry-table (pos 0) p.m (NOf p) _ i c hi hc

  pub S~_bounds : 1 ≤ p.t → (h : ℕ) (S~ : List ℤ) → Bounded p.m (NOf p) h ((matrix_S~ p).read (repeated_S~ p Fresh S~)) ↔ Bounded p.m (columns_of p Fresh) h ((sent_S~ p Fresh).read S~)
  S~_bounds low h S~ = (
    (λ b i c hi hc. let y = onto low c hc in rw (repeated-S~ S~ i c hi y.0, y.1) at (b i c hi y.0)),
    (λ b i c hi hc. rw (repeated-S~ S~ i c hi hc) (b i _ hi (place-bound c))),
  )

  -- so the repeated message stands for the matrices that the fresh one stands for
  pub repeated_means : (M : Message) → Same p (meant p General (repeated_message p Fresh M)) (meant p Fresh M)
  repeated_means M = record {
    same_V = λ i j hi hj. entry-table (pos 0) p.t p.t _ i j hi hj;
    same-T~ = λ i c hi hc. ap pos (entry-table 0 p.n (NOf p) _ i c hi hc);
    same-D~ = repeated-D~ M;
  }

  -- what a fresh fold makes: the contracted challenge on the columns once
  abbrev K : List ℕ → Matrix
  K C = contracted (p.t * k_of p) (k_of p) p.t (read_C p C)

  pub folded-once : (M : Message) (C : List ℕ) → folded_instance p (meant p Fresh M) C ≡ record {
    T = table p.n p.t (λ i j. word (product (columns_of p Fresh) ((sent_T~ p Fresh).read M.T~) (K C) i j));
    D = table p.t p.t (both_sides (columns_of p Fresh) (K C) ((sent_D~ p Fresh).read M.D~));
  }
  unfolding folded_instance
  folded-once M C = ap₂ (λ (t : List ℕ) (d : List ℤ). record { T = t; D = d })
      (table_cong 0 p.n p.t _ _ (λ i j hi hj. ap word (
      ap (λ (n : ℕ). product n (meant p Fresh M).T~ (read_C p C) i j) N-halves
      ∙ product-contracts p.t (k_of p) ((sent_T~ p Fresh).read M.T~) (read_C p C) i j)))
      (table_cong (pos 0) p.t p.t _ _ (λ i j hi hj.
      ap (λ (n : ℕ). both_sides n (read_C p C) (meant p Fresh M).D~ i j) N-halves
      ∙ sides_contract p.t (k_of p) ((sent_D~ p Fresh).read M.D~) (read_C p C) i j))

  pub witness-once : (S~ : List ℤ) (C : List ℕ) → folded_witness p ((matrix_S~ p).read (repeated_S~ p Fresh S~)) C ≡ table p.m p.t (product (columns_of p Fresh) ((sent_S~ p Fresh).read S~) (K C))
  unfolding folded_witness
  witness-once S~ C = table_cong (pos 0) p.m p.t _ _ (λ i j hi hj.
      product_cong (NOf p) ((matrix_S~ p).read (repeated_S~ p Fresh S~)) (λ i c. (sent_S~ p Fresh).read S~ i (place_of p.t (k_of p) c)) (read_C p C) (read_C p C) i j (λ c h. repeated-S~ S~ i c hi h) (λ c h. refl)
      ∙ ap (λ (n : ℕ). product n (λ i c. (sent_S~ p Fresh).read S~ i (place_of p.t (k_of p) c)) (read_C p C) i j) N-halves
      ∙ product-contracts p.t (k_of p) ((sent_S~ p Fresh).read S~) (read_C p C) i j)
