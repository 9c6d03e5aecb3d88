-- What a fresh S~ stands for, repeated, is what the repeated S~ stands for; and so are its lengths, its digits and its witnesses.
use mathlib.Core.Path.{◌≡◌, refl, sym, ◌∙◌, ap, ap₂}
use mathlib.Core.Logic.{◌↔◌}
use mathlib.Core.List.{List}
use Prim.Native.Nat.{ℕ, ◌+◌, ◌*◌, ◌/◌, ◌%◌, ◌<◌, ◌≤◌}
use native.Mathlib.Omega.{arith}
use native.Mathlib.Nat.{div-add-mod', div-lt_iff_lt-mul, mod-lt}
use lib.IntN.{ℤ, pos}
use Rattle.matrices.specs.Matrices.{Matrix, product, squared_length, Agree}
use Rattle.matrices.proofs.Matrices.{product_cong}
use Rattle.matrices.proofs.Tables.{entry-table, table_cong}
use Rattle.settings.specs.Settings.{Parameters, k_of, NOf}
use Rattle.digits.specs.Digits.{digit_of}
use Rattle.lova.specs.declared.Profile.TheVariants.{General, Fresh}
use Rattle.lova.specs.Stored.{Witnesses, matrix_S~, sent_S~}
use Rattle.lova.specs.Repeats.{place_of, repeated_S~, repeated_witnesses}
use Rattle.lova.specs.Calls.{ShortRecomposed, FollowsRule}
use Rattle.lova.specs.Fold.{digit_witness, gadget}
use Rattle.lova.specs.Recompose.{recomposed, witnesses_of}
use Rattle.lova.proofs.Gadget.{columns-blocks, digit_place}
use Rattle.lova.proofs.FreshEquations.{block_of, block-left, block-right, block-bound, block-own, place-block, product_repeats}
use Rattle.lova.proofs.Recomposing.{length_cong}
use Rattle.lova.proofs.Repeated.{place-bound, onto, repeated-S~}
use Rattle.lova.proofs.Widths.{columns-are}

module _ (p : Parameters) (S~ : List ℤ) where
  -- what S~ stands for, once and often
  abbrev once : Matrix
  once = recomposed p Fresh S~

  abbrev often : Matrix
  often = recomposed p General (repeated_S~ p Fresh S~)

  entries_repeat : Agree p.m (2 * p.t) often (λ i j. once i (block_of p.t j))
  entries_repeat i j hi hj =
      product_cong (NOf p) ((matrix_S~ p).read (repeated_S~ p Fresh S~)) (λ i c. (sent_S~ p Fresh).read S~ i (place_of p.t (k_of p) c)) (gadget p) (gadget p) i j
      (λ c h. repeated-S~ p S~ i c hi h) (λ c h. refl)
      ∙ ap (λ (n : ℕ). product n (λ i c. (sent_S~ p Fresh).read S~ i (place_of p.t (k_of p) c)) (gadget p) i j) (columns-blocks p)
      ∙ product_repeats p.t p ((sent_S~ p Fresh).read S~) i j hj
      ∙ ap (λ (n : ℕ). product n ((sent_S~ p Fresh).read S~) (gadget p) i (block_of p.t j)) (sym (columns-are p Fresh))

  -- 8 for what is fresh is 8 for what is repeated
  length_repeats : (j : ℕ) → j < 2 * p.t → squared_length p.m often j ≡ squared_length p.m once (block_of p.t j)
  length_repeats j hj = length_cong p.m often once j (block_of p.t j) (λ i hi. entries_repeat i j hi hj)

  pub short_repeats : 1 ≤ p.t → ShortRecomposed p Fresh S~ ↔ ShortRecomposed p General (repeated_S~ p Fresh S~)
  short_repeats low = (
    (λ h j hj. rw (length_repeats j (omega arith)) (h (block_of p.t j) (block-bound p.t j))),
    (λ h j hj. let e = length_repeats j (omega arith) in rw (block-own p.t j hj) at (rw e at (h j (omega arith)))),
  )

  -- and so is 16
  digit_repeats : (i c : ℕ) → i < p.m → c < NOf p → digit_witness p often i c ≡ digit_witness p once i (place_of p.t (k_of p) c)
  digit_repeats i c hi hc =
      let j = c / k_of p in
      let q = c % k_of p in
      let hj : j < 2 * p.t = (div-lt_iff_lt-mul {k = k_of p} (omega arith)).1 (rw (columns-blocks p) at hc) in
      let hq : q < k_of p = mod-lt c (omega arith) in
      let is : j * k_of p + q ≡ c = div-add-mod' c (k_of p) in
      ap (digit_witness p often i) (sym is)
      ∙ digit_place p often i j q hq
      ∙ ap (λ (z : ℤ). digit_of p.b z q) (entries_repeat i j hi hj)
      ∙ sym (digit_place p once i (block_of p.t j) q hq)
      ∙ ap (digit_witness p once i) (sym (place-block p.t (k_of p) j q hq) ∙ ap (place_of p.t (k_of p)) is)

  pub rule_repeats : 1 ≤ p.t → FollowsRule p Fresh S~ ↔ FollowsRule p General (repeated_S~ p Fresh S~)
  rule_repeats low = (
    (λ h i c hi hc. digit_repeats i c hi hc ∙ h i (place_of p.t (k_of p) c) hi (place-bound p c) ∙ sym (repeated-S~ p S~ i c hi hc)),
    (λ h i c hi hc.
        let y = onto p low c hc in
        ap (digit_witness p once i) (sym y.1) ∙ sym (digit_repeats i c hi y.0) ∙ h i c hi y.0 ∙ repeated-S~ p S~ i c hi y.0 ∙ ap ((sent_S~ p Fresh).read S~ i) y.1),
  )

  -- the two witnesses
  pub witnesses_repeat : repeated_witnesses p Fresh (witnesses_of p Fresh S~) ≡ witnesses_of p General (repeated_S~ p Fresh S~)
  unfolding witnesses_of
  witnesses_repeat = ap₂ {C = Witnesses} (λ (x y : List ℤ). record { S₁ = x; S₂ = y })
      (table_cong (pos 0) p.m p.t _ _ (λ i j hi hj. sym (entries_repeat i j hi (omega arith) ∙ ap (once i) (block-left p.t j hj))))
      (table_cong (pos 0) p.m p.t _ _ (λ i j hi hj.
      let first : p.t + 0 ≡ p.t = omega arith in
      entry-table (pos 0) p.m 1 _ i 0 hi (omega arith) ∙ ap (once i) (first ∙ sym (block-right p.t (p.t + j) (omega arith))) ∙ sym (entries_repeat i (p.t + j) hi (omega arith))))
