-- What the passes over the rows of S~ find and write, in the words of the definitions.
use mathlib.Core.Path.{◌≡◌, sym, ◌∙◌, ap, ap₂}
use mathlib.Core.Bool.{Bool, not}
use mathlib.Core.List.{List, [], ◌∷◌}
use Prim.Native.Nat.{ℕ, ◌+◌, ◌*◌, ◌/◌, ◌%◌, ◌^◌, ◌<◌, ◌≤◌}
use native.Mathlib.Omega.{arith, by_contra}
use native.Mathlib.Nat.{mul-le-mul, div-lt_iff_lt-mul, div-add-mod', mod-lt, add_assoc, zero-add}
use lib.Arith.{digits_lt}
use lib.Dec.{T, leb}
use lib.IntN.{ℤ, pos, nat_abs, ◌*ℤ◌}
use lib.ListN.{length, get_or}
use Rattle.integers.specs.Sums.{sum}
use Rattle.integers.proofs.Sums.{sum_cong, sum_ℕ_cong}
use Rattle.integers.proofs.Tests.{same_test, all_true, all_elim, all_cong}
use Rattle.integers.specs.Tests.{all}
use Rattle.matrices.specs.Matrices.{product, squared_length}
use Rattle.matrices.specs.Tables.{table, signed}
use Rattle.matrices.proofs.Bounds.{entry-squared}
use Rattle.matrices.proofs.Tables.{row_within, table_cong}
use Rattle.settings.specs.declared.Setting.{Setting}
use Rattle.settings.specs.declared.acceptance.AcceptedSetting.{AcceptedSetting}
use Rattle.settings.specs.Accepted.{parameters_in}
use Rattle.settings.specs.Rules.{◌gives◌, first_of}
use Rattle.settings.specs.Settings.{Parameters, k_of}
use Rattle.digits.specs.Digits.{digit_of}
use Rattle.lova.specs.declared.Profile.{Profile}
use Rattle.lova.specs.Stored.{Witnesses, right_for, columns_of, sent_S~}
use Rattle.lova.specs.Calls.{Fits, Rebuilt, ShortRecomposed, FollowsRule}
use Rattle.lova.specs.Fold.{gadget, digit_witness}
use Rattle.lova.specs.Recompose.{recomposed, witnesses_of, short_recomposed, follows_rule}
use Rattle.lova.proofs.Gadget.{gadget-right, digit_place}
use Rattle.lova.proofs.Rebuilding.{rebuilt-accepted, rebuilt-is, k-is}
use Rattle.lova.proofs.Tests.{every_iff, eq_Z_iff, rule_iff}
use Rattle.lova.proofs.Widths.{wide_of}
use Rattle.digit_entries.specs.Entries.{limit, clamped, follow_rule}
use Rattle.digit_entries.proofs.Clamped.{clamped-within}
use Rattle.digit_rows.specs.Rows.{digits_at, read_at, place, entry_at, short_columns, ruled_entries, rows_rules}
use Rattle.digit_rows.proofs.Blocks.{digits_long, digit_read, entry_read}

-- an accepted setting and a profile with its columns on the right: the rows of an S~ of the stated length
pub rows_long : (a : AcceptedSetting) (f : Profile) (right : ℕ) → right ≡ right_for a.setting.t f → (S~ : List ℤ) → Fits (sent_S~ (parameters_in a) f) S~
    → let s = a.setting in length S~ ≡ s.m * ((s.t + right) * s.k)
rows_long a f right right_is S~ fits = fits ∙ ap (λ (n : ℕ). a.setting.m * n) (sym (wide_of a.setting (rebuilt-is a) f right right_is))

module _ (a : AcceptedSetting) (f : Profile) (right : ℕ) (right_is : right ≡ right_for a.setting.t f) (S~ : List ℤ)
    (long : length S~ ≡ a.setting.m * ((a.setting.t + right) * a.setting.k)) where
  abbrev s : Setting
  s = a.setting

  whole : Rebuilt s
  whole = rebuilt-is a

  abbrev p : Parameters
  p = parameters_in a

  abbrev wide : ℕ
  wide = s.t + right

  columns-is : wide * s.k ≡ columns_of p f
  columns-is = wide_of s whole f right right_is

  -- the digits of entry (i, j) lie within S~
  inside : (i j : ℕ) → i < s.m → j < wide → place s.k wide i j + s.k ≤ length S~
  inside i j hi hj = omega (arith, long, row_within s.m (wide * s.k) i hi, row_within wide s.k j hj)

  -- the entry that they stand for is that of S~ G
  entry-is : (i j : ℕ) → i < s.m → j < wide → entry_at s.b s.k wide S~ i j ≡ recomposed p f S~ i j
  entry-is i j hi hj =
      entry_read s.k (place s.k wide i j) S~ (inside i j hi hj) s.b
      ∙ sum_cong s.k _ _ (λ q h. ap (λ (x : ℕ). get_or S~ x (pos 0) *ℤ pos (s.b ^ q)) (add_assoc (i * (wide * s.k)) (j * s.k) q))
      ∙ ap (λ (k : ℕ). sum k (λ q. get_or S~ (i * (wide * k) + (j * k + q)) (pos 0) *ℤ pos (s.b ^ q))) (k-is s whole)
      ∙ sym (gadget-right p wide (signed (wide * k_of p) S~) i j hj)
      ∙ ap (λ (n : ℕ). product n (signed n S~) (gadget p) i j) (ap (λ (k : ℕ). wide * k) (sym (k-is s whole)) ∙ columns-is)

  short-is : short_columns s.b s.k wide S~ s.m s.bound ≡ short_recomposed p f S~
  unfolding short_recomposed
  short-is =
      all_cong wide _ _ (λ j h. ap (λ (n : ℕ). leb n s.bound) (sum_ℕ_cong s.m _ _ (λ i l. ap (λ (z : ℤ). nat_abs z * nat_abs z) (entry-is i j l h))))
      ∙ ap (λ (n : ℕ). all (s.t + n) (λ j. leb (squared_length s.m (recomposed p f S~) j) s.bound)) right_is

  -- digit q of entry (i, j): the rule's and the one in S~
  module _ (i j q : ℕ) (hi : i < s.m) (hj : j < wide) (hq : q < s.k) where
    rule_digit : digit_of s.b (entry_at s.b s.k wide S~ i j) q ≡ digit_witness p (recomposed p f S~) i (j * s.k + q)
    rule_digit =
        ap (λ (z : ℤ). digit_of s.b z q) (entry-is i j hi hj)
        ∙ sym (digit_place p (recomposed p f S~) i j q (rw (k-is s whole) at hq))
        ∙ ap (λ (k : ℕ). digit_witness p (recomposed p f S~) i (j * k + q)) (sym (k-is s whole))

    stored_digit : get_or (digits_at s.k S~ (place s.k wide i j)) q (pos 0) ≡ signed (columns_of p f) S~ i (j * s.k + q)
    stored_digit =
        digit_read s.k (place s.k wide i j) S~ (inside i j hi hj) q hq
        ∙ ap (λ (x : ℕ). get_or S~ x (pos 0)) (add_assoc (i * (wide * s.k)) (j * s.k) q)
        ∙ ap (λ (n : ℕ). signed n S~ i (j * s.k + q)) columns-is

  ruled_is : ruled_entries s.b s.k wide S~ s.m ≡ follows_rule p f S~
  ruled_is = same_test (ruled_entries s.b s.k wide S~ s.m) (follows_rule p f S~)
      (λ t. (rule_iff p f S~).1 (λ i c hi hc. to t i c hi (rw (← columns-is) at hc)))
      (λ t. (every_iff s.m wide _).1 (λ i j hi hj. from ((rule_iff p f S~).0 t) i j hi hj))
    where
      some : 1 ≤ s.k
      some = omega (arith, (rebuilt-accepted s whole).k-low, k-is s whole)

      to : T (ruled_entries s.b s.k wide S~ s.m) → (i c : ℕ) → i < s.m → c < wide * s.k → digit_witness p (recomposed p f S~) i c ≡ signed (columns_of p f) S~ i c
      to t i c hi hc =
          let j = c / s.k in
          let q = c % s.k in
          let hj : j < wide = (div-lt_iff_lt-mul some).1 hc in
          let hq : q < s.k = mod-lt c some in
          let whole-c : j * s.k + q ≡ c = div-add-mod' c s.k in
          let entry = all_elim _ _ ((every_iff s.m wide _).0 t i j hi hj) q (rw (digits_long s.k (place s.k wide i j) S~ (inside i j hi hj)) hq) in
          ap (digit_witness p (recomposed p f S~) i) (sym whole-c) ∙ sym (rule_digit i j q hi hj hq) ∙ (eq_Z_iff _ _).0 entry ∙ stored_digit i j q hi hj hq ∙ ap (signed (columns_of p f) S~ i) whole-c

      from : FollowsRule p f S~ → (i j : ℕ) → i < s.m → j < wide → T (follow_rule s.b (digits_at s.k S~ (place s.k wide i j)))
      from rule i j hi hj = all_true _ _ (λ q h.
          let hq : q < s.k = rw (digits_long s.k (place s.k wide i j) S~ (inside i j hi hj)) at h in
          (eq_Z_iff _ _).1 (rule_digit i j q hi hj hq ∙ rule i (j * s.k + q) hi (rw (← columns-is) (digits_lt hj hq)) ∙ sym (stored_digit i j q hi hj hq)))

  -- so 8 and 16 are the rules that follow 11
  pub rows_are : first_of (rows_rules s.b s.k wide S~ s.m s.bound) ≡ first_of ((not (short_recomposed p f S~) gives 8) ∷ (not (follows_rule p f S~) gives 16) ∷ [])
  rows_are = ap₂ (λ (x y : Bool). first_of ((not x gives 8) ∷ (not y gives 16) ∷ [])) short-is ruled_is

  -- what is written of a short S~ is not given up
  pub written-are : ShortRecomposed p f S~ → (from cols : ℕ) → from + cols ≤ wide
      → table s.m cols (λ i j. read_at s.b s.k S~ (place s.k wide i (from + j))) ≡ table s.m cols (λ i j. recomposed p f S~ i (from + j))
  written-are short from cols h = table_cong (pos 0) s.m cols _ _ (λ i j hi hj.
      let at : from + j < wide = omega arith in
      ap (clamped limit) (entry-is i (from + j) hi at) ∙ clamped-within limit (recomposed p f S~ i (from + j)) (size i (from + j) hi at))
    where
      size : (i j : ℕ) → i < s.m → j < wide → nat_abs (recomposed p f S~ i j) ≤ limit
      size i j hi hj =
          let z = nat_abs (recomposed p f S~ i j) in
          by_contra z limit (λ l. omega (arith, entry-squared s.m (recomposed p f S~) i j hi, short j (rw right_is at hj), (rebuilt-accepted s whole).bound-high, mul-le-mul {n₁ = 4294967296} {m₁ = 4294967296} {n₂ = z} {m₂ = z} (omega arith) (omega arith)))

  -- so the two writes make the two witnesses
  pub witnesses_are : ShortRecomposed p f S~ → (S₁ S₂ : List ℤ)
      → S₁ ≡ table s.m s.t (λ i j. read_at s.b s.k S~ (place s.k wide i (0 + j)))
      → S₂ ≡ table s.m right (λ i j. read_at s.b s.k S~ (place s.k wide i (s.t + j)))
      → record { S₁ = S₁; S₂ = S₂ } ≡ witnesses_of p f S~
  unfolding witnesses_of
  witnesses_are short S₁ S₂ e₁ e₂ = ap₂ {C = Witnesses} (λ (x y : List ℤ). record { S₁ = x; S₂ = y })
      (e₁ ∙ written-are short 0 s.t (omega arith) ∙ table_cong (pos 0) s.m s.t _ _ (λ i j hi hj. ap (recomposed p f S~ i) (zero-add j)))
      (e₂ ∙ written-are short s.t right (omega arith) ∙ ap (λ (w : ℕ). table s.m w (λ i j. recomposed p f S~ i (s.t + j))) right_is)
