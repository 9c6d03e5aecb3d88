-- A column of a challenge whose copies are added up one after the other.
use mathlib.Core.Path.{◌≡◌, sym, ◌∙◌, ap, ap₂}
use mathlib.Core.Logic.{⊎_elim}
use mathlib.Core.List.{List}
use Prim.Native.Nat.{ℕ, ◌+◌, ◌*◌, ◌<◌, ◌≤◌}
use native.Mathlib.Omega.{arith}
use native.Mathlib.Nat.{mul-le-mul}
use lib.ListN.{length, get_or}
use lib.IntN.{ℤ, pos, nat_abs, ◌+ℤ◌}
use mir.Syntax.{w16}
use mir.Val.{to_z, of_z}
use Rattle.integers.specs.Lists.{build}
use Rattle.integers.proofs.Lists.{length-build, get_or-build, is-build, build_cong}
use Rattle.integers.proofs.Sizes.{nat_abs-+}
use Rattle.integers.proofs.Tests.{le_or_lt}
use Rattle.integers.proofs.Words.{Held, held, read_back}
use Rattle.matrices.specs.Elements.{exactly, Added}
use Rattle.matrices.specs.Matrices.{contracted}
use Rattle.matrices.specs.Tables.{challenge, entry}
use Rattle.matrices.proofs.Contracted.{contracted-left, contracted-more, contracted-once, contracted-size}
use Rattle.matrices.proofs.Tables.{row_within}
use Rattle.matrices.proofs.Ternary.{ternary-size}
use Rattle.small_rows.specs.Small.{Within}
use Rattle.small_rows.proofs.Small.{within_list}

-- the machine's sum of two small numbers, the second of which it has as u
pub plus : (a x : ℤ) {u : ℤ} → u ≡ x → nat_abs a ≤ 15 → nat_abs x ≤ 1 → Held w16 (to_z w16 (of_z w16 a) +ℤ to_z w16 (of_z w16 u)) (a +ℤ x)
plus a x is ha hx = held w16 (ap₂ ◌+ℤ◌ (read_back w16 a (omega arith)) (held w16 is (omega arith)).read) (omega (arith, nat_abs-+ a x))

-- the rows of copy a, and the first `left` rows before them, are within the challenge
pub copy_within : (left block copies t a : ℕ) → a < copies → (left + block + a * block) * t ≤ (left + copies * block) * t
copy_within left block copies t a h =
    let rows : left + block + a * block ≤ left + copies * block = omega (arith, row_within copies block a h) in
    let same : t ≤ t = omega arith in
    mul-le-mul rows same

module _ (left block t j : ℕ) (c : List ℕ) where
  -- the first copies, added up
  abbrev pub sums : ℕ → ℕ → ℤ
  sums copies k = contracted left block copies (challenge t c) k j

  -- as many as there are copies at most
  pub sums-size : (copies k : ℕ) → 1 ≤ copies → nat_abs (sums copies k) ≤ copies
  sums-size copies k low = contracted-size left block copies (challenge t c) k j low (λ i. ternary-size (entry 0 t c i j))

  -- one copy is what the challenge has
  pub sums-once : (n : ℕ) (column : List ℤ) → column ≡ build n (λ k. challenge t c k j) → column ≡ build n (sums 1)
  sums-once n column is = is ∙ build_cong n (λ k. challenge t c k j) (sums 1) (λ k h. sym (contracted-once left block (challenge t c) k j))

  module _ (copies : ℕ) (before : List ℤ) (is : before ≡ build (left + block) (sums copies)) where
    pub sums-long : length before ≡ left + block
    sums-long = ap length is ∙ length-build (left + block) (sums copies)

    at : (k : ℕ) → k < left + block → get_or before k (pos 0) ≡ sums copies k
    at k h = ap (λ (xs : List ℤ). get_or xs k (pos 0)) is ∙ get_or-build (left + block) (sums copies) k (pos 0) h

    pub sums-within : (M : ℕ) → 1 ≤ copies → copies ≤ M → Within M before
    sums-within M low high = within_list M before (λ k h. rw (at k (omega (arith, sums-long))) (omega (arith, sums-size copies k low)))

    -- one copy more
    pub sums-more : (after : List ℤ) → Added exactly (λ k. challenge t c (k + copies * block) j) left (length before) before after
        → after ≡ build (left + block) (sums (copies + 1))
    sums-more after w = is-build (left + block) (sums (copies + 1)) (pos 0) after (w.long ∙ sums-long) (λ k h. ⊎_elim
        (λ (l : left ≤ k).
        w.done k l (omega (arith, sums-long))
        ∙ ap (λ (z : ℤ). z +ℤ challenge t c (k + copies * block) j) (at k h)
        ∙ sym (contracted-more left block copies (challenge t c) k j l))
        (λ (l : k < left).
        w.below k l
        ∙ at k h
        ∙ contracted-left left block copies (challenge t c) k j l
        ∙ sym (contracted-left left block (copies + 1) (challenge t c) k j l))
        (le_or_lt left k))
