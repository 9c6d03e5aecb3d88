-- Digits that are read as a part of S~: how many there are, what they are, what they stand for.
use mathlib.Core.Path.{◌≡◌, sym, ◌∙◌, ap}
use mathlib.Core.List.{List}
use Prim.Native.Nat.{ℕ, ◌+◌, ◌-◌, ◌/◌, ◌^◌, ◌<◌, ◌≤◌}
use native.Mathlib.Omega.{arith}
use native.Mathlib.Nat.{add_assoc}
use lib.IntN.{ℤ, pos, nat_abs, ◌*ℤ◌}
use lib.ListN.{length, get_or, take, drop, length-drop}
use lib.Seq.{ext_get_or, get_or-take, get_or-drop, length-take-le}
use Rattle.integers.specs.Sums.{sum}
use Rattle.integers.proofs.Lists.{part-everywhere}
use Rattle.integers.proofs.Sums.{sum_cong}
use Rattle.digit_entries.specs.Entries.{Digits, entry_of}
use Rattle.digit_rows.specs.Rows.{digits_at}

-- the part that starts at x and has k places
module _ (k x : ℕ) (S~ : List ℤ) where
  pub part-is : take (x + k - x) (drop x S~) ≡ digits_at k S~ x
  part-is = let places : x + k - x ≡ k = omega arith in ap (λ (n : ℕ). take n (drop x S~)) places

  pub part-digits : (b : ℕ) → Digits b S~ → Digits b (take (x + k - x) (drop x S~))
  part-digits b h = part-everywhere (λ z. nat_abs z ≤ b / 2) (pos 0) x (x + k - x) S~ (omega arith) h

  module _ (inside : x + k ≤ length S~) where
    pub digits_long : length (digits_at k S~ x) ≡ k
    digits_long = length-take-le k (drop x S~) (rw (length-drop x S~) (omega arith))

    pub digit_read : (q : ℕ) → q < k → get_or (digits_at k S~ x) q (pos 0) ≡ get_or S~ (x + q) (pos 0)
    digit_read q h = get_or-take k (drop x S~) q (pos 0) h ∙ get_or-drop x S~ q (pos 0)

    -- they stand for the sum of their products with the powers
    pub entry_read : (b : ℕ) → entry_of b (digits_at k S~ x) ≡ sum k (λ q. get_or S~ (x + q) (pos 0) *ℤ pos (b ^ q))
    entry_read b =
        ap (λ (n : ℕ). sum n (λ q. get_or (digits_at k S~ x) q (pos 0) *ℤ pos (b ^ q))) digits_long
        ∙ sum_cong k _ _ (λ q h. ap (λ (z : ℤ). z *ℤ pos (b ^ q)) (digit_read q h))

-- digits of a part are digits of the whole
pub part-of-part : (k x n y : ℕ) (S~ : List ℤ) → x + k ≤ n → y + n ≤ length S~ → digits_at k (digits_at n S~ y) x ≡ digits_at k S~ (y + x)
part-of-part k x n y S~ h inside =
    let long : length (digits_at n S~ y) ≡ n = digits_long n y S~ inside in
    let first : length (digits_at k (digits_at n S~ y) x) ≡ k = digits_long k x (digits_at n S~ y) (omega arith) in
    let second : length (digits_at k S~ (y + x)) ≡ k = digits_long k (y + x) S~ (omega arith) in
    ext_get_or (pos 0) _ _ (first ∙ sym second) (λ q l.
    let less : q < k = omega arith in
    digit_read k x (digits_at n S~ y) (omega arith) q less ∙ digit_read n y S~ inside (x + q) (omega arith)
    ∙ ap (λ (z : ℕ). get_or S~ z (pos 0)) (sym (add_assoc y x q)) ∙ sym (digit_read k (y + x) S~ (omega arith) q less))
