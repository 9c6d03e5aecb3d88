-- `digit_entries::entry` meets its contract: `sum` is what the digits from place q on stand for.
use mathlib.Core.Path.{◌≡◌, sym, ◌∙◌, ap, ap₂}
use mathlib.Core.List.{List}
use Prim.Native.Nat.{ℕ, ◌+◌, ◌-◌, ◌/◌, ◌^◌, ◌<◌, ◌≤◌}
use native.Mathlib.Omega.{arith}
use native.Mathlib.Nat.{le_of_lt, mul-le-mul}
use lib.IntN.{ℤ, pos, nat_abs, ◌+ℤ◌, ◌*ℤ◌}
use lib.ListN.{get_or}
use mir.Syntax.{w64}
use mir.Val.{to_z, of_z}
use Rattle.integers.proofs.Sizes.{nat_abs-*, nat_abs-+}
use Rattle.integers.proofs.Words.{read_back}
use Rattle.digit_entries.specs.Entries.{entry_of, limit, clamped}
use Rattle.digit_entries.proofs.Sums.{by_powers, top_of, top-none, top_below, top-all, entry-parts, sum_less}
use Rattle.digit_entries.proofs.Clamped.{clamped-within, given-up-above, given-up-below, at_least, at_most, between}
use Rattle.digit_entries.proofs.entry.Goals as goal
use Rattle.digit_entries.proofs.entry.Goals.{After-add_product-sum, At-loop-q}

-- a digit d, and a sum t that is not given up: what the machine reads, and the next sum
module _ (b : ℕ) (high : b < 2 ^ 16) (d t : ℤ) (sum : ℕ) (digit : nat_abs d ≤ b / 2) (small : nat_abs t < limit) (is : to_z w64 sum ≡ t) where
  read-digit : to_z w64 (of_z w64 d) ≡ d
  read-digit = read_back w64 d (omega arith)

  read-product : to_z w64 sum *ℤ to_z w64 b ≡ t *ℤ pos b
  read-product = ap₂ ◌*ℤ◌ is (read_back w64 (pos b) (omega arith))

  sizes : nat_abs d + nat_abs (t *ℤ pos b) < 2 ^ 63
  sizes = omega (arith, nat_abs-* t (pos b), mul-le-mul {n₁ = nat_abs t} {m₁ = b} {n₂ = 4294967296} {m₂ = 65536} (omega arith) (omega arith))

  room : nat_abs (to_z w64 (of_z w64 d)) + nat_abs (to_z w64 sum *ℤ to_z w64 b) < 2 ^ 63
  room = rw (read-digit, read-product) sizes

  next-is : {r : ℤ} → r ≡ to_z w64 (of_z w64 d) +ℤ to_z w64 sum *ℤ to_z w64 b → r ≡ d +ℤ t *ℤ pos b
  next-is e = e ∙ ap₂ ◌+ℤ◌ read-digit read-product

  read_next : {r : ℤ} → r ≡ to_z w64 (of_z w64 d) +ℤ to_z w64 sum *ℤ to_z w64 b → to_z w64 (of_z w64 r) ≡ d +ℤ t *ℤ pos b
  read_next e = ap (λ (z : ℤ). to_z w64 (of_z w64 z)) (next-is e) ∙ read_back w64 (d +ℤ t *ℤ pos b) (omega (arith, nat_abs-+ d (t *ℤ pos b), sizes))

pub loop-q-init : goal.loop-q-init
loop-q-init c =
    let none = top-none c.args.b c.args.digits.now in
    (omega arith, rw none (omega arith), sym none)

pub add_product-sum-requires : goal.add_product-sum-requires
add_product-sum-requires c =
    let l = (goal.at.add_product-sum-requires c).At-loop-q in
    let s = c in
    room s.args.b s.requires.1 (get_or s.args.digits.now (l.loop-q.q - 1) (pos 0)) (top_of s.args.b s.args.digits.now l.loop-q.q) l.loop-q.sum-bits
    (s.requires.2 (l.loop-q.q - 1)) l.loop-q.invariant.1 l.loop-q.invariant.2

-- after a turn: what the digits from place q - 1 on stand for, as the sum and as the machine reads it
module _ (c : After-add_product-sum) where
  abbrev at : At-loop-q
  at = (goal.at.After-add_product-sum c).At-loop-q

  abbrev b : ℕ
  b = at.args.b

  abbrev ds : List ℤ
  ds = at.args.digits.now

  abbrev q : ℕ
  q = at.loop-q.q - 1

  sum_is : c.add_product-sum.result ≡ top_of b ds q
  sum_is =
      next-is b at.requires.1 (get_or ds q (pos 0)) (top_of b ds at.loop-q.q) at.loop-q.sum-bits (at.requires.2 q) at.loop-q.invariant.1 at.loop-q.invariant.2 c.add_product-sum.ensures
      ∙ sym (top_below b ds at.loop-q.q (omega arith) at.loop-q.invariant.0)

  read-top : to_z w64 (of_z w64 c.add_product-sum.result) ≡ top_of b ds q
  read-top =
      read_next b at.requires.1 (get_or ds q (pos 0)) (top_of b ds at.loop-q.q) at.loop-q.sum-bits (at.requires.2 q) at.loop-q.invariant.1 at.loop-q.invariant.2 c.add_product-sum.ensures
      ∙ sym (top_below b ds at.loop-q.q (omega arith) at.loop-q.invariant.0)

  -- the digits below make less than their power
  abbrev low : ℤ
  low = by_powers b (λ i. get_or ds i (pos 0)) q

  low-less : nat_abs low < b ^ q
  low-less = sum_less b (λ i. get_or ds i (pos 0)) q (λ i h. let d = at.requires.2 i in omega arith)

  whole : entry_of b ds ≡ low +ℤ pos (b ^ q) *ℤ top_of b ds q
  whole = entry-parts b ds q (omega arith)

pub returns-then-sum-ge-LIMIT : goal.returns-then-sum-ge-LIMIT
returns-then-sum-ge-LIMIT c =
    let a = (goal.at.returns-then-sum-ge-LIMIT c).After-add_product-sum in
    let r = at_least limit (to_z w64 (of_z w64 a.add_product-sum.result)) c.if-sum-ge-LIMIT.true in
    sym (ap (clamped limit) (whole a ∙ ap (λ (z : ℤ). low a +ℤ pos (b a ^ q a) *ℤ z) (sym (read-top a) ∙ r.1))
    ∙ given-up-above (b a ^ q a) limit (omega arith) (low a) (low-less a) r.0 r.2)

pub returns-then-sum : goal.returns-then-sum
returns-then-sum c =
    let a = (goal.at.returns-then-sum c).After-add_product-sum in
    let r = at_most 4294967295 (to_z w64 (of_z w64 a.add_product-sum.result)) c.if-sum.true in
    sym (ap (clamped limit) (whole a ∙ ap (λ (z : ℤ). low a +ℤ pos (b a ^ q a) *ℤ z) (sym (read-top a) ∙ r.1))
    ∙ given-up-below (b a ^ q a) limit (omega arith) (low a) (low-less a) r.0 r.2)

pub loop-q-preserved : goal.loop-q-preserved
loop-q-preserved c =
    let a = (goal.at.loop-q-preserved c).After-add_product-sum in
    (omega arith, rw (read-top a) at (between 4294967295 (to_z w64 (of_z w64 a.add_product-sum.result)) c.if-sum-ge-LIMIT.false c.if-sum.false), read-top a)

pub returns : goal.returns
returns c =
    let l = c.loop-q in
    let s = c in
    let end : l.q ≡ 0 = omega arith in
    let is : top_of s.args.b s.args.digits.now l.q ≡ entry_of s.args.b s.args.digits.now =
    ap (top_of s.args.b s.args.digits.now) end ∙ top-all s.args.b s.args.digits.now in
    l.invariant.2 ∙ is
    ∙ sym (clamped-within limit (entry_of s.args.b s.args.digits.now) (rw is at (le_of_lt l.invariant.1)))
