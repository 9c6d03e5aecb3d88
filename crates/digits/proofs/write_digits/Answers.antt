-- `digits::write_digits` meets its contract: after p turns w is what p steps leave of the size, and the first p digits are written.
use mathlib.Core.Path.{◌≡◌, refl, sym, ◌∙◌, ap, ap₂}
use Prim.Native.Nat.{ℕ, ◌^◌, ◌<◌, ◌≤◌}
use native.Mathlib.Omega.{arith}
use native.Mathlib.Nat.{mul-le-mul_left}
use lib.IntN.{ℤ, pos, nat_abs, ◌*ℤ◌}
use lib.ListN.{length}
use mir.Syntax.{w64}
use mir.Val.{SFits, to_z, of_z}
use mir.ValLaws.{to_z-of_z}
use Rattle.integers.proofs.Lists.{filled_none, filled_more, filled-all}
use Rattle.integers.proofs.Sizes.{fits-by-size}
use Rattle.integers.proofs.Words.{Held, held}
use Rattle.digits.specs.declared.Step.{Step}
use Rattle.digits.specs.Bases.{InReach}
use Rattle.digits.specs.Digits.{step_of, rest_of, sign_of, digit_of, digits_of}
use Rattle.digits.proofs.Bases.{in_reach-less}
use Rattle.digits.proofs.Signs.{sign-size, sign-times}
use Rattle.digits.proofs.Steps.{step-size}
use Rattle.digits.proofs.Digits.{rest-none, rest_more, rest-less, digit_by-sign, digit_bound}
use Rattle.digits.proofs.write_digits.Goals as goal
use Rattle.digits.proofs.write_digits.Goals.{After-sign_of-sign, After-take_digit-s}

-- the machine's products by the sign r of x
module _ (b : ℕ) (low : 2 ≤ b) (high : b < 2 ^ 16) (x r : ℤ) (fits : SFits w64 x) (reach : InReach b (nat_abs x)) (is : r ≡ sign_of (to_z w64 (of_z w64 x))) where
  read-x : to_z w64 (of_z w64 x) ≡ x
  read-x = to_z-of_z w64 x fits

  read-sign : to_z w64 (of_z w64 r) ≡ sign_of x
  read-sign = ap (λ (z : ℤ). to_z w64 (of_z w64 z)) (is ∙ ap sign_of read-x) ∙ to_z-of_z w64 (sign_of x) (fits-by-size (sign_of x) (omega (arith, sign-size x)))

  size-held : Held w64 (to_z w64 (of_z w64 r) *ℤ to_z w64 (of_z w64 x)) (pos (nat_abs x))
  size-held = held w64 (ap₂ ◌*ℤ◌ read-sign read-x ∙ sign-times x) (omega (arith, mul-le-mul_left (nat_abs x) low))

  -- with what p steps leave of the size, and its digit d
  module _ (p w : ℕ) (left : w ≡ rest_of b p (nat_abs (to_z w64 (of_z w64 x)))) where
    left_is : w ≡ rest_of b p (nat_abs x)
    left_is = left ∙ ap (λ (z : ℤ). rest_of b p (nat_abs z)) read-x

    rest-reach : InReach b w
    rest-reach = in_reach-less b w (nat_abs x) (rw left_is (rest-less b p (nat_abs x) low)) reach

    digit-held : (s : Step) → s ≡ step_of b w → Held w64 (to_z w64 (of_z w64 r) *ℤ to_z w64 (of_z w64 s.digit)) (digit_of b (to_z w64 (of_z w64 x)) p)
    digit-held s e =
        let d : s.digit ≡ (step_of b w).digit = ap (λ (s : Step). s.digit) e in
        let read : to_z w64 (of_z w64 s.digit) ≡ (step_of b w).digit = ap (λ (z : ℤ). to_z w64 (of_z w64 z)) d ∙ to_z-of_z w64 _ (fits-by-size (step_of b w).digit (omega (arith, step-size b w low))) in
        held w64
        (ap₂ ◌*ℤ◌ read-sign (read ∙ ap (λ (n : ℕ). (step_of b n).digit) left_is) ∙ sym (digit_by-sign b x p) ∙ ap (λ (z : ℤ). digit_of b z p) (sym read-x))
        (omega (arith, digit_bound b (to_z w64 (of_z w64 x)) p low))

-- the machine's sign times x
size : (c : After-sign_of-sign) → let x = c.args.x in Held w64 (to_z w64 (of_z w64 c.sign_of-sign.result) *ℤ to_z w64 (of_z w64 x)) (pos (nat_abs x))
size c =
    let s = c.before in
    let base = s.requires.0 in
    size-held s.args.base.b base.low base.high s.args.x c.sign_of-sign.result s.ranges.x s.requires.1 c.sign_of-sign.ensures

pub overflow_mul-w : goal.overflow_mul-w
overflow_mul-w c = (size c).fits

pub overflow_cast-w : goal.overflow_cast-w
overflow_cast-w c = rw (size c).read (tt, omega (arith, mul-le-mul_left (nat_abs c.args.x) c.requires.0.low))

pub loop-p-init : goal.loop-p-init
loop-p-init c =
    let s = c.before in (
      ap nat_abs ((size c).read ∙ ap (λ (z : ℤ). pos (nat_abs z)) (sym (to_z-of_z w64 s.args.x s.ranges.x))) ∙ sym (rest-none s.args.base.b _),
      filled_none _ _ _ _ refl,
    )

pub take_digit-s-requires : goal.take_digit-s-requires
take_digit-s-requires c =
    let l = c.before in
    let g = l.before in
    let s = g.before in
    let base = s.requires.0 in
    (base, rest-reach s.args.base.b base.low base.high s.args.x g.sign_of-sign.result s.ranges.x s.requires.1 g.sign_of-sign.ensures l.loop-p.p l.loop-p.w l.loop-p.invariant.0)

-- the machine's sign times the digit, which is digit p of the entry
digit : (c : After-take_digit-s) →
    Held w64 (to_z w64 (of_z w64 c.sign_of-sign.result) *ℤ to_z w64 (of_z w64 c.take_digit-s.result.digit)) (digit_of c.args.base.b (to_z w64 (of_z w64 c.args.x)) c.loop-p.p)
digit c =
    let base = c.requires.0 in
    digit-held c.args.base.b base.low base.high c.args.x c.sign_of-sign.result c.ranges.x c.requires.1 c.sign_of-sign.ensures c.loop-p.p c.loop-p.w c.loop-p.invariant.0
    c.take_digit-s.result c.take_digit-s.ensures

pub overflow_mul-out : goal.overflow_mul-out
overflow_mul-out c = (digit (goal.at.overflow_mul-out c).After-take_digit-s).fits

pub loop-p-preserved : goal.loop-p-preserved
loop-p-preserved c =
    let l = c.loop-p in
    let b = c.args.base.b in (
      ap (λ (s : Step). s.rest) c.take_digit-s.ensures ∙ ap (λ (n : ℕ). (step_of b n).rest) l.invariant.0 ∙ sym (rest_more b l.p _),
      filled_more _ _ _ l.p l.out _ (omega arith) (digit (goal.at.loop-p-preserved c).After-take_digit-s).read l.invariant.1,
    )

pub returns : goal.returns
returns c =
    let s = c.before.before.before in
    let l = c.loop-p in
    filled-all _ _ _ l.p l.out (omega arith) l.invariant.1
    ∙ ap (λ (z : ℤ). digits_of s.args.base.b (length s.args.out.now) z) (to_z-of_z w64 s.args.x s.ranges.x)
