-- `digits::take_digit` meets its contract: d is w modulo b, and the step by its carry is the rule's.
use mathlib.Core.Path.{◌≡◌, sym, ◌∙◌, ap, ap₂}
use Prim.Native.Nat.{ℕ, ◌+◌, ◌*◌, ◌-◌, ◌/◌, ◌%◌, ◌<◌, ◌≤◌, ◌^◌}
use native.Mathlib.Omega.{arith}
use native.Mathlib.Nat.{div-add-mod', div-mul-le_self, mod-lt, mul-le-mul, mul-le-mul_left}
use lib.IntN.{ℤ, pos, ◌-ℤ◌}
use mir.Syntax.{w64}
use mir.Val.{to_z, of_z}
use mir.ValLaws.{to_z_pos}
use Rattle.integers.proofs.Words.{Held, held}
use Rattle.digits.specs.declared.Step.{Step}
use Rattle.digits.specs.Bases.{InReach}
use Rattle.digits.specs.Digits.{step_of, carry_of}
use Rattle.digits.proofs.Steps.{carry_most, by_carry, step-size}
use Rattle.digits.proofs.take_digit.Goals as goal
use Rattle.digits.proofs.take_digit.Goals.{After-divide-carry, After-divide-q}

-- what is below 2b can be divided
twice-reach : (b x : ℕ) → b < 2 ^ 16 → x < 2 * b → InReach b x
twice-reach b x high h =
    let most : x ≤ 131069 = omega arith in
    let base : b ≤ 65535 = omega arith in
    omega (arith, mul-le-mul most base)

-- with the quotient q = w / b
module _ (b w q : ℕ) (low : 2 ≤ b) (high : b < 2 ^ 16) (is-q : q ≡ w / b) where
  multiple : b * q ≤ w
  multiple = rw is-q (omega (arith, div-mul-le_self w b))

  d-is : w - b * q ≡ w % b
  d-is = rw is-q (omega (arith, div-add-mod' w b))

  d-below : w - b * q < b
  d-below = rw d-is (mod-lt w (omega arith))

  -- and the carry
  module _ (carry : ℕ) (is-carry : carry ≡ (w - b * q + b - 1 - b / 2) / b) where
    carry-is : carry ≡ carry_of b (w % b)
    carry-is = is-carry ∙ ap (carry_of b) d-is

    one-most : carry ≤ 1
    one-most = rw carry-is (carry_most b (w % b) low (mod-lt w (omega arith)))

    scaled : b * carry ≤ b
    scaled = omega (arith, mul-le-mul_left b one-most)

    rest-fits : w < 2 ^ 64 → q + carry < 2 ^ 64
    rest-fits h = omega (arith, one-most, multiple, mul-le-mul_left {m = 2} {n = b} q low)

    step_is : step_of b w ≡ record { digit = pos (w - b * q) -ℤ pos (b * carry); rest = q + carry }
    step_is = rw (d-is, is-q, carry-is) (by_carry b w low)

    -- the digit, from the two casts
    digit-held : Held w64 (to_z w64 (w - b * q) -ℤ to_z w64 (b * carry)) (step_of b w).digit
    digit-held = held w64
        (ap₂ ◌-ℤ◌ (to_z_pos w64 (w - b * q) (omega (arith, d-below))) (to_z_pos w64 (b * carry) (omega (arith, scaled)))
        ∙ sym (ap (λ (s : Step). s.digit) step_is))
        (omega (arith, step-size b w low))

    taken : ◌≡◌ {A = Step} (record { digit = to_z w64 (of_z w64 (to_z w64 (w - b * q) -ℤ to_z w64 (b * carry))); rest = q + carry }) (step_of b w)
    taken =
        ap (λ (z : ℤ). record { digit = z; rest = q + carry }) (digit-held.read ∙ ap (λ (s : Step). s.digit) step_is) ∙ sym step_is

pub overflow_mul-d : goal.overflow_mul-d
overflow_mul-d c =
    let a = c.args in
    let base = c.requires.0 in
    omega (arith, multiple a.base.b a.w c.divide-q.result base.low base.high c.divide-q.ensures)

pub overflow_sub-d : goal.overflow_sub-d
overflow_sub-d c =
    let a = c.args in
    let base = c.requires.0 in
    multiple a.base.b a.w c.divide-q.result base.low base.high c.divide-q.ensures

below : (c : After-divide-q) → let a = c.args in a.w - a.base.b * c.divide-q.result < a.base.b
below c =
    let a = c.args in
    let base = c.requires.0 in
    d-below a.base.b a.w c.divide-q.result base.low base.high c.divide-q.ensures

pub overflow_add-d : goal.overflow_add-d
overflow_add-d c = omega (arith, below c, c.requires.0.high)

pub overflow_sub-d-2 : goal.overflow_sub-d-2
overflow_sub-d-2 c = omega (arith, c.requires.0.low)

pub overflow_sub-d-3 : goal.overflow_sub-d-3
overflow_sub-d-3 c = omega (arith, c.requires.0.low)

pub divide-carry-requires : goal.divide-carry-requires
divide-carry-requires c = let base = c.requires.0 in (base, twice-reach c.args.base.b _ base.high (omega (arith, below c)))

pub overflow_cast-result : goal.overflow_cast-result
overflow_cast-result c = omega (arith, below c.before, c.requires.0.high)

most : (c : After-divide-carry) → let b = c.args.base.b in b * c.divide-carry.result ≤ b
most c =
    let a = c.args in
    let base = c.requires.0 in
    scaled a.base.b a.w c.divide-q.result base.low base.high c.divide-q.ensures c.divide-carry.result c.divide-carry.ensures

pub overflow_mul-result : goal.overflow_mul-result
overflow_mul-result c = omega (arith, most c, c.requires.0.high)

pub overflow_cast-result-2 : goal.overflow_cast-result-2
overflow_cast-result-2 c = omega (arith, most c, c.requires.0.high)

pub overflow_sub-result : goal.overflow_sub-result
overflow_sub-result c =
    let a = c.args in
    let base = c.requires.0 in
    (digit-held a.base.b a.w c.divide-q.result base.low base.high c.divide-q.ensures c.divide-carry.result c.divide-carry.ensures).fits

pub overflow_add-result : goal.overflow_add-result
overflow_add-result c =
    let a = c.args in
    let base = c.requires.0 in
    omega (arith, rest-fits a.base.b a.w c.divide-q.result base.low base.high c.divide-q.ensures c.divide-carry.result c.divide-carry.ensures (omega arith))

pub returns : goal.returns
returns c =
    let a = c.args in
    let base = c.requires.0 in
    taken a.base.b a.w c.divide-q.result base.low base.high c.divide-q.ensures c.divide-carry.result c.divide-carry.ensures
