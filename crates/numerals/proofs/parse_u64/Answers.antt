-- `numerals::parse_u64` meets its contract: the answer is that of the bytes from the index on, after digits of value n.
use Rattle.std.proofs.Common.{arith, ◌∙◌}
use Rattle.std.proofs.lemmas.Grind.{common_steps}
use Rattle.numerals.proofs.Reading.{is-plain, empty_bad, zero-first, read_plain, bad_byte, next_byte, large_byte, large_tenfold, whole}
use Rattle.numerals.proofs.parse_u64.Goals as goal

pub returns-then-is_empty : goal.returns-then-is_empty
returns-then-is_empty c = empty_bad _ (grind (arith, common_steps))

pub returns-then-s-gt1 : goal.returns-then-s-gt1
returns-then-s-gt1 c = zero-first _ c.if-s-gt1.true c.if-s-eq48.true

pub loop-byte-init : goal.loop-byte-init
loop-byte-init c = (omega arith, read_plain _ (is-plain _ (grind (arith, common_steps)) (grind (arith, common_steps))))

pub returns-in_err-checked_mul : goal.returns-in_err-checked_mul
returns-in_err-checked_mul c =
    let l = c.loop-byte in
    c.from_residual.ensures ∙ large_tenfold _ l.byte-index l.n c.loop-byte-test.true l.invariant.1 (omega (arith, c.in_err-checked_mul.ensures))

pub returns-in_err-digit_of : goal.returns-in_err-digit_of
returns-in_err-digit_of c =
    let l = c.loop-byte in
    c.from_residual-in_err-digit_of.ensures ∙ bad_byte _ l.byte-index l.n c.loop-byte-test.true l.invariant.1 c.in_err-digit_of.ensures

pub returns-in_err-n : goal.returns-in_err-n
returns-in_err-n c =
    let l = c.loop-byte in
    let m = c.in_ok-checked_mul.ensures in
    let d = c.in_ok-digit_of.ensures in
    c.from_residual-in_err-n.ensures ∙ large_byte _ l.byte-index l.n c.loop-byte-test.true l.invariant.1 d.0 (omega (arith, c.in_err-n.ensures))

pub loop-byte-preserved : goal.loop-byte-preserved
loop-byte-preserved c =
    let l = c.loop-byte in
    let m = c.in_ok-checked_mul.ensures in
    let d = c.in_ok-digit_of.ensures in
    let a = c.in_ok-n.ensures in
    (omega arith, next_byte _ l.byte-index l.n c.loop-byte-test.true l.invariant.1 _ d.0 (omega arith))

pub returns : goal.returns
returns c = let l = c.loop-byte in whole _ l.byte-index l.n c.loop-byte-test.false l.invariant.0 l.invariant.1
