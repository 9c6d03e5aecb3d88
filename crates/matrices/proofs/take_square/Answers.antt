-- `matrices::take_square` meets its contract: a size of 2^32 or more has a square above every word.
use Rattle.std.proofs.Common.{◌≡◌, nat_abs, ap, ◌∙◌, mul-le-mul, arith, w64}
use mir.ValLaws.{to_z-of_z}
use Rattle.matrices.proofs.Lengths.{square-within, square_above}
use Rattle.matrices.proofs.take_square.Goals as goal
use Rattle.matrices.proofs.take_square.Goals.{After-size-w}

-- the size that was taken
size_is : (c : After-size-w) → c.size-w.result ≡ nat_abs c.args.x
size_is c = c.size-w.ensures ∙ ap nat_abs (to_z-of_z w64 c.args.x c.ranges.x)

pub returns-then-w-gt4294967295 : goal.returns-then-w-gt4294967295
returns-then-w-gt4294967295 c =
    let w = c.size-w.result in
    square_above c.args.left w c.args.x (size_is (goal.at.returns-then-w-gt4294967295 c).After-size-w)
    (omega (arith, mul-le-mul {n₁ = 4294967296} {m₁ = 4294967296} {n₂ = w} {m₂ = w} (omega arith) (omega arith)))

pub overflow_mul-square : goal.overflow_mul-square
overflow_mul-square c =
    let w = c.size-w.result in
    omega (arith, mul-le-mul {n₁ = w} {m₁ = w} {n₂ = 4294967295} {m₂ = 4294967295} (omega arith) (omega arith))

pub returns-then-left-square : goal.returns-then-left-square
returns-then-left-square c = square_above c.args.left c.size-w.result c.args.x (size_is (goal.at.returns-then-left-square c).After-size-w) (omega arith)

pub returns : goal.returns
returns c = square-within c.args.left c.size-w.result c.args.x (size_is (goal.at.returns c).After-size-w) (omega arith)
