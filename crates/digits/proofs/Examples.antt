-- Document 01's points on digits, and some more, by computation.
use mathlib.Core.Path.{◌≡◌, refl}
use mathlib.Core.List.{[], ◌∷◌}
use lib.IntN.{pos, negsuc}
use Rattle.integers.specs.Lists.{build}
use Rattle.digits.specs.Digits.{step_of, rest_of, digit_of, digits_of, row_digits}

-- b = 2, k = 5: 7 is 1 1 1 0 0
pub seven_by-two : digits_of 2 5 (pos 7) ≡ pos 1 ∷ pos 1 ∷ pos 1 ∷ pos 0 ∷ pos 0 ∷ []
unfolding build step_of rest_of digit_of
seven_by-two = refl

-- b = 2, k = 5: −5 is −1 0 −1 0 0
pub minus-five-by-two : digits_of 2 5 (negsuc 4) ≡ negsuc 0 ∷ pos 0 ∷ negsuc 0 ∷ pos 0 ∷ pos 0 ∷ []
unfolding build step_of rest_of digit_of
minus-five-by-two = refl

-- b = 3, k = 3: 5 is −1 −1 1
pub five-by-three : digits_of 3 3 (pos 5) ≡ negsuc 0 ∷ negsuc 0 ∷ pos 1 ∷ []
unfolding build step_of rest_of digit_of
five-by-three = refl

-- b = 4, k = 3: 6 is 2 1 0
pub six-by-four : digits_of 4 3 (pos 6) ≡ pos 2 ∷ pos 1 ∷ pos 0 ∷ []
unfolding build step_of rest_of digit_of
six-by-four = refl

-- b = 4, k = 3: 7 is −1 2 0
pub seven_by-four : digits_of 4 3 (pos 7) ≡ negsuc 0 ∷ pos 2 ∷ pos 0 ∷ []
unfolding build step_of rest_of digit_of
seven_by-four = refl

-- a tie goes by the sign: at b = 4, 2 is 2 0 and −2 is −2 0
pub two-by-four : digits_of 4 2 (pos 2) ≡ pos 2 ∷ pos 0 ∷ []
unfolding build step_of rest_of digit_of
two-by-four = refl

pub minus-two-by-four : digits_of 4 2 (negsuc 1) ≡ negsuc 1 ∷ pos 0 ∷ []
unfolding build step_of rest_of digit_of
minus-two-by-four = refl

-- the digits of −1 end: at b = 2 it is −1 0 0 0 0
pub minus-one-by-two : digits_of 2 5 (negsuc 0) ≡ negsuc 0 ∷ pos 0 ∷ pos 0 ∷ pos 0 ∷ pos 0 ∷ []
unfolding build step_of rest_of digit_of
minus-one-by-two = refl

-- −2^63, whose size is no signed word: at b = 256, k = 8 it is seven 0 and −128
pub lowest_by_256 : digits_of 256 8 (negsuc 9223372036854775807) ≡ pos 0 ∷ pos 0 ∷ pos 0 ∷ pos 0 ∷ pos 0 ∷ pos 0 ∷ pos 0 ∷ negsuc 127 ∷ []
unfolding build step_of rest_of digit_of
lowest_by_256 = refl

-- each entry's digits stand together: the row 6, −7 at b = 4, k = 3 is 2 1 0, 1 −2 0 (by power first it would be 2 1, 1 −2, 0 0)
pub row-by-four : row_digits 4 3 (pos 6 ∷ negsuc 6 ∷ []) ≡ pos 2 ∷ pos 1 ∷ pos 0 ∷ pos 1 ∷ negsuc 1 ∷ pos 0 ∷ []
unfolding build step_of rest_of digit_of
row-by-four = refl
