-- Readings at the borders, by computation.
use mathlib.Core.Path.{◌≡◌, refl}
use mathlib.Core.List.{[], ◌∷◌}
use Rattle.std.specs.Prelude.{Some, None}
use lib.IntN.{pos, negsuc}
use Rattle.numerals.specs.Numerals.{is_digit, are_digits, is_plain, value_from, natural_from, natural, with_minus, without_minus, integer, fit_unsigned, fit_signed, read_unsigned, read_signed, decimal_in, decimal, decimal_Z}

-- 18446744073709551615, that is 2^64 − 1
pub largest-unsigned : read_unsigned (49 ∷ 56 ∷ 52 ∷ 52 ∷ 54 ∷ 55 ∷ 52 ∷ 52 ∷ 48 ∷ 55 ∷ 51 ∷ 55 ∷ 48 ∷ 57 ∷ 53 ∷ 53 ∷ 49 ∷ 54 ∷ 49 ∷ 53 ∷ []) ≡ Some 18446744073709551615
unfolding read_unsigned natural is_plain natural_from are_digits is_digit value_from fit_unsigned
largest-unsigned = refl

-- 18446744073709551616, that is 2^64
pub beyond-unsigned : read_unsigned (49 ∷ 56 ∷ 52 ∷ 52 ∷ 54 ∷ 55 ∷ 52 ∷ 52 ∷ 48 ∷ 55 ∷ 51 ∷ 55 ∷ 48 ∷ 57 ∷ 53 ∷ 53 ∷ 49 ∷ 54 ∷ 49 ∷ 54 ∷ []) ≡ None
unfolding read_unsigned natural is_plain natural_from are_digits is_digit value_from fit_unsigned
beyond-unsigned = refl

-- 0
pub zero-unsigned : read_unsigned (48 ∷ []) ≡ Some 0
unfolding read_unsigned natural is_plain natural_from are_digits is_digit value_from fit_unsigned
zero-unsigned = refl

-- 01
pub leading_zero : read_unsigned (48 ∷ 49 ∷ []) ≡ None
unfolding read_unsigned natural is_plain natural_from are_digits is_digit value_from fit_unsigned
leading_zero = refl

-- +1
pub plus-unsigned : read_unsigned (43 ∷ 49 ∷ []) ≡ None
unfolding read_unsigned natural is_plain natural_from are_digits is_digit value_from fit_unsigned
plus-unsigned = refl

-- -1 is no unsigned number
pub minus-unsigned : read_unsigned (45 ∷ 49 ∷ []) ≡ None
unfolding read_unsigned natural is_plain natural_from are_digits is_digit value_from fit_unsigned
minus-unsigned = refl

-- nothing
pub empty-unsigned : read_unsigned ([]) ≡ None
unfolding read_unsigned natural is_plain natural_from are_digits is_digit value_from fit_unsigned
empty-unsigned = refl

-- 9223372036854775807, that is 2^63 − 1
pub largest-signed : read_signed (57 ∷ 50 ∷ 50 ∷ 51 ∷ 51 ∷ 55 ∷ 50 ∷ 48 ∷ 51 ∷ 54 ∷ 56 ∷ 53 ∷ 52 ∷ 55 ∷ 55 ∷ 53 ∷ 56 ∷ 48 ∷ 55 ∷ []) ≡ Some (pos 9223372036854775807)
unfolding read_signed integer with_minus without_minus natural is_plain natural_from are_digits is_digit value_from fit_signed
largest-signed = refl

-- 9223372036854775808, that is 2^63
pub beyond-signed : read_signed (57 ∷ 50 ∷ 50 ∷ 51 ∷ 51 ∷ 55 ∷ 50 ∷ 48 ∷ 51 ∷ 54 ∷ 56 ∷ 53 ∷ 52 ∷ 55 ∷ 55 ∷ 53 ∷ 56 ∷ 48 ∷ 56 ∷ []) ≡ None
unfolding read_signed integer with_minus without_minus natural is_plain natural_from are_digits is_digit value_from fit_signed
beyond-signed = refl

-- -9223372036854775808, that is −2^63
pub lowest_signed : read_signed (45 ∷ 57 ∷ 50 ∷ 50 ∷ 51 ∷ 51 ∷ 55 ∷ 50 ∷ 48 ∷ 51 ∷ 54 ∷ 56 ∷ 53 ∷ 52 ∷ 55 ∷ 55 ∷ 53 ∷ 56 ∷ 48 ∷ 56 ∷ []) ≡ Some (negsuc 9223372036854775807)
unfolding read_signed integer with_minus without_minus natural is_plain natural_from are_digits is_digit value_from fit_signed
lowest_signed = refl

-- -9223372036854775809
pub below-signed : read_signed (45 ∷ 57 ∷ 50 ∷ 50 ∷ 51 ∷ 51 ∷ 55 ∷ 50 ∷ 48 ∷ 51 ∷ 54 ∷ 56 ∷ 53 ∷ 52 ∷ 55 ∷ 55 ∷ 53 ∷ 56 ∷ 48 ∷ 57 ∷ []) ≡ None
unfolding read_signed integer with_minus without_minus natural is_plain natural_from are_digits is_digit value_from fit_signed
below-signed = refl

-- -0
pub minus-zero : read_signed (45 ∷ 48 ∷ []) ≡ None
unfolding read_signed integer with_minus without_minus natural is_plain natural_from are_digits is_digit value_from fit_signed
minus-zero = refl

-- -01
pub minus_leading_zero : read_signed (45 ∷ 48 ∷ 49 ∷ []) ≡ None
unfolding read_signed integer with_minus without_minus natural is_plain natural_from are_digits is_digit value_from fit_signed
minus_leading_zero = refl

-- +1
pub plus-signed : read_signed (43 ∷ 49 ∷ []) ≡ None
unfolding read_signed integer with_minus without_minus natural is_plain natural_from are_digits is_digit value_from fit_signed
plus-signed = refl

-- -
pub minus_alone : read_signed (45 ∷ []) ≡ None
unfolding read_signed integer with_minus without_minus natural is_plain natural_from are_digits is_digit value_from fit_signed
minus_alone = refl

-- nothing
pub empty_numeral : read_signed ([]) ≡ None
unfolding read_signed integer with_minus without_minus natural is_plain natural_from are_digits is_digit value_from fit_signed
empty_numeral = refl

-- the numerals of 2^64 − 1 and of −2^63
pub write-largest : decimal 18446744073709551615 ≡ 49 ∷ 56 ∷ 52 ∷ 52 ∷ 54 ∷ 55 ∷ 52 ∷ 52 ∷ 48 ∷ 55 ∷ 51 ∷ 55 ∷ 48 ∷ 57 ∷ 53 ∷ 53 ∷ 49 ∷ 54 ∷ 49 ∷ 53 ∷ []
unfolding decimal decimal_in
write-largest = refl

pub write_lowest : decimal_Z (negsuc 9223372036854775807) ≡ 45 ∷ 57 ∷ 50 ∷ 50 ∷ 51 ∷ 51 ∷ 55 ∷ 50 ∷ 48 ∷ 51 ∷ 54 ∷ 56 ∷ 53 ∷ 52 ∷ 55 ∷ 55 ∷ 53 ∷ 56 ∷ 48 ∷ 56 ∷ []
unfolding decimal_Z decimal decimal_in
write_lowest = refl
