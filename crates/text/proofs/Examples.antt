-- Lines and records, by computation.
use mathlib.Core.Path.{◌≡◌, refl}
use mathlib.Core.List.{[], ◌∷◌}
use Rattle.std.specs.Prelude.{Some, None}
use lib.IntN.{pos, negsuc}
use Rattle.numerals.specs.Numerals.{is_digit, are_digits, is_plain, value_from, natural_from, natural, with_minus, without_minus, integer, fit_unsigned, fit_signed, read_unsigned, read_signed}
use Rattle.text.specs.Fields.{onto, fields, same, push, exactly, after_word, record_of, read_u64, read_i64, read_ternary, cut_at}
use Rattle.text.specs.Lines.{tabbed, joined, line_of}

-- an empty line has one field, an empty one
pub empty-line : fields [] ≡ [] ∷ []
unfolding cut_at onto
empty-line = refl

-- a<TAB><TAB>b has three fields
pub tab_twice : fields (97 ∷ 9 ∷ 9 ∷ 98 ∷ []) ≡ (97 ∷ []) ∷ [] ∷ (98 ∷ []) ∷ []
unfolding cut_at onto
tab_twice = refl

-- a tab at the end makes one field more
pub tab_last : fields (97 ∷ 9 ∷ []) ≡ (97 ∷ []) ∷ [] ∷ []
unfolding cut_at onto
tab_last = refl

-- the line of a and b
pub two_fields : line_of ((97 ∷ []) ∷ (98 ∷ []) ∷ []) ≡ 97 ∷ 9 ∷ 98 ∷ 10 ∷ []
unfolding line_of joined tabbed
two_fields = refl

-- c<TAB>1<TAB>0<TAB>-1
pub ternary-row : record_of read_ternary (99 ∷ []) 3 (99 ∷ 9 ∷ 49 ∷ 9 ∷ 48 ∷ 9 ∷ 45 ∷ 49 ∷ []) ≡ Some (1 ∷ 0 ∷ 2 ∷ [])
unfolding record_of after_word cut_at onto same exactly push read_ternary
ternary-row = refl

-- c<TAB>2
pub ternary-two : record_of read_ternary (99 ∷ []) 1 (99 ∷ 9 ∷ 50 ∷ []) ≡ None
unfolding record_of after_word cut_at onto same exactly push read_ternary
ternary-two = refl

-- c<TAB>01
pub ternary_leading_zero : record_of read_ternary (99 ∷ []) 1 (99 ∷ 9 ∷ 48 ∷ 49 ∷ []) ≡ None
unfolding record_of after_word cut_at onto same exactly push read_ternary
ternary_leading_zero = refl

-- c<TAB>+1
pub ternary-plus : record_of read_ternary (99 ∷ []) 1 (99 ∷ 9 ∷ 43 ∷ 49 ∷ []) ≡ None
unfolding record_of after_word cut_at onto same exactly push read_ternary
ternary-plus = refl

-- c<TAB>-0
pub ternary-minus-zero : record_of read_ternary (99 ∷ []) 1 (99 ∷ 9 ∷ 45 ∷ 48 ∷ []) ≡ None
unfolding record_of after_word cut_at onto same exactly push read_ternary
ternary-minus-zero = refl

-- c<TAB>, with an empty field
pub ternary-empty : record_of read_ternary (99 ∷ []) 1 (99 ∷ 9 ∷ []) ≡ None
unfolding record_of after_word cut_at onto same exactly push read_ternary
ternary-empty = refl

-- c<TAB> 1
pub ternary-blank : record_of read_ternary (99 ∷ []) 1 (99 ∷ 9 ∷ 32 ∷ 49 ∷ []) ≡ None
unfolding record_of after_word cut_at onto same exactly push read_ternary
ternary-blank = refl

-- c<TAB>1<CR>
pub ternary_return : record_of read_ternary (99 ∷ []) 1 (99 ∷ 9 ∷ 49 ∷ 13 ∷ []) ≡ None
unfolding record_of after_word cut_at onto same exactly push read_ternary
ternary_return = refl

-- c<TAB>-1-
pub ternary_dash : record_of read_ternary (99 ∷ []) 1 (99 ∷ 9 ∷ 45 ∷ 49 ∷ 45 ∷ []) ≡ None
unfolding record_of after_word cut_at onto same exactly push read_ternary
ternary_dash = refl

-- two fields where three are due, and three where two are
pub too_few : record_of read_ternary (99 ∷ []) 3 (99 ∷ 9 ∷ 49 ∷ 9 ∷ 48 ∷ []) ≡ None
unfolding record_of after_word cut_at onto same exactly push read_ternary
too_few = refl

pub too_many : record_of read_ternary (99 ∷ []) 2 (99 ∷ 9 ∷ 49 ∷ 9 ∷ 48 ∷ 9 ∷ 49 ∷ []) ≡ None
unfolding record_of after_word cut_at onto same exactly push read_ternary
too_many = refl

-- the word alone: with no field due, and with one
pub word_alone : record_of read_u64 (97 ∷ []) 0 (97 ∷ []) ≡ Some []
unfolding record_of after_word cut_at onto same exactly push read_unsigned natural is_plain natural_from are_digits is_digit value_from fit_unsigned
word_alone = refl

pub word_no_field : record_of read_u64 (97 ∷ []) 1 (97 ∷ []) ≡ None
unfolding record_of after_word cut_at onto same exactly push read_unsigned natural is_plain natural_from are_digits is_digit value_from fit_unsigned
word_no_field = refl

-- another word, a longer and a shorter one
pub other-words : record_of read_u64 (97 ∷ 98 ∷ []) 1 (97 ∷ 120 ∷ 9 ∷ 49 ∷ []) ≡ None
unfolding record_of after_word cut_at onto same exactly push read_unsigned natural is_plain natural_from are_digits is_digit value_from fit_unsigned
other-words = refl

pub longer_words : record_of read_u64 (97 ∷ 98 ∷ []) 1 (97 ∷ 98 ∷ 99 ∷ 9 ∷ 49 ∷ []) ≡ None
unfolding record_of after_word cut_at onto same exactly push read_unsigned natural is_plain natural_from are_digits is_digit value_from fit_unsigned
longer_words = refl

pub shorter_words : record_of read_u64 (97 ∷ 98 ∷ []) 1 (97 ∷ 9 ∷ 49 ∷ []) ≡ None
unfolding record_of after_word cut_at onto same exactly push read_unsigned natural is_plain natural_from are_digits is_digit value_from fit_unsigned
shorter_words = refl

-- an empty line
pub empty_record : record_of read_u64 (97 ∷ []) 0 [] ≡ None
unfolding record_of after_word cut_at onto same exactly push read_unsigned natural is_plain natural_from are_digits is_digit value_from fit_unsigned
empty_record = refl

-- a<TAB>0<TAB>18446744073709551615
pub unsigned-row : record_of read_u64 (97 ∷ []) 2 (97 ∷ 9 ∷ 48 ∷ 9 ∷ 49 ∷ 56 ∷ 52 ∷ 52 ∷ 54 ∷ 55 ∷ 52 ∷ 52 ∷ 48 ∷ 55 ∷ 51 ∷ 55 ∷ 48 ∷ 57 ∷ 53 ∷ 53 ∷ 49 ∷ 54 ∷ 49 ∷ 53 ∷ []) ≡ Some (0 ∷ 18446744073709551615 ∷ [])
unfolding record_of after_word cut_at onto same exactly push read_unsigned natural is_plain natural_from are_digits is_digit value_from fit_unsigned
unsigned-row = refl

-- a<TAB>18446744073709551616
pub unsigned-beyond : record_of read_u64 (97 ∷ []) 1 (97 ∷ 9 ∷ 49 ∷ 56 ∷ 52 ∷ 52 ∷ 54 ∷ 55 ∷ 52 ∷ 52 ∷ 48 ∷ 55 ∷ 51 ∷ 55 ∷ 48 ∷ 57 ∷ 53 ∷ 53 ∷ 49 ∷ 54 ∷ 49 ∷ 54 ∷ []) ≡ None
unfolding record_of after_word cut_at onto same exactly push read_unsigned natural is_plain natural_from are_digits is_digit value_from fit_unsigned
unsigned-beyond = refl

-- a<TAB>-1
pub unsigned-minus : record_of read_u64 (97 ∷ []) 1 (97 ∷ 9 ∷ 45 ∷ 49 ∷ []) ≡ None
unfolding record_of after_word cut_at onto same exactly push read_unsigned natural is_plain natural_from are_digits is_digit value_from fit_unsigned
unsigned-minus = refl

-- l<TAB>-9223372036854775808<TAB>7
pub signed-row : record_of read_i64 (108 ∷ []) 2 (108 ∷ 9 ∷ 45 ∷ 57 ∷ 50 ∷ 50 ∷ 51 ∷ 51 ∷ 55 ∷ 50 ∷ 48 ∷ 51 ∷ 54 ∷ 56 ∷ 53 ∷ 52 ∷ 55 ∷ 55 ∷ 53 ∷ 56 ∷ 48 ∷ 56 ∷ 9 ∷ 55 ∷ []) ≡ Some (negsuc 9223372036854775807 ∷ pos 7 ∷ [])
unfolding record_of after_word cut_at onto same exactly push read_signed integer with_minus without_minus natural is_plain natural_from are_digits is_digit value_from fit_signed
signed-row = refl

-- l<TAB>9223372036854775808
pub signed-beyond : record_of read_i64 (108 ∷ []) 1 (108 ∷ 9 ∷ 57 ∷ 50 ∷ 50 ∷ 51 ∷ 51 ∷ 55 ∷ 50 ∷ 48 ∷ 51 ∷ 54 ∷ 56 ∷ 53 ∷ 52 ∷ 55 ∷ 55 ∷ 53 ∷ 56 ∷ 48 ∷ 56 ∷ []) ≡ None
unfolding record_of after_word cut_at onto same exactly push read_signed integer with_minus without_minus natural is_plain natural_from are_digits is_digit value_from fit_signed
signed-beyond = refl
