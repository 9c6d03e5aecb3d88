-- Decimal numerals: digits alone, or a minus and digits, with no plus, no leading 0 and no −0.
use Rattle.std.specs.Prelude.{Bool, true, false, not, cond, List, [], ◌∷◌, ◌++◌, ℕ, zero, suc, ◌+◌, ◌-◌, ◌*◌, ◌/◌, ◌%◌, ◌^◌, leb, ltb, eqb, ℤ, pos, negsuc, Option, Some, None}

-- whether x is the ASCII code of a digit
unfoldable pub is_digit : ℕ → Bool
is_digit x = cond (leb 48 x) (leb x 57) false

-- whether every byte is a digit
unfoldable pub are_digits : List ℕ → Bool
are_digits [] = true
are_digits (x ∷ s) = cond (is_digit x) (are_digits s) false

-- whether there is at least one byte, and no 0 before another
unfoldable pub is_plain : List ℕ → Bool
is_plain [] = false
is_plain (x ∷ []) = true
is_plain (x ∷ (y ∷ s)) = not (eqb x 48)

-- the value of the digits s that follow digits of value n
unfoldable pub value_from : ℕ → List ℕ → ℕ
value_from n [] = n
value_from n (x ∷ s) = value_from (n * 10 + (x - 48)) s

-- the same, and none where a byte is no digit
unfoldable pub natural_from : ℕ → List ℕ → Option ℕ
natural_from n s = cond (are_digits s) (Some (value_from n s)) None

-- the natural number that s is a numeral of
unfoldable pub natural : List ℕ → Option ℕ
natural s = cond (is_plain s) (natural_from 0 s) None

-- a natural number as a whole one
unfoldable pub without_minus : Option ℕ → Option ℤ
without_minus None = None
without_minus (Some n) = Some (pos n)

-- a natural number after a minus: 0 has no sign
unfoldable pub with_minus : Option ℕ → Option ℤ
with_minus None = None
with_minus (Some zero) = None
with_minus (Some (suc n)) = Some (negsuc n)

-- the whole number that s is a numeral of; byte 45 is the minus
unfoldable pub integer : List ℕ → Option ℤ
integer [] = None
integer (x ∷ s) = cond (eqb x 45) (with_minus (natural s)) (without_minus (natural (x ∷ s)))

-- a number that an unsigned word of 64 bits holds
unfoldable pub fit_unsigned : Option ℕ → Option ℕ
fit_unsigned None = None
fit_unsigned (Some n) = cond (ltb n (2 ^ 64)) (Some n) None

-- a number that a signed word of 64 bits holds: negsuc n is −(n + 1), so −2^63 is the last
unfoldable pub fit_signed : Option ℤ → Option ℤ
fit_signed None = None
fit_signed (Some (pos n)) = cond (ltb n (2 ^ 63)) (Some (pos n)) None
fit_signed (Some (negsuc n)) = cond (ltb n (2 ^ 63)) (Some (negsuc n)) None

-- what a byte string is as an unsigned number
unfoldable pub read_unsigned : List ℕ → Option ℕ
read_unsigned s = fit_unsigned (natural s)

-- what a byte string is as a signed number
unfoldable pub read_signed : List ℕ → Option ℤ
read_signed s = fit_signed (integer s)

-- the numeral of n, by at most as many steps as the first argument
unfoldable pub decimal_in : ℕ → ℕ → List ℕ
decimal_in zero n = []
decimal_in (suc f) n = let more = decimal_in f (n / 10) ++ ((48 + n % 10) ∷ []) in cond (ltb n 10) ((48 + n) ∷ []) more

-- the numeral of n; n + 1 steps are always enough
unfoldable pub decimal : ℕ → List ℕ
decimal n = decimal_in (suc n) n

-- the numeral of a whole number
unfoldable pub decimal_Z : ℤ → List ℕ
decimal_Z (pos n) = decimal n
decimal_Z (negsuc n) = 45 ∷ decimal (suc n)
