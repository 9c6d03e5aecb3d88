-- Document 01's digit rule: the balanced digits of an entry to the base b.
use Rattle.std.specs.Prelude.{cond, List, ℕ, zero, suc, ◌+◌, ◌*◌, ◌-◌, ◌/◌, ◌%◌, leb, ℤ, pos, negsuc, neg_ℤ, ◌-ℤ◌, length, get_or}
use Rattle.integers.specs.Lists.{build}
use Rattle.digits.specs.declared.Step.{Step}

-- one step of the rule: with d = w modulo b, the digit is d and w becomes (w − d)/b where d ≤ h, else d − b and (w − d)/b + 1
unfoldable pub step_of : ℕ → ℕ → Step
step_of b w =
    cond (leb (w % b) (b / 2))
    (record { digit = pos (w % b); rest = (w - w % b) / b })
    (record { digit = pos (w % b) -ℤ pos b; rest = (w - w % b) / b + 1 })

-- the carry of d: (d + b − 1 − h) divided by b, rounded down; it is the 1 that the rule adds, or 0 (`by_arithmetic`)
abbrev pub carry_of : ℕ → ℕ → ℕ
carry_of b d = (d + b - 1 - b / 2) / b

-- what is left of the size w after p steps
unfoldable pub rest_of : ℕ → ℕ → ℕ → ℕ
rest_of b zero w = w
rest_of b (suc p) w = (step_of b (rest_of b p w)).rest

-- the sign of an entry: −1 below 0, else 1
unfoldable pub sign_of : ℤ → ℤ
sign_of (pos w) = pos 1
sign_of (negsuc w) = negsuc 0

-- digit p of an entry: a negative entry has the negated digits of its size
unfoldable pub digit_of : ℕ → ℤ → ℕ → ℤ
digit_of b (pos w) p = (step_of b (rest_of b p w)).digit
digit_of b (negsuc w) p = neg_ℤ (step_of b (rest_of b p (suc w))).digit

-- the k digits of an entry, power 0 first
abbrev pub digits_of : ℕ → ℕ → ℤ → List ℤ
digits_of b k z = build k (digit_of b z)

-- the digits of a row: digit p of entry j stands at j × k + p
abbrev pub row_digits : ℕ → ℕ → List ℤ → List ℤ
row_digits b k s = build (length s * k) (λ c. digit_of b (get_or s (c / k) (pos 0)) (c % k))
