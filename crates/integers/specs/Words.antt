-- Signed words by their size and their sign.
use Rattle.std.specs.Prelude.{ℕ, ◌-◌, ◌^◌, Bool, true, false, cond, Option, Some, None, ℤ, pos, neg_ℤ, nat_le}

-- the whole number of this size, below zero where `negative` says so
unfoldable pub signed_by : Bool → ℕ → ℤ
signed_by true w = neg_ℤ (pos w)
signed_by false w = pos w

-- the largest size of a signed word of this sign: −2^63 is one, 2^63 is not
abbrev pub largest : Bool → ℕ
largest true = 2 ^ 63
largest false = 2 ^ 63 - 1

-- the signed word of this size and sign, if there is one
unfoldable pub signed_word : ℕ → Bool → Option ℤ
signed_word w negative = cond (nat_le w (largest negative)) (Some (signed_by negative w)) None
