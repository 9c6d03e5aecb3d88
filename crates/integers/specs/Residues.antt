-- Whole numbers modulo M, as natural numbers below M.
use Rattle.std.specs.Prelude.{ℕ, suc, ◌-◌, ◌%◌, ◌^◌, ℤ, pos, negsuc}

-- z modulo M
unfoldable pub residue : ℕ → ℤ → ℕ
residue M (pos n) = n % M
residue M (negsuc n) = M - suc (n % M)

-- z modulo 2^64
abbrev pub word : ℤ → ℕ
word z = residue (2 ^ 64) z
