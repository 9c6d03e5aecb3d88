-- Document 02, request 7: draws, and the entries that are made of them.
use Rattle.std.specs.Prelude.{ℕ, zero, suc, ◌+◌, ◌*◌, ◌/◌, ◌%◌, ◌^◌, Bool, cond, List, ℤ, pos, ◌-ℤ◌, nat_le}
use Rattle.integers.specs.Lists.{build}

-- state s becomes s × 6364136223846793005 + 1442695040888963407 modulo 2^64
unfoldable pub next : ℕ → ℕ
next s = (s * 6364136223846793005 + 1442695040888963407) % 2 ^ 64

-- the state after n draws
unfoldable pub after : ℕ → ℕ → ℕ
after zero s = s
after (suc n) s = next (after n s)

-- each draw is the new state: draw i from the state s on, counted from 0
abbrev pub draw : ℕ → ℕ → ℕ
draw s i = after (suc i) s

-- n entries, each made of the next draw
unfoldable pub drawn : {A : Type 0} → (ℕ → A) → ℕ → ℕ → List A
drawn entry n s = build n (λ i. entry (draw s i))

-- an entry of A is the draw
abbrev pub word_of : ℕ → ℕ
word_of x = x

-- a draw's upper 32 bits
abbrev pub upper : ℕ → ℕ
upper x = x / 2 ^ 32

-- an entry of C takes them modulo 3 as its byte
abbrev pub challenge_of : ℕ → ℕ
challenge_of x = upper x % 3

-- a witness entry takes them modulo 2r + 1, less r
abbrev pub witness_of : ℕ → ℕ → ℤ
witness_of r x = pos (upper x % (2 * r + 1)) -ℤ pos r

-- whether r² × m ≤ B
abbrev pub reaches : ℕ → ℕ → ℕ → Bool
reaches m B r = nat_le (r * r * m) B

-- the greatest number with r² × m ≤ B, bit by bit: n bits are left, and r is what stands so far
unfoldable pub radius_from : ℕ → ℕ → ℕ → ℕ → ℕ
radius_from zero m B r = r
radius_from (suc n) m B r = radius_from n m B (cond (reaches m B (r + 2 ^ n)) (r + 2 ^ n) r)

-- r: B is at most 2^62, so 32 bits are enough
abbrev pub radius : ℕ → ℕ → ℕ
radius m B = radius_from 32 m B 0
