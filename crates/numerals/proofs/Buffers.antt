-- What a buffer holds after bytes are written to it.
use mathlib.Core.Path.{◌≡◌, ap, ◌∙◌}
use mathlib.Core.List.{List, [], ◌∷◌, ◌++◌, append_assoc}
use Prim.Native.Nat.{ℕ, suc, ◌+◌, ◌≤◌, ◌<◌}
use native.Mathlib.Omega.{arith}
use native.Mathlib.Numerals.{add-one}
use native.Mathlib.Nat.{add-zero, add_assoc}
use lib.ListN.{length, take, drop, set, length-append, length-drop, take-append-drop}
use lib.Seq.{drop-drop, take_at, drop_at, set_split, length-take-le, take-suc-set, drop-set-lt}
use Rattle.numerals.specs.Bytes.{written}

pub written_none : (d : List ℕ) (at : ℕ) → d ≡ written d at []
unfolding written
written_none d at = rw (add-zero, take-append-drop)

pub written_one : (d : List ℕ) (at x : ℕ) → at < length d → set d at x ≡ written d at (x ∷ [])
unfolding written
written_one d at x h = rw (set_split, add-one)

pub length-written : (d : List ℕ) (at : ℕ) (s : List ℕ) → at + length s ≤ length d → length (written d at s) ≡ length d
unfolding written
length-written d at s h = simp (length-append, length-drop, length-take-le at d (omega arith)) (omega arith)

length-begun : (d : List ℕ) (at : ℕ) (s : List ℕ) → at ≤ length d → length (take at d ++ s) ≡ at + length s
length-begun d at s h = length-append (take at d) s ∙ ap (λ (k : ℕ). k + length s) (length-take-le at d h)

-- the buffer up to the end of what was written
pub take-written : (d : List ℕ) (at : ℕ) (s : List ℕ) → at ≤ length d → take (at + length s) (written d at s) ≡ take at d ++ s
unfolding written
take-written d at s h = rw (← append_assoc (take at d) s (drop (at + length s) d)) (take_at (take at d ++ s) (drop (at + length s) d) (at + length s) (length-begun d at s h))

-- one byte first, and then the others
pub written_cons : (d : List ℕ) (at x : ℕ) (s : List ℕ) → at < length d → written (set d at x) (at + 1) s ≡ written d at (x ∷ s)
unfolding written
written_cons d at x s h =
    let e : suc at + length s ≡ at + suc (length s) = omega arith in
    rw (add-one at, take-suc-set d at x h, drop-set-lt (suc at + length s) d at x (omega arith), append_assoc (take at d) (x ∷ []) (s ++ drop (suc at + length s) d))
    (ap (λ (k : ℕ). take at d ++ (x ∷ (s ++ drop k d))) e)

-- written twice, the second time at the end of the first
pub written_twice : (d : List ℕ) (at : ℕ) (s t : List ℕ) → at + (length s + length t) ≤ length d
    → written (written d at s) (at + length s) t ≡ written d at (s ++ t)
unfolding written
written_twice d at s t h =
    rw (
      ← append_assoc (take at d) s (drop (at + length s) d),
      take_at (take at d ++ s) (drop (at + length s) d) (at + length s) begun,
      ← drop-drop (length t) (at + length s) ((take at d ++ s) ++ drop (at + length s) d),
      drop_at (take at d ++ s) (drop (at + length s) d) (at + length s) begun,
      drop-drop (length t) (at + length s) d,
      append_assoc (take at d) s (t ++ drop (at + length s + length t) d),
      append_assoc s t (drop (at + length (s ++ t)) d),
      length-append s t,
      add_assoc at (length s) (length t),
    )
  where
    begun : length (take at d ++ s) ≡ at + length s
    begun = length-begun d at s (omega arith)

-- one byte more at the end
pub written-more : (d : List ℕ) (at : ℕ) (s : List ℕ) (x : ℕ) → at + length s < length d
    → set (written d at s) (at + length s) x ≡ written d at (s ++ (x ∷ []))
written-more d at s x h =
    written_one (written d at s) (at + length s) x (rw (length-written d at s (omega arith)) h)
    ∙ written_twice d at s (x ∷ []) (omega arith)
