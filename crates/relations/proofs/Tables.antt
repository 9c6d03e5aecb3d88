-- The front of a local array, and a matrix made in it and compared with another, entry by entry.
use mathlib.Core.Path.{◌≡◌, sym, ◌∙◌, ap, ap₂}
use mathlib.Core.Bool.{Bool}
use mathlib.Core.List.{List}
use Prim.Native.Nat.{ℕ, ◌+◌, ◌*◌, ◌^◌, ◌<◌, ◌≤◌}
use native.Mathlib.Omega.{arith}
use native.Mathlib.Nat.{mul-le-mul}
use lib.Dec.{eqb}
use lib.IntN.{ℤ, pos}
use lib.ListN.{length, take, replicate, length-replicate, get_or}
use lib.Seq.{length-take-le}
use Rattle.integers.specs.Residues.{word}
use Rattle.integers.proofs.Residues.{residue-small}
use Rattle.integers.specs.Tests.{all}
use Rattle.integers.proofs.Tests.{all_cong}
use Rattle.matrices.specs.Matrices.{Matrix}
use Rattle.matrices.specs.Tables.{table, entry, signed, unsigned}
use Rattle.matrices.proofs.Tables.{entry-table}
use Rattle.lova.specs.Tests.{every, eq_Z, equal, equal_words}
use Rattle.scans.proofs.Scans.{all-entries}

-- so many rows and columns have room for their entries
pub room : {rows cols r c : ℕ} → rows ≤ r → cols ≤ c → rows * cols ≤ r * c
room h k = mul-le-mul h k

-- the front of a local array, all z, that has room for n numbers
pub front : {A : Type 0} (z : A) (n most : ℕ) → n ≤ most → length (take n (replicate most z)) ≡ n
front z n most h = length-take-le n (replicate most z) (omega (arith, h, length-replicate most z))

-- a test of every entry rests on the entries alone
every_cong : (rows cols : ℕ) (P Q : ℕ → ℕ → Bool) → ((i j : ℕ) → i < rows → j < cols → P i j ≡ Q i j) → every rows cols P ≡ every rows cols Q
unfolding every
every_cong rows cols P Q h = all_cong rows _ _ (λ i hi. all_cong cols _ _ (λ j hj. h i j hi hj))

-- a matrix that was made is compared as itself: all its entries, one after the other
pub equal-made : (cols : ℕ) (F : Matrix) (made other : List ℤ) → made ≡ table cols cols F → length made ≡ cols * cols
    → all (length made) (λ i. eq_Z (get_or made i (pos 0)) (get_or other i (pos 0))) ≡ equal cols cols F (signed cols other)
equal-made cols F made other is long =
    all-entries (length made) cols cols (λ i. eq_Z (get_or made i (pos 0)) (get_or other i (pos 0))) long
    ∙ every_cong cols cols _ _ (λ i j hi hj. ap (λ (z : ℤ). eq_Z z (entry (pos 0) cols other i j)) (ap (λ (xs : List ℤ). entry (pos 0) cols xs i j) is ∙ entry-table (pos 0) cols cols F i j hi hj))

-- the same of words, each its own residue
pub words-made : (rows cols : ℕ) (F : Matrix) (made other : List ℕ) → made ≡ table rows cols (λ i j. word (F i j)) → length made ≡ rows * cols
    → ((i : ℕ) → get_or other i 0 < 2 ^ 64)
    → all (length made) (λ i. eqb (get_or made i 0) (get_or other i 0)) ≡ equal_words rows cols F (unsigned cols other)
words-made rows cols F made other is long small =
    all-entries (length made) rows cols (λ i. eqb (get_or made i 0) (get_or other i 0)) long
    ∙ every_cong rows cols _ _ (λ i j hi hj. ap₂ eqb
    (ap (λ (xs : List ℕ). entry 0 cols xs i j) is ∙ entry-table 0 rows cols (λ i j. word (F i j)) i j hi hj)
    (sym (residue-small (2 ^ 64) (entry 0 cols other i j) (small (i * cols + j)))))
