-- A local array of n equal elements whose first k are lent, and the array after they came back as ys.
use mathlib.Core.Path.{◌≡◌, refl, ◌∙◌, ap}
use mathlib.Core.List.{List, ◌∷◌, ◌++◌}
use Prim.Native.Nat.{ℕ, zero, suc, ◌≤◌}
use native.Mathlib.Omega.{arith}
use native.Mathlib.Nat.{le_of_suc-le-suc}
use lib.ListN.{length, take, drop, replicate, length-replicate, length-append}
use lib.Seq.{take_at}

-- what is lent are k of the elements
pub blank : {A : Type 0} (k n : ℕ) (x : A) → k ≤ n → take k (replicate n x) ≡ replicate k x
blank zero n x h = refl
blank (suc k) zero x h = absurd (omega arith)
blank (suc k) (suc n) x h = ap (λ (l : List _). x ∷ l) (blank k n x (le_of_suc-le-suc h))

pub blank-long : {A : Type 0} (k n : ℕ) (x : A) → k ≤ n → length (take k (replicate n x)) ≡ k
blank-long k n x h = ap length (blank k n x h) ∙ length-replicate k x

-- the first k elements of the array are then ys
pub record Back {A : Type 0} (k n : ℕ) (x : A) (ys : List A) : Type 0 where
  pub fits : k ≤ length (ys ++ drop k (replicate n x))
  pub long : length (take k (ys ++ drop k (replicate n x))) ≡ k
  pub same : take k (ys ++ drop k (replicate n x)) ≡ ys

pub back : {A : Type 0} (k n : ℕ) (x : A) (ys : List A) → k ≤ n → length ys ≡ length (take k (replicate n x)) → Back k n x ys
back k n x ys h e =
    let size : length ys ≡ k = e ∙ blank-long k n x h in
    let same = take_at ys (drop k (replicate n x)) k size in
    record { fits = simp length-append (omega arith); long = ap length same ∙ size; same = same }
