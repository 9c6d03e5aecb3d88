-- An operation that is passed on: its answer as a code, its outputs as they are, and a leaf count in its own place.
use mathlib.Core.Path.{◌≡◌, ◌∙◌, ap}
use Prim.Native.Nat.{ℕ}
use Rattle.lova.specs.Answers.{Meaning, count_after, Outcome, ends}
use Rattle.lova.specs.Stored.{Instance, Counted, counted}
use Rattle.codes.specs.Codes.{code_of, returned, coded, placed}

-- the operation said a and left x, which is the outcome o; the call returned a's code r
pub passed : {X : Type 0} {o : Outcome X} {a : Meaning} {x : X} {r : ℕ}
    → ends a x ≡ o → r ≡ code_of a → returned r x ≡ coded o
passed {x} left code = ap (λ (c : ℕ). returned c x) code ∙ ap coded left

-- the operation left the instance I and the count n; after it the count's place, which held `before`, holds `place`
pub passed_counted : (before : ℕ) {o : Outcome Counted} {a : Meaning} {I : Instance} {n r place : ℕ}
    → ends a (counted I n) ≡ o → r ≡ code_of a → place ≡ count_after a n before → returned r (counted I place) ≡ coded (placed before o)
passed_counted before {a} {I} left code count = passed (ap (λ (n : ℕ). ends a (counted I n)) count ∙ ap (placed before) left) code
