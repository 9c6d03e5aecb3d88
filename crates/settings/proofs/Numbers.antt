-- Each refusal has a number of its own, and none has 0.
use mathlib.Core.Path.{◌≡◌, refl, sym, ap, ◌∙◌}
use mathlib.Core.Logic.{◌≢◌}
use Prim.Native.Nat.{ℕ}
use native.Mathlib.Omega.{arith}
use Rattle.std.specs.Prelude.{cond, eqb}
use Rattle.settings.specs.declared.refused.Refusal.{Refusal}
use Rattle.settings.specs.declared.refused.Refusal.TheVariants as Refusals
use Rattle.settings.specs.Refusals.{number_of}

pub numbered-some : (r : Refusal) → number_of r ≢ 0
numbered-some r = elim r as (λ k. number_of k ≢ 0) [
  | Refusals.Sizes ↦ omega arith
  | Refusals.Base ↦ omega arith
  | Refusals.Bound ↦ omega arith
  | Refusals.Columns ↦ omega arith
  | Refusals.Growth ↦ omega arith
  | Refusals.Width ↦ omega arith
  | Refusals.Lengths ↦ omega arith
  | Refusals.LongColumn ↦ omega arith
  | Refusals.Challenge ↦ omega arith
  | Refusals.LargeProduct ↦ omega arith
  | Refusals.LargeDigit ↦ omega arith
  | Refusals.NotListed ↦ omega arith
  | Refusals.BadLine ↦ omega arith
  | Refusals.LargeSetting ↦ omega arith
  | Refusals.Leaves ↦ omega arith
  | Refusals.OtherDigits ↦ omega arith
  | Refusals.Turn ↦ omega arith
  | Refusals.Rows ↦ omega arith
  | Refusals.LargeEntry ↦ omega arith
]

-- the refusal of a number
named : ℕ → Refusal
named n =
    cond (eqb n 1) Refusals.Sizes (
    cond (eqb n 2) Refusals.Base (
    cond (eqb n 3) Refusals.Bound (
    cond (eqb n 4) Refusals.Columns (
    cond (eqb n 5) Refusals.Growth (
    cond (eqb n 6) Refusals.Width (
    cond (eqb n 7) Refusals.Lengths (
    cond (eqb n 8) Refusals.LongColumn (
    cond (eqb n 9) Refusals.Challenge (
    cond (eqb n 10) Refusals.LargeProduct (
    cond (eqb n 11) Refusals.LargeDigit (
    cond (eqb n 12) Refusals.NotListed (
    cond (eqb n 13) Refusals.BadLine (
    cond (eqb n 14) Refusals.LargeSetting (
    cond (eqb n 15) Refusals.Leaves (
    cond (eqb n 16) Refusals.OtherDigits (
    cond (eqb n 20) Refusals.Turn (
    cond (eqb n 24) Refusals.Rows (
    Refusals.LargeEntry))))))))))))))))))

named-back : (r : Refusal) → named (number_of r) ≡ r
unfolding named
named-back r = elim r as (λ k. named (number_of k) ≡ k) [
  | Refusals.Sizes ↦ refl
  | Refusals.Base ↦ refl
  | Refusals.Bound ↦ refl
  | Refusals.Columns ↦ refl
  | Refusals.Growth ↦ refl
  | Refusals.Width ↦ refl
  | Refusals.Lengths ↦ refl
  | Refusals.LongColumn ↦ refl
  | Refusals.Challenge ↦ refl
  | Refusals.LargeProduct ↦ refl
  | Refusals.LargeDigit ↦ refl
  | Refusals.NotListed ↦ refl
  | Refusals.BadLine ↦ refl
  | Refusals.LargeSetting ↦ refl
  | Refusals.Leaves ↦ refl
  | Refusals.OtherDigits ↦ refl
  | Refusals.Turn ↦ refl
  | Refusals.Rows ↦ refl
  | Refusals.LargeEntry ↦ refl
]

pub number_of-one-to-one : (r q : Refusal) → number_of r ≡ number_of q → r ≡ q
number_of-one-to-one r q e = sym (named-back r) ∙ ap named e ∙ named-back q
