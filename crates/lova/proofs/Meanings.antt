-- Each case of an answer has its own meaning.
use mathlib.Core.Path.{◌≡◌, refl, ap}
use Prim.Native.Nat.{ℕ}
use native.Mathlib.Omega.{arith}
use Rattle.std.specs.Prelude.{Result, Ok, Err}
use Rattle.settings.specs.declared.refused.Refusal.{Refusal}
use Rattle.settings.proofs.Numbers.{number_of-one-to-one}
use Rattle.lova.specs.declared.Verdict.{Verdict}
use Rattle.lova.specs.declared.Verdict.TheVariants as Verdicts
use Rattle.lova.specs.declared.Membership.{Membership}
use Rattle.lova.specs.declared.Membership.TheVariants as Memberships
use Rattle.lova.specs.Answers.{answer_of, made_leaves, verdict_of, verdict_leaves, membership_of}

differ : ◌≡◌ {A = ℕ} 0 1 → ⊥
differ e = omega arith

pub answer_of-one-to-one : (x y : Result (Unit {0}) Refusal) → answer_of x ≡ answer_of y → x ≡ y
unfolding answer_of
answer_of-one-to-one (Ok x) (Ok y) e = refl
answer_of-one-to-one (Ok x) (Err q) e = absurd (differ (cc))
answer_of-one-to-one (Err r) (Ok y) e = absurd (differ (cc))
answer_of-one-to-one (Err r) (Err q) e = ap Err (number_of-one-to-one r q (cc))

-- an answer with a leaf count: the count is its own too
pub made_of-one-to-one : (x y : Result ℕ Refusal) → answer_of x ≡ answer_of y → made_leaves x ≡ made_leaves y → x ≡ y
unfolding answer_of
made_of-one-to-one (Ok l) (Ok k) e n = ap Ok n
made_of-one-to-one (Ok l) (Err q) e n = absurd (differ (cc))
made_of-one-to-one (Err r) (Ok k) e n = absurd (differ (cc))
made_of-one-to-one (Err r) (Err q) e n = ap Err (number_of-one-to-one r q (cc))

pub verdict_of-one-to-one : (x y : Result Verdict Refusal) → verdict_of x ≡ verdict_of y → verdict_leaves x ≡ verdict_leaves y → x ≡ y
unfolding verdict_of
verdict_of-one-to-one (Ok (Verdicts.Yes l)) (Ok (Verdicts.Yes k)) e n = ap (λ l. Ok (Verdicts.Yes l)) n
verdict_of-one-to-one (Ok (Verdicts.Yes l)) (Ok Verdicts.Long) e n = absurd (differ (cc))
verdict_of-one-to-one (Ok (Verdicts.Yes l)) (Ok Verdicts.Norm) e n = absurd (differ (cc))
verdict_of-one-to-one (Ok (Verdicts.Yes l)) (Ok Verdicts.Commitment) e n = absurd (differ (cc))
verdict_of-one-to-one (Ok (Verdicts.Yes l)) (Err q) e n = absurd (differ (cc))
verdict_of-one-to-one (Ok Verdicts.Long) (Ok (Verdicts.Yes k)) e n = absurd (differ (cc))
verdict_of-one-to-one (Ok Verdicts.Long) (Ok Verdicts.Long) e n = refl
verdict_of-one-to-one (Ok Verdicts.Long) (Ok Verdicts.Norm) e n = absurd (differ (cc))
verdict_of-one-to-one (Ok Verdicts.Long) (Ok Verdicts.Commitment) e n = absurd (differ (cc))
verdict_of-one-to-one (Ok Verdicts.Long) (Err q) e n = absurd (differ (cc))
verdict_of-one-to-one (Ok Verdicts.Norm) (Ok (Verdicts.Yes k)) e n = absurd (differ (cc))
verdict_of-one-to-one (Ok Verdicts.Norm) (Ok Verdicts.Long) e n = absurd (differ (cc))
verdict_of-one-to-one (Ok Verdicts.Norm) (Ok Verdicts.Norm) e n = refl
verdict_of-one-to-one (Ok Verdicts.Norm) (Ok Verdicts.Commitment) e n = absurd (differ (cc))
verdict_of-one-to-one (Ok Verdicts.Norm) (Err q) e n = absurd (differ (cc))
verdict_of-one-to-one (Ok Verdicts.Commitment) (Ok (Verdicts.Yes k)) e n = absurd (differ (cc))
verdict_of-one-to-one (Ok Verdicts.Commitment) (Ok Verdicts.Long) e n = absurd (differ (cc))
verdict_of-one-to-one (Ok Verdicts.Commitment) (Ok Verdicts.Norm) e n = absurd (differ (cc))
verdict_of-one-to-one (Ok Verdicts.Commitment) (Ok Verdicts.Commitment) e n = refl
verdict_of-one-to-one (Ok Verdicts.Commitment) (Err q) e n = absurd (differ (cc))
verdict_of-one-to-one (Err r) (Ok (Verdicts.Yes k)) e n = absurd (differ (cc))
verdict_of-one-to-one (Err r) (Ok Verdicts.Long) e n = absurd (differ (cc))
verdict_of-one-to-one (Err r) (Ok Verdicts.Norm) e n = absurd (differ (cc))
verdict_of-one-to-one (Err r) (Ok Verdicts.Commitment) e n = absurd (differ (cc))
verdict_of-one-to-one (Err r) (Err q) e n = ap Err (number_of-one-to-one r q (cc))

pub membership_of-one-to-one : (x y : Result Membership Refusal) → membership_of x ≡ membership_of y → x ≡ y
unfolding membership_of
membership_of-one-to-one (Ok Memberships.Member) (Ok Memberships.Member) e = refl
membership_of-one-to-one (Ok Memberships.Member) (Ok Memberships.Long) e = absurd (differ (cc))
membership_of-one-to-one (Ok Memberships.Member) (Ok Memberships.Products) e = absurd (differ (cc))
membership_of-one-to-one (Ok Memberships.Member) (Ok Memberships.Commitment) e = absurd (differ (cc))
membership_of-one-to-one (Ok Memberships.Member) (Err q) e = absurd (differ (cc))
membership_of-one-to-one (Ok Memberships.Long) (Ok Memberships.Member) e = absurd (differ (cc))
membership_of-one-to-one (Ok Memberships.Long) (Ok Memberships.Long) e = refl
membership_of-one-to-one (Ok Memberships.Long) (Ok Memberships.Products) e = absurd (differ (cc))
membership_of-one-to-one (Ok Memberships.Long) (Ok Memberships.Commitment) e = absurd (differ (cc))
membership_of-one-to-one (Ok Memberships.Long) (Err q) e = absurd (differ (cc))
membership_of-one-to-one (Ok Memberships.Products) (Ok Memberships.Member) e = absurd (differ (cc))
membership_of-one-to-one (Ok Memberships.Products) (Ok Memberships.Long) e = absurd (differ (cc))
membership_of-one-to-one (Ok Memberships.Products) (Ok Memberships.Products) e = refl
membership_of-one-to-one (Ok Memberships.Products) (Ok Memberships.Commitment) e = absurd (differ (cc))
membership_of-one-to-one (Ok Memberships.Products) (Err q) e = absurd (differ (cc))
membership_of-one-to-one (Ok Memberships.Commitment) (Ok Memberships.Member) e = absurd (differ (cc))
membership_of-one-to-one (Ok Memberships.Commitment) (Ok Memberships.Long) e = absurd (differ (cc))
membership_of-one-to-one (Ok Memberships.Commitment) (Ok Memberships.Products) e = absurd (differ (cc))
membership_of-one-to-one (Ok Memberships.Commitment) (Ok Memberships.Commitment) e = refl
membership_of-one-to-one (Ok Memberships.Commitment) (Err q) e = absurd (differ (cc))
membership_of-one-to-one (Err r) (Ok Memberships.Member) e = absurd (differ (cc))
membership_of-one-to-one (Err r) (Ok Memberships.Long) e = absurd (differ (cc))
membership_of-one-to-one (Err r) (Ok Memberships.Products) e = absurd (differ (cc))
membership_of-one-to-one (Err r) (Ok Memberships.Commitment) e = absurd (differ (cc))
membership_of-one-to-one (Err r) (Err q) e = ap Err (number_of-one-to-one r q (cc))
