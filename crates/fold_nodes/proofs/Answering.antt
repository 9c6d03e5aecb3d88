-- What a fold answers, by the answers of its calls.
use mathlib.Core.Path.{◌≡◌, refl}
use mathlib.Core.Bool.{false}
use Prim.Native.Nat.{ℕ}
use Rattle.std.specs.Prelude.{Result, Ok, Err, IfOk}
use Rattle.settings.specs.declared.refused.Refusal.{Refusal}
use Rattle.lova.specs.declared.Verdict.{Verdict}
use Rattle.lova.specs.declared.Verdict.TheVariants as Verdicts
use Rattle.lova.specs.Answers.{Meaning, done, refused, verdict_of, verdict_leaves, refusal, refuses, count_after}
use Rattle.chain.specs.Nodes.{fold_answer}

-- the first call that refuses, else the verdict
pub by-message : (n : ℕ) (folded judged : Meaning) → refused n ≡ fold_answer (refused n) folded judged
unfolding fold_answer refuses refusal
by-message n folded judged = refl

pub by-witness : (n : ℕ) (judged : Meaning) → refused n ≡ fold_answer done (refused n) judged
unfolding fold_answer refuses refusal
by-witness n judged = refl

pub by-verdict : (judged : Meaning) → judged ≡ fold_answer done done judged
unfolding fold_answer refuses refusal
by-verdict judged = refl

-- a verdict that is a refusal has no leaf count
pub counted-verdict : (v : Result Verdict Refusal) → verdict_leaves v ≡ count_after (verdict_of v) (verdict_leaves v) 0
unfolding verdict_of refusal refuses
counted-verdict (Ok (Verdicts.Yes leaves)) = refl
counted-verdict (Ok Verdicts.Long) = refl
counted-verdict (Ok Verdicts.Norm) = refl
counted-verdict (Ok Verdicts.Commitment) = refl
counted-verdict (Err r) = refl

-- and no other verdict refuses
pub passes_on : (v : Verdict) → refuses (verdict_of (Ok v)) ≡ false
unfolding verdict_of refusal refuses
passes_on (Verdicts.Yes leaves) = refl
passes_on Verdicts.Long = refl
passes_on Verdicts.Norm = refl
passes_on Verdicts.Commitment = refl

pub of_ok : {X E P : Type 0} (r : Result X E) → P → IfOk r (λ x. P)
of_ok (Ok x) p = p
of_ok (Err e) p = tt
