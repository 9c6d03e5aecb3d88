-- The words of the verdicts.
use mathlib.Core.Path.{◌≡◌, refl}
use mathlib.Core.List.{[], ◌∷◌}
use Prim.Native.Nat.{ℕ}
use Rattle.std.specs.Prelude.{Ok, Err}
use Rattle.settings.specs.declared.refused.Refusal.{Refusal}
use Rattle.lova.specs.declared.Verdict.TheVariants.{Yes, Long, Norm, Commitment}
use Rattle.lova.specs.Answers.{verdict_of}
use Rattle.chain.specs.Reports.{word_of}

pub yes-word : (leaves : ℕ) → 121 ∷ 101 ∷ 115 ∷ [] ≡ word_of (verdict_of (Ok (Yes leaves)))
unfolding word_of verdict_of
yes-word leaves = refl

pub long-word : 108 ∷ 111 ∷ 110 ∷ 103 ∷ [] ≡ word_of (verdict_of (Ok Long))
unfolding word_of verdict_of
long-word = refl

pub norm-word : 110 ∷ 111 ∷ 114 ∷ 109 ∷ [] ≡ word_of (verdict_of (Ok Norm))
unfolding word_of verdict_of
norm-word = refl

pub commitment-word : 99 ∷ 111 ∷ 109 ∷ 109 ∷ 105 ∷ 116 ∷ 109 ∷ 101 ∷ 110 ∷ 116 ∷ [] ≡ word_of (verdict_of (Ok Commitment))
unfolding word_of verdict_of
commitment-word = refl

pub refused-word : (r : Refusal) → 114 ∷ 101 ∷ 102 ∷ 117 ∷ 115 ∷ 101 ∷ 100 ∷ [] ≡ word_of (verdict_of (Err r))
unfolding word_of verdict_of
refused-word r = refl

pub ruleset words = (yes-word, long-word, norm-word, commitment-word, refused-word)
