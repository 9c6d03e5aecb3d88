-- The words of the relation test.
use mathlib.Core.Path.{◌≡◌, refl}
use mathlib.Core.List.{[], ◌∷◌}
use Rattle.std.specs.Prelude.{Ok, Err}
use Rattle.settings.specs.declared.refused.Refusal.{Refusal}
use Rattle.lova.specs.declared.Membership.TheVariants.{Member, Long, Products, Commitment}
use Rattle.lova.specs.Answers.{membership_of}
use Rattle.chain.specs.Reports.{word_of}

pub member-word : 109 ∷ 101 ∷ 109 ∷ 98 ∷ 101 ∷ 114 ∷ [] ≡ word_of (membership_of (Ok Member))
unfolding word_of membership_of
member-word = refl

pub long-word : 108 ∷ 111 ∷ 110 ∷ 103 ∷ [] ≡ word_of (membership_of (Ok Long))
unfolding word_of membership_of
long-word = refl

pub products-word : 112 ∷ 114 ∷ 111 ∷ 100 ∷ 117 ∷ 99 ∷ 116 ∷ 115 ∷ [] ≡ word_of (membership_of (Ok Products))
unfolding word_of membership_of
products-word = refl

pub commitment-word : 99 ∷ 111 ∷ 109 ∷ 109 ∷ 105 ∷ 116 ∷ 109 ∷ 101 ∷ 110 ∷ 116 ∷ [] ≡ word_of (membership_of (Ok Commitment))
unfolding word_of membership_of
commitment-word = refl

pub refused-word : (r : Refusal) → 114 ∷ 101 ∷ 102 ∷ 117 ∷ 115 ∷ 101 ∷ 100 ∷ [] ≡ word_of (membership_of (Err r))
unfolding word_of membership_of
refused-word r = refl

pub ruleset words = (member-word, long-word, products-word, commitment-word, refused-word)
