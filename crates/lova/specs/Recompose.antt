-- Recomposition: S~ back to S1 and S2.
use Rattle.std.specs.Prelude.{Bool, not, ◌&&◌, List, [], ◌∷◌, ◌+◌, leb, ℤ}
use Rattle.integers.specs.Tests.{all}
use Rattle.matrices.specs.Matrices.{Matrix, product, squared_length}
use Rattle.settings.specs.Rules.{Rule, ◌gives◌, first_of}
use Rattle.settings.specs.Settings.{Parameters, h_of}
use Rattle.lova.specs.Answers.{after_setting, done, Outcome, ends, unless_refused}
use Rattle.lova.specs.declared.Profile.{Profile}
use Rattle.lova.specs.Stored.{Witnesses, matrix_S, right_of, columns_of, right_S, sent_S~}
use Rattle.lova.specs.Tests.{equal, bounded, fits}
use Rattle.lova.specs.Fold.{digit_witness, gadget}

-- S~ G, what a digit witness stands for: m by 2t, or by t + 1
abbrev pub recomposed : Parameters → Profile → List ℤ → Matrix
recomposed p f S~ = product (columns_of p f) ((sent_S~ p f).read S~) (gadget p)

-- its first t columns are S1, the others S2 or v
unfoldable pub witnesses_of : Parameters → Profile → List ℤ → Witnesses
witnesses_of p f S~ = record {
  S₁ = (matrix_S p).write (recomposed p f S~);
  S₂ = (right_S p f).write (λ i j. recomposed p f S~ i (p.t + j));
}

-- whether each of its columns has a squared length of at most B
unfoldable pub short_recomposed : Parameters → Profile → List ℤ → Bool
short_recomposed p f S~ = all (p.t + right_of p f) (λ j. leb (squared_length p.m (recomposed p f S~) j) p.bound)

-- whether the digits of S~ are those that the digit rule gives for it
unfoldable pub follows_rule : Parameters → Profile → List ℤ → Bool
follows_rule p f S~ = equal p.m (columns_of p f) (digit_witness p (recomposed p f S~)) ((sent_S~ p f).read S~)

-- after 1 to 6: 7 for a length; 11 for an entry of S~ above h or below −h; 8 for a recomposed column with squared length above B;
-- 16 for digits other than the rule's
unfoldable pub recompose_rules : Parameters → Profile → List ℤ → Witnesses → List Rule
recompose_rules p f S~ out =
    (not (fits (sent_S~ p f) S~ && fits (matrix_S p) out.S₁ && fits (right_S p f) out.S₂) gives 7)
    ∷ (not (bounded p.m (columns_of p f) (h_of p) ((sent_S~ p f).read S~)) gives 11)
    ∷ (not (short_recomposed p f S~) gives 8)
    ∷ (not (follows_rule p f S~) gives 16)
    ∷ []

unfoldable pub recompose_in : Parameters → Profile → List ℤ → Witnesses → Outcome Witnesses
recompose_in p f S~ out = unless_refused (first_of (after_setting p (recompose_rules p f S~ out))) out (ends done (witnesses_of p f S~))
