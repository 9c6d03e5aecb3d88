-- Every point of the table holds: one theorem over the rows of the table, by computing.
use mathlib.Core.Path.{refl}
use mathlib.Core.List.{List, [], ◌∷◌}
use native.Mathlib.Omega.{arith}
use Rattle.integers.specs.Lists.{build}
use Rattle.integers.specs.Sums.{sum, sum_ℕ}
use Rattle.integers.specs.Residues.{residue}
use Rattle.integers.specs.Tests.{all}
use Rattle.matrices.specs.Tables.{table, ternary}
use Rattle.matrices.specs.Triangles.{lower, mirrored}
use Rattle.settings.specs.Rules.{first_of}
use Rattle.settings.specs.Settings.{greatest, LOf, repunit, setting_refusal}
use Rattle.digits.specs.Digits.{step_of, rest_of, digit_of}
use Rattle.lova.specs.Answers.{unless_refused}
use Rattle.lova.specs.Tests.{every, eq_Z, short_right, diagonal_within, are_ternary, counts_join}
use Rattle.lova.specs.Fold.{beside, above, digit_witness, gadget}
use Rattle.lova.specs.Commit.{commit_rules, instance_in, commit_in}
use Rattle.lova.specs.Join.{join_rules, joined_instance, join_in}
use Rattle.lova.specs.Message.{message_rules, prepared_as, message_in}
use Rattle.lova.specs.Verdict.{verdict_rules_as, diagonals_hold, first_holds, second_holds, folded_instance, verdict_by, verdict_as, verdict_in, judged}
use Rattle.lova.specs.Recompose.{witnesses_of, short_recomposed, follows_rule, recompose_rules, recompose_in}
use Rattle.lova.specs.Points.{Point, Says, points, In}

-- a claim about each row of a list
abbrev Every : {A : Type 0} → (A → Type 0) → List A → Type 0
Every P [] = Unit {0}
Every P (x ∷ xs) = P x × Every P xs

at : {A : Type 0} (P : A → Type 0) (x : A) (xs : List A) → Every P xs → In x xs → P x
at P x xs h (In.here) = h.0
at P x xs h (In.there i) = at P x _ h.1 i

pub every-point : (p : Point) → In p points → Says p
unfolding Says build sum sum_ℕ residue table lower mirrored first_of greatest LOf repunit setting_refusal step_of rest_of digit_of unless_refused ternary all every eq_Z short_right diagonal_within are_ternary counts_join beside above digit_witness gadget commit_rules instance_in commit_in join_rules joined_instance join_in message_rules prepared_as message_in verdict_rules_as diagonals_hold first_holds second_holds folded_instance verdict_by judged verdict_in verdict_as witnesses_of short_recomposed follows_rule recompose_rules recompose_in
every-point p i = at Says p points (
  (refl, refl, refl, omega arith),
  (
    refl,
    (
      refl,
      (
        refl,
        (
          refl,
          (
            refl,
            (
              refl,
              (
                (λ a x y. refl),
                ((λ a x y. refl), ((λ a x y. refl), ((λ x y. refl), ((λ x y. refl), ((λ x y. refl), ((λ x y. (refl, refl, refl)), ((λ x y. (refl, refl, refl)), ((λ x y. (refl, refl, refl)), ((λ x y. (refl, refl, refl, refl)), ((λ x y. (refl, refl, refl, refl)), ((λ x y. (refl, refl, refl, refl)), ((λ x y. (refl, refl, refl, refl)), ((λ x y. refl), ((λ x y. refl), ((λ x y. refl), ((λ x y. refl), ((λ x y. refl), tt))))))))))))))))),
              ),
            ),
          ),
        ),
      ),
    ),
  ),
) i
