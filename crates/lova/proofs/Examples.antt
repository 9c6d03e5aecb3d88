-- The definitions at whole folds that an independent program computed (reference/, `vectors`, seed 1): two at t = 1, two at t = 2, where
-- power-first order or V for its transpose would show. And the answers to a changed T~ and a changed D~, and to a long diagonal. The last
-- example is the one before it with a fresh right leaf, v the first column of its S2.
use mathlib.Core.Path.{◌≡◌, refl}
use mathlib.Core.List.{List, [], ◌∷◌}
use Prim.Native.Nat.{ℕ, suc, ◌-◌}
use lib.IntN.{ℤ, pos, negsuc}
use lib.ListN.{length, set, replicate}
use Rattle.integers.specs.Lists.{build}
use Rattle.integers.specs.Sums.{sum, sum_ℕ}
use Rattle.integers.specs.Residues.{residue}
use Rattle.integers.specs.Tests.{all}
use Rattle.matrices.specs.Tables.{table, ternary}
use Rattle.matrices.specs.Triangles.{lower, mirrored}
use Rattle.settings.specs.Rules.{first_of}
use Rattle.settings.specs.Settings.{Parameters, greatest, LOf, repunit}
use Rattle.settings.specs.HouseList.{parameters}
use Rattle.digits.specs.Digits.{step_of, rest_of, digit_of}
use Rattle.lova.specs.declared.Profile.{Profile}
use Rattle.lova.specs.declared.Profile.TheVariants.{General, Fresh}
use Rattle.lova.specs.Answers.{done, «yes», norm, commitment, long, member, Outcome, ends, unless_refused}
use Rattle.lova.specs.Stored.{Instance, Counted, counted, Message, Prepared}
use Rattle.lova.specs.Tests.{every, eq_Z, short_right, diagonal_within, are_ternary, counts_join}
use Rattle.lova.specs.Fold.{beside, above, digit_witness, gadget}
use Rattle.lova.specs.Repeats.{place_of}
use Rattle.lova.specs.Commit.{commit_rules, instance_in, commit_in}
use Rattle.lova.specs.Relation.{relation_rules, products_hold, commitment_holds, member_word, relation}
use Rattle.lova.specs.Join.{join_rules, joined_instance, join_in}
use Rattle.lova.specs.Message.{message_rules, prepared_as, message_in}
use Rattle.lova.specs.Verdict.{verdict_rules_as, diagonals_hold, first_holds, second_holds, folded_instance, verdict_by, verdict_in, verdict_as, judged}
use Rattle.lova.specs.Witness.{witness_rules, folded_witness, witness_in}
use Rattle.lova.specs.Trees.{Tree, leaf, fold, fold_fresh, plain}

-- a fold: what goes in and what comes out; `T~₁` and `D~₁` are other values for entry 1 of T~ and of D~
record Example : Type 0 where
  setting : Parameters
  A : List ℕ
  S₁ : List ℤ
  S₂ : List ℤ
  C : List ℕ
  I₁ : Instance
  I₂ : Instance
  said : Prepared
  joined : Instance
  folded : Instance
  S' : List ℤ
  T~₁ : ℕ
  D~₁ : ℤ

-- its message with entry 1 of T~ and of D~ changed
abbrev changed : Example → Message
changed e = record { «V» = e.said.message.«V»; T~ = set e.said.message.T~ 1 e.T~₁; D~ = set e.said.message.D~ 1 e.D~₁ }

-- an instance with another number at a place of D
abbrev lengthened : ℕ → ℕ → Instance → Instance
lengthened place number I = record { T = I.T; D = set I.D place (pos number) }

-- the verdict on two instances with 3 and 4 leaves under them; the outputs held I1
abbrev judge : Example → Profile → Instance → Instance → Message → Outcome Counted
judge e f I₁ I₂ M = verdict_in e.setting f (counted I₁ 3) (counted I₂ 4) M e.C e.I₁

-- the tree of two leaves, or of a leaf and a fresh one
abbrev of_two : Profile → List ℤ → List ℤ → List ℕ → Tree
of_two General S₁ S₂ C = fold (leaf S₁) (leaf S₂) C
of_two Fresh S₁ v C = fold_fresh (leaf S₁) v C

-- all six operations and the plain tree give these values, whatever number x, y the outputs held; join's leaf counts are 3 and 4 too
record Right (f : Profile) (e : Example) : Type 0 where
  commits₁ : (x : ℕ) (y : ℤ) → commit_in e.setting General e.A e.S₁ (record { T = replicate (length e.I₁.T) x; D = replicate (length e.I₁.D) y }) ≡ ends done (counted e.I₁ 1)
  commits₂ : (x : ℕ) (y : ℤ) → commit_in e.setting f e.A e.S₂ (record { T = replicate (length e.I₂.T) x; D = replicate (length e.I₂.D) y }) ≡ ends done (counted e.I₂ 1)
  messages : message_in e.setting f e.A e.S₁ e.S₂ e.said ≡ ends done e.said
  joins : join_in e.setting f (counted e.I₁ 3) (counted e.I₂ 4) e.said.message.«V» e.joined ≡ ends done (counted e.joined 7)
  agrees : judge e f e.I₁ e.I₂ e.said.message ≡ ends «yes» (counted e.folded 7)
  commitment_only : judge e f e.I₁ e.I₂ (record { «V» = e.said.message.«V»; T~ = set e.said.message.T~ 1 e.T~₁; D~ = e.said.message.D~ })
      ≡ ends commitment (counted e.I₁ 0)
  norm-first : judge e f e.I₁ e.I₂ (changed e) ≡ ends norm (counted e.I₁ 0)
  long-before-norm : judge e f (lengthened 0 (suc e.setting.bound) e.I₁) e.I₂ (changed e) ≡ ends long (counted e.I₁ 0)
  long-second : judge e f e.I₁ (lengthened (length e.I₂.D - 1) (suc e.setting.bound) e.I₂) e.said.message ≡ ends long (counted e.I₁ 0)
  border_is-norm : judge e f (lengthened 0 e.setting.bound e.I₁) e.I₂ (changed e) ≡ ends norm (counted e.I₁ 0)
  folds : witness_in e.setting f e.said.S~ e.C e.S₁ ≡ ends done e.S'
  members : (relation e.setting e.A e.folded e.S').answer ≡ member
  plain-tree : plain e.setting (of_two f e.S₁ e.S₂ e.C) ≡ e.S'

abbrev one_by_two : Example
one_by_two = record {
  setting = parameters 2 1 1 3 36;
  A = (13107094598387747925 ∷ 7 ∷ []);
  S₁ = (negsuc 4 ∷ []);
  S₂ = (negsuc 5 ∷ []);
  C = (1 ∷ 0 ∷ 2 ∷ 0 ∷ 1 ∷ 1 ∷ []);
  I₁ = record { T = (8251503302899466839 ∷ 18446744073709551581 ∷ []); D = (pos 25 ∷ []) };
  I₂ = record { T = (13591152778221270530 ∷ 18446744073709551574 ∷ []); D = (pos 36 ∷ []) };
  said = record { message = record { «V» = (pos 30 ∷ []); T~ = (13107094598387747925 ∷ 13107094598387747925 ∷ 5339649475321803691 ∷ 0 ∷ 13107094598387747925 ∷ 5339649475321803691 ∷ 7 ∷ 7 ∷ 18446744073709551609 ∷ 0 ∷ 7 ∷ 18446744073709551609 ∷ []); D~ = (pos 1 ∷ pos 1 ∷ pos 1 ∷ negsuc 0 ∷ negsuc 0 ∷ pos 1 ∷ pos 0 ∷ pos 0 ∷ pos 0 ∷ pos 0 ∷ pos 1 ∷ pos 1 ∷ negsuc 0 ∷ pos 0 ∷ pos 1 ∷ negsuc 0 ∷ negsuc 0 ∷ pos 1 ∷ pos 0 ∷ negsuc 0 ∷ pos 1 ∷ []) }; S~ = (pos 1 ∷ pos 1 ∷ negsuc 0 ∷ pos 0 ∷ pos 1 ∷ negsuc 0 ∷ []) };
  joined = record { T = (8251503302899466839 ∷ 13591152778221270530 ∷ 18446744073709551581 ∷ 18446744073709551574 ∷ []); D = (pos 25 ∷ pos 30 ∷ pos 30 ∷ pos 36 ∷ []) };
  folded = record { T = (7767445123065944234 ∷ 14 ∷ []); D = (pos 4 ∷ []) };
  S' = (pos 2 ∷ []);
  T~₁ = 13107094598387747926;
  D~₁ = pos 0;
}

abbrev even_base : Example
even_base = record {
  setting = parameters 1 2 1 6 648;
  A = (12933804471228417055 ∷ 5 ∷ []);
  S₁ = (pos 25 ∷ negsuc 3 ∷ []);
  S₂ = (pos 0 ∷ negsuc 24 ∷ []);
  C = (1 ∷ 2 ∷ 1 ∷ 0 ∷ 2 ∷ 2 ∷ []);
  I₁ = record { T = (9750462527648048883 ∷ []); D = (pos 641 ∷ []) };
  I₂ = record { T = (18446744073709551491 ∷ []); D = (pos 625 ∷ []) };
  said = record { message = record { «V» = (pos 100 ∷ []); T~ = (12933804471228417065 ∷ 11025879204962269117 ∷ 12933804471228417055 ∷ 18446744073709551611 ∷ 10 ∷ 18446744073709551611 ∷ []); D~ = (pos 5 ∷ negsuc 3 ∷ pos 5 ∷ pos 1 ∷ negsuc 1 ∷ pos 1 ∷ negsuc 1 ∷ pos 1 ∷ pos 0 ∷ pos 1 ∷ pos 4 ∷ negsuc 1 ∷ pos 0 ∷ negsuc 1 ∷ pos 4 ∷ negsuc 1 ∷ pos 1 ∷ pos 0 ∷ pos 1 ∷ negsuc 1 ∷ pos 1 ∷ []) }; S~ = (pos 1 ∷ negsuc 1 ∷ pos 1 ∷ pos 0 ∷ pos 0 ∷ pos 0 ∷ pos 2 ∷ negsuc 0 ∷ pos 0 ∷ negsuc 0 ∷ pos 2 ∷ negsuc 0 ∷ []) };
  joined = record { T = (9750462527648048883 ∷ 18446744073709551491 ∷ []); D = (pos 641 ∷ pos 100 ∷ pos 100 ∷ pos 625 ∷ []) };
  folded = record { T = (14841729737494564998 ∷ []); D = (pos 20 ∷ []) };
  S' = (pos 4 ∷ pos 2 ∷ []);
  T~₁ = 11025879204962269118;
  D~₁ = negsuc 2;
}

abbrev two_columns : Example
two_columns = record {
  setting = parameters 1 1 2 5 576;
  A = (10418741240780317654 ∷ []);
  S₁ = (pos 7 ∷ pos 22 ∷ []);
  S₂ = (pos 23 ∷ negsuc 23 ∷ []);
  C = (0 ∷ 0 ∷ 1 ∷ 2 ∷ 0 ∷ 0 ∷ 0 ∷ 1 ∷ 0 ∷ 0 ∷ 2 ∷ 0 ∷ 2 ∷ 0 ∷ 2 ∷ 0 ∷ 2 ∷ 2 ∷ 1 ∷ 1 ∷ 0 ∷ 0 ∷ 2 ∷ 2 ∷ []);
  I₁ = record { T = (17590956464333568730 ∷ 7851378412652368996 ∷ []); D = (pos 49 ∷ pos 154 ∷ pos 154 ∷ pos 484 ∷ []) };
  I₂ = record { T = (18270119653432686650 ∷ 8204627253206098928 ∷ []); D = (pos 529 ∷ negsuc 551 ∷ negsuc 551 ∷ pos 576 ∷ []) };
  said = record { message = record { «V» = (pos 161 ∷ negsuc 167 ∷ pos 506 ∷ negsuc 527 ∷ []); T~ = (2390738407851083692 ∷ 10418741240780317654 ∷ 0 ∷ 2390738407851083692 ∷ 8028002832929233962 ∷ 10418741240780317654 ∷ 16056005665858467924 ∷ 0 ∷ 10418741240780317654 ∷ 10418741240780317654 ∷ 0 ∷ 8028002832929233962 ∷ []); D~ = (pos 4 ∷ pos 2 ∷ pos 1 ∷ pos 0 ∷ pos 0 ∷ pos 0 ∷ pos 4 ∷ pos 2 ∷ pos 0 ∷ pos 4 ∷ negsuc 1 ∷ negsuc 0 ∷ pos 0 ∷ negsuc 1 ∷ pos 1 ∷ pos 2 ∷ pos 1 ∷ pos 0 ∷ pos 2 ∷ negsuc 0 ∷ pos 1 ∷ negsuc 3 ∷ negsuc 1 ∷ pos 0 ∷ negsuc 3 ∷ pos 2 ∷ negsuc 1 ∷ pos 4 ∷ pos 0 ∷ pos 0 ∷ pos 0 ∷ pos 0 ∷ pos 0 ∷ pos 0 ∷ pos 0 ∷ pos 0 ∷ pos 2 ∷ pos 1 ∷ pos 0 ∷ pos 2 ∷ negsuc 0 ∷ pos 1 ∷ negsuc 1 ∷ pos 0 ∷ pos 1 ∷ pos 2 ∷ pos 1 ∷ pos 0 ∷ pos 2 ∷ negsuc 0 ∷ pos 1 ∷ negsuc 1 ∷ pos 0 ∷ pos 1 ∷ pos 1 ∷ pos 0 ∷ pos 0 ∷ pos 0 ∷ pos 0 ∷ pos 0 ∷ pos 0 ∷ pos 0 ∷ pos 0 ∷ pos 0 ∷ pos 0 ∷ pos 0 ∷ negsuc 1 ∷ negsuc 0 ∷ pos 0 ∷ negsuc 1 ∷ pos 1 ∷ negsuc 0 ∷ pos 2 ∷ pos 0 ∷ negsuc 0 ∷ negsuc 0 ∷ pos 0 ∷ pos 1 ∷ []) }; S~ = (pos 2 ∷ pos 1 ∷ pos 0 ∷ pos 2 ∷ negsuc 0 ∷ pos 1 ∷ negsuc 1 ∷ pos 0 ∷ pos 1 ∷ pos 1 ∷ pos 0 ∷ negsuc 0 ∷ []) };
  joined = record { T = (17590956464333568730 ∷ 7851378412652368996 ∷ 18270119653432686650 ∷ 8204627253206098928 ∷ []); D = (pos 49 ∷ pos 154 ∷ pos 161 ∷ negsuc 167 ∷ pos 154 ∷ pos 484 ∷ pos 506 ∷ negsuc 527 ∷ pos 161 ∷ pos 506 ∷ pos 529 ∷ negsuc 551 ∷ negsuc 167 ∷ negsuc 527 ∷ negsuc 551 ∷ pos 576 ∷ []) };
  folded = record { T = (12809479648631401346 ∷ 2390738407851083692 ∷ []); D = (pos 9 ∷ pos 6 ∷ pos 6 ∷ pos 4 ∷ []) };
  S' = (pos 3 ∷ pos 2 ∷ []);
  T~₁ = 10418741240780317655;
  D~₁ = pos 1;
}

abbrev two_by_two : Example
two_by_two = record {
  setting = parameters 1 2 2 9 4608;
  A = (5942725010048944318 ∷ 4 ∷ []);
  S₁ = (pos 67 ∷ negsuc 43 ∷ negsuc 6 ∷ negsuc 37 ∷ []);
  S₂ = (pos 35 ∷ pos 65 ∷ negsuc 30 ∷ pos 18 ∷ []);
  C = (2 ∷ 2 ∷ 0 ∷ 1 ∷ 2 ∷ 2 ∷ 2 ∷ 2 ∷ 1 ∷ 2 ∷ 1 ∷ 0 ∷ 2 ∷ 0 ∷ 2 ∷ 2 ∷ 2 ∷ 0 ∷ 1 ∷ 1 ∷ 1 ∷ 2 ∷ 1 ∷ 0 ∷ []);
  I₁ = record { T = (10780950125378685342 ∷ 15221260663489724096 ∷ []); D = (pos 4538 ∷ negsuc 2681 ∷ negsuc 2681 ∷ pos 3380 ∷ []) };
  I₂ = record { T = (5081190540907983230 ∷ 17342244178990348422 ∷ []); D = (pos 2186 ∷ pos 1717 ∷ pos 1717 ∷ pos 4549 ∷ []) };
  said = record { message = record { «V» = (pos 2562 ∷ pos 4229 ∷ negsuc 361 ∷ negsuc 3543 ∷ []); T~ = (5324155966486225664 ∷ 6561294053611662976 ∷ 5942725010048944318 ∷ 5942725010048944310 ∷ 5324155966486225640 ∷ 12504019063660607298 ∷ 12504019063660607282 ∷ 5324155966486225644 ∷ 0 ∷ 11885450020097888636 ∷ 6561294053611662988 ∷ 5942725010048944318 ∷ []); D~ = (pos 20 ∷ negsuc 9 ∷ pos 5 ∷ pos 4 ∷ negsuc 1 ∷ pos 1 ∷ pos 0 ∷ pos 0 ∷ pos 1 ∷ pos 5 ∷ pos 8 ∷ negsuc 3 ∷ pos 4 ∷ pos 12 ∷ pos 32 ∷ negsuc 3 ∷ pos 2 ∷ negsuc 0 ∷ negsuc 0 ∷ negsuc 3 ∷ pos 1 ∷ negsuc 11 ∷ pos 6 ∷ negsuc 0 ∷ pos 7 ∷ pos 12 ∷ pos 1 ∷ pos 17 ∷ pos 10 ∷ negsuc 4 ∷ pos 4 ∷ pos 10 ∷ pos 28 ∷ negsuc 3 ∷ pos 8 ∷ pos 25 ∷ pos 0 ∷ pos 0 ∷ pos 0 ∷ pos 0 ∷ pos 0 ∷ pos 0 ∷ pos 0 ∷ pos 0 ∷ pos 0 ∷ pos 8 ∷ negsuc 3 ∷ pos 2 ∷ pos 2 ∷ pos 8 ∷ negsuc 1 ∷ negsuc 1 ∷ pos 8 ∷ pos 0 ∷ pos 4 ∷ negsuc 3 ∷ pos 2 ∷ negsuc 1 ∷ negsuc 5 ∷ negsuc 15 ∷ pos 2 ∷ negsuc 5 ∷ negsuc 13 ∷ pos 0 ∷ negsuc 3 ∷ pos 8 ∷ pos 4 ∷ negsuc 1 ∷ pos 1 ∷ pos 1 ∷ pos 4 ∷ negsuc 0 ∷ negsuc 0 ∷ pos 4 ∷ pos 0 ∷ pos 2 ∷ negsuc 1 ∷ pos 1 ∷ []) }; S~ = (pos 4 ∷ negsuc 1 ∷ pos 1 ∷ pos 1 ∷ pos 4 ∷ negsuc 0 ∷ negsuc 0 ∷ pos 4 ∷ pos 0 ∷ pos 2 ∷ negsuc 1 ∷ pos 1 ∷ pos 2 ∷ negsuc 0 ∷ pos 0 ∷ negsuc 1 ∷ negsuc 3 ∷ pos 0 ∷ negsuc 3 ∷ negsuc 2 ∷ pos 0 ∷ pos 0 ∷ pos 2 ∷ pos 0 ∷ []) };
  joined = record { T = (10780950125378685342 ∷ 15221260663489724096 ∷ 5081190540907983230 ∷ 17342244178990348422 ∷ []); D = (pos 4538 ∷ negsuc 2681 ∷ pos 2562 ∷ pos 4229 ∷ negsuc 2681 ∷ pos 3380 ∷ negsuc 361 ∷ negsuc 3543 ∷ pos 2562 ∷ negsuc 361 ∷ pos 2186 ∷ pos 1717 ∷ pos 4229 ∷ negsuc 3543 ∷ pos 1717 ∷ pos 4549 ∷ []) };
  folded = record { T = (7179863097174381662 ∷ 2474276174250874664 ∷ []); D = (pos 50 ∷ pos 80 ∷ pos 80 ∷ pos 160 ∷ []) };
  S' = (negsuc 4 ∷ negsuc 11 ∷ pos 5 ∷ pos 4 ∷ []);
  T~₁ = 6561294053611662977;
  D~₁ = negsuc 8;
}

abbrev fresh_right : Example
fresh_right = record {
  setting = parameters 1 2 2 9 4608;
  A = (5942725010048944318 ∷ 4 ∷ []);
  S₁ = (pos 67 ∷ negsuc 43 ∷ negsuc 6 ∷ negsuc 37 ∷ []);
  S₂ = (pos 35 ∷ negsuc 30 ∷ []);
  C = (2 ∷ 2 ∷ 0 ∷ 1 ∷ 2 ∷ 2 ∷ 2 ∷ 2 ∷ 1 ∷ 2 ∷ 1 ∷ 0 ∷ 2 ∷ 0 ∷ 2 ∷ 2 ∷ 2 ∷ 0 ∷ 1 ∷ 1 ∷ 1 ∷ 2 ∷ 1 ∷ 0 ∷ []);
  I₁ = record { T = (10780950125378685342 ∷ 15221260663489724096 ∷ []); D = (pos 4538 ∷ negsuc 2681 ∷ negsuc 2681 ∷ pos 3380 ∷ []) };
  I₂ = record { T = (5081190540907983230 ∷ []); D = (pos 2186 ∷ []) };
  said = record { message = record { «V» = (pos 2562 ∷ negsuc 361 ∷ []); T~ = (5324155966486225664 ∷ 6561294053611662976 ∷ 5942725010048944318 ∷ 5942725010048944310 ∷ 5324155966486225640 ∷ 12504019063660607298 ∷ 12504019063660607282 ∷ 5324155966486225644 ∷ 0 ∷ []); D~ = (pos 20 ∷ negsuc 9 ∷ pos 5 ∷ pos 4 ∷ negsuc 1 ∷ pos 1 ∷ pos 0 ∷ pos 0 ∷ pos 1 ∷ pos 5 ∷ pos 8 ∷ negsuc 3 ∷ pos 4 ∷ pos 12 ∷ pos 32 ∷ negsuc 3 ∷ pos 2 ∷ negsuc 0 ∷ negsuc 0 ∷ negsuc 3 ∷ pos 1 ∷ negsuc 11 ∷ pos 6 ∷ negsuc 0 ∷ pos 7 ∷ pos 12 ∷ pos 1 ∷ pos 17 ∷ pos 10 ∷ negsuc 4 ∷ pos 4 ∷ pos 10 ∷ pos 28 ∷ negsuc 3 ∷ pos 8 ∷ pos 25 ∷ pos 0 ∷ pos 0 ∷ pos 0 ∷ pos 0 ∷ pos 0 ∷ pos 0 ∷ pos 0 ∷ pos 0 ∷ pos 0 ∷ []) }; S~ = (pos 4 ∷ negsuc 1 ∷ pos 1 ∷ pos 1 ∷ pos 4 ∷ negsuc 0 ∷ negsuc 0 ∷ pos 4 ∷ pos 0 ∷ pos 2 ∷ negsuc 0 ∷ pos 0 ∷ negsuc 1 ∷ negsuc 3 ∷ pos 0 ∷ negsuc 3 ∷ negsuc 2 ∷ pos 0 ∷ []) };
  joined = record { T = (10780950125378685342 ∷ 15221260663489724096 ∷ 5081190540907983230 ∷ 5081190540907983230 ∷ []); D = (pos 4538 ∷ negsuc 2681 ∷ pos 2562 ∷ pos 2562 ∷ negsuc 2681 ∷ pos 3380 ∷ negsuc 361 ∷ negsuc 361 ∷ pos 2562 ∷ negsuc 361 ∷ pos 2186 ∷ pos 2186 ∷ pos 2562 ∷ negsuc 361 ∷ pos 2186 ∷ pos 2186 ∷ []) };
  folded = record { T = (618569043562718646 ∷ 4329983304939030654 ∷ []); D = (pos 25 ∷ pos 43 ∷ pos 43 ∷ pos 466 ∷ []) };
  S' = (negsuc 2 ∷ negsuc 20 ∷ negsuc 3 ∷ pos 5 ∷ []);
  T~₁ = 6561294053611662977;
  D~₁ = negsuc 8;
}

all_right : Right General one_by_two × Right General even_base × Right General two_columns × Right General two_by_two × Right Fresh fresh_right
unfolding diagonals_hold diagonal_within counts_join build sum sum_ℕ residue table lower mirrored place_of ternary first_of greatest LOf repunit step_of rest_of digit_of unless_refused all every eq_Z short_right are_ternary beside above digit_witness gadget commit_rules instance_in commit_in relation_rules products_hold commitment_holds member_word relation join_rules joined_instance join_in message_rules prepared_as message_in verdict_rules_as first_holds second_holds folded_instance verdict_by verdict_in verdict_as judged witness_rules folded_witness witness_in plain
all_right = (
  record { commits₁ = λ x y. refl; commits₂ = λ x y. refl; messages = refl; joins = refl; agrees = refl; commitment_only = refl; norm-first = refl; long-before-norm = refl; long-second = refl; border_is-norm = refl; folds = refl; members = refl; plain-tree = refl },
  record { commits₁ = λ x y. refl; commits₂ = λ x y. refl; messages = refl; joins = refl; agrees = refl; commitment_only = refl; norm-first = refl; long-before-norm = refl; long-second = refl; border_is-norm = refl; folds = refl; members = refl; plain-tree = refl },
  record { commits₁ = λ x y. refl; commits₂ = λ x y. refl; messages = refl; joins = refl; agrees = refl; commitment_only = refl; norm-first = refl; long-before-norm = refl; long-second = refl; border_is-norm = refl; folds = refl; members = refl; plain-tree = refl },
  record { commits₁ = λ x y. refl; commits₂ = λ x y. refl; messages = refl; joins = refl; agrees = refl; commitment_only = refl; norm-first = refl; long-before-norm = refl; long-second = refl; border_is-norm = refl; folds = refl; members = refl; plain-tree = refl },
  record { commits₁ = λ x y. refl; commits₂ = λ x y. refl; messages = refl; joins = refl; agrees = refl; commitment_only = refl; norm-first = refl; long-before-norm = refl; long-second = refl; border_is-norm = refl; folds = refl; members = refl; plain-tree = refl },
)
