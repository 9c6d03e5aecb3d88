-- Proper calls: an accepted setting, lent slices of the stated lengths, values in the stated ranges.
use Rattle.std.specs.Prelude.{◌≡◌, ◌↔◌, List, ℕ, ◌+◌, ◌<◌, ◌≤◌, ℤ, pos, nat_abs, length, ◌≤ℤ◌, ◌<ℤ◌}
use Rattle.matrices.specs.Matrices.{Matrix, squared_length, Agree}
use Rattle.matrices.specs.Tables.{entry}
use Rattle.settings.specs.Rules.{Rule, First}
use Rattle.settings.specs.Settings.{Parameters, NOf, h_of, HOf, setting_refusal, setting_of, parameters_of}
use Rattle.settings.specs.declared.Setting.{Setting}
use Rattle.lova.specs.Answers.{Meaning, refused, Outcome, ends}
use Rattle.lova.specs.Stored.{Stored, Instance, Counted, most_leaves, Message, Prepared, Witnesses, right_of, columns_of, matrix_A, matrix_T, matrix_S, matrix_D, right_S, right_T, right_D, sent_V, sent_S~, sent_T~, sent_D~, joined_T, joined_D, size_C}
use Rattle.lova.specs.declared.Profile.{Profile}
use Rattle.lova.specs.declared.Profile.TheVariants.{General}
use Rattle.lova.specs.Fold.{digit_witness}
use Rattle.lova.specs.Recompose.{recomposed}

-- a slice has the length of the matrix that it stands for
abbrev pub Fits : {E : Type 0} → Stored E → List E → Type 0
Fits s xs = length xs ≡ s.size

abbrev pub FitsInstance : Parameters → Instance → Type 0
FitsInstance p I = Fits (matrix_T p) I.T × Fits (matrix_D p) I.D

abbrev pub FitsRight : Parameters → Profile → Instance → Type 0
FitsRight p f I = Fits (right_T p f) I.T × Fits (right_D p f) I.D

abbrev pub FitsJoined : Parameters → Instance → Type 0
FitsJoined p I = Fits (joined_T p) I.T × Fits (joined_D p) I.D

abbrev pub FitsMessage : Parameters → Profile → Message → Type 0
FitsMessage p f M = Fits (sent_V p f) M.«V» × Fits (sent_T~ p f) M.T~ × Fits (sent_D~ p f) M.D~

abbrev pub FitsPrepared : Parameters → Profile → Prepared → Type 0
FitsPrepared p f o = FitsMessage p f o.message × Fits (sent_S~ p f) o.S~

abbrev pub FitsC : Parameters → List ℕ → Type 0
FitsC p C = length C ≡ size_C p

-- each column of S, or v, has a squared length of at most B
abbrev pub ShortRight : Parameters → Profile → List ℤ → Type 0
ShortRight p f S = (j : ℕ) → j < right_of p f → squared_length p.m ((right_S p f).read S) j ≤ p.bound

abbrev pub Short : Parameters → List ℤ → Type 0
Short p S = ShortRight p General S

-- each diagonal entry of D is at most B
abbrev pub DiagonalWithin : Parameters → List ℤ → Type 0
DiagonalWithin p D = (i : ℕ) → i < p.t → (matrix_D p).read D i i ≤ℤ pos p.bound

-- a diagonal entry of D exceeds B
abbrev pub DiagonalLong : Parameters → List ℤ → Type 0
DiagonalLong p D = (i : ℕ) × (i < p.t) × (pos p.bound <ℤ (matrix_D p).read D i i)

-- each byte of C is 0, 1 or 2
abbrev pub Ternary : Parameters → List ℕ → Type 0
Ternary p C = (i j : ℕ) → i < NOf p → j < p.t → entry 0 p.t C i j ≤ 2

-- two leaf counts can be joined: none is 0, and the sum does not exceed 2^32 − 1
abbrev pub CountsJoin : ℕ → ℕ → Type 0
CountsJoin a b = (1 ≤ a) × (1 ≤ b) × (a + b ≤ most_leaves)

-- each entry is at most M and at least −M
abbrev pub Bounded : ℕ → ℕ → ℕ → Matrix → Type 0
Bounded rows cols M X = (i j : ℕ) → i < rows → j < cols → nat_abs (X i j) ≤ M

-- each column of S~ G, what S~ stands for, has a squared length of at most B
abbrev pub ShortRecomposed : Parameters → Profile → List ℤ → Type 0
ShortRecomposed p f S~ = (j : ℕ) → j < p.t + right_of p f → squared_length p.m (recomposed p f S~) j ≤ p.bound

-- the digits of S~ are those that the digit rule gives for it
abbrev pub FollowsRule : Parameters → Profile → List ℤ → Type 0
FollowsRule p f S~ = Agree p.m (columns_of p f) (digit_witness p (recomposed p f S~)) ((sent_S~ p f).read S~)

-- the stated lengths of each operation's slices, outputs included
abbrev pub RelationLengths : Parameters → List ℕ → Instance → List ℤ → Type 0
RelationLengths p A I S = Fits (matrix_A p) A × FitsInstance p I × Fits (matrix_S p) S

module _ (p : Parameters) (f : Profile) where
  abbrev pub CommitLengths : List ℕ → List ℤ → Instance → Type 0
  CommitLengths A S out = Fits (matrix_A p) A × Fits (right_S p f) S × FitsRight p f out

  abbrev pub JoinLengths : Instance → Instance → List ℤ → Instance → Type 0
  JoinLengths I₁ I₂ «V» out = FitsInstance p I₁ × FitsRight p f I₂ × Fits (sent_V p f) «V» × FitsJoined p out

  abbrev pub MessageLengths : List ℕ → List ℤ → List ℤ → Prepared → Type 0
  MessageLengths A S₁ S₂ out = Fits (matrix_A p) A × Fits (matrix_S p) S₁ × Fits (right_S p f) S₂ × FitsPrepared p f out

  abbrev pub VerdictLengths : Instance → Instance → Message → List ℕ → Instance → Type 0
  VerdictLengths I₁ I₂ M C out = FitsInstance p I₁ × FitsRight p f I₂ × FitsMessage p f M × FitsC p C × FitsInstance p out

  abbrev pub WitnessLengths : List ℤ → List ℕ → List ℤ → Type 0
  WitnessLengths S~ C out = Fits (sent_S~ p f) S~ × FitsC p C × Fits (matrix_S p) out

  abbrev pub RecomposeLengths : List ℤ → Witnesses → Type 0
  RecomposeLengths S~ out = Fits (sent_S~ p f) S~ × Fits (matrix_S p) out.S₁ × Fits (right_S p f) out.S₂

-- proper calls
pub record ProperRelation (p : Parameters) (A : List ℕ) (I : Instance) (S : List ℤ) : Type 0 where
  pub setting : setting_refusal p ≡ 0
  pub lengths : RelationLengths p A I S

module _ (p : Parameters) (f : Profile) where
  pub record ProperCommit (A : List ℕ) (S : List ℤ) (out : Instance) : Type 0 where
    pub setting : setting_refusal p ≡ 0
    pub lengths : CommitLengths p f A S out
    pub columns : ShortRight p f S

  pub record ProperJoin (J₁ J₂ : Counted) («V» : List ℤ) (out : Instance) : Type 0 where
    pub setting : setting_refusal p ≡ 0
    pub lengths : JoinLengths p f J₁.instance J₂.instance «V» out
    pub counts : CountsJoin J₁.leaves J₂.leaves

  pub record ProperMessage (A : List ℕ) (S₁ S₂ : List ℤ) (out : Prepared) : Type 0 where
    pub setting : setting_refusal p ≡ 0
    pub lengths : MessageLengths p f A S₁ S₂ out
    pub columns : Short p S₁ × ShortRight p f S₂

  pub record ProperVerdict (J₁ J₂ : Counted) (M : Message) (C : List ℕ) (out : Instance) : Type 0 where
    pub setting : setting_refusal p ≡ 0
    pub lengths : VerdictLengths p f J₁.instance J₂.instance M C out
    pub counts : CountsJoin J₁.leaves J₂.leaves
    pub bytes : Ternary p C
    pub entries : Bounded (columns_of p f) (columns_of p f) (HOf p) ((sent_D~ p f).read M.D~)

  pub record ProperWitness (S~ : List ℤ) (C : List ℕ) (out : List ℤ) : Type 0 where
    pub setting : setting_refusal p ≡ 0
    pub lengths : WitnessLengths p f S~ C out
    pub bytes : Ternary p C
    pub entries : Bounded p.m (columns_of p f) (h_of p) ((sent_S~ p f).read S~)

  pub record ProperRecompose (S~ : List ℤ) (out : Witnesses) : Type 0 where
    pub setting : setting_refusal p ≡ 0
    pub lengths : RecomposeLengths p f S~ out
    pub entries : Bounded p.m (columns_of p f) (h_of p) ((sent_S~ p f).read S~)
    pub columns : ShortRecomposed p f S~
    pub digits : FollowsRule p f S~

-- demand 1, of a call with these rules that is proper where P holds: a proper call ends with its whole answer; every other call
-- is refused with the first number that applies to it, and its outputs keep what they held (a leaf count is 0 then)
pub record Decided {X : Type 0} (call : Outcome X) (before : X) (result : Outcome X) (rules : List Rule) (P : Type 0) : Type 0 where
  pub proper : P → call ≡ result
  pub others : (P → ⊥) → (r : ℕ) × (call ≡ ends (refused r) before) × First rules r
  pub refuses : (r : ℕ) → (call.answer ≡ refused r) ↔ First rules r

-- the leaf count is n where a call ends with this word, else 0
abbrev pub CountsOn : Meaning → ℕ → Outcome Counted → Type 0
CountsOn word n call = (call.answer ≡ word → call.outputs.leaves ≡ n) × ((call.answer ≡ word → ⊥) → call.outputs.leaves ≡ 0)

-- a setting as the checking constructor gives it: accepted, with k, N and the powers worked out from its five numbers
pub record Rebuilt (s : Setting) : Type 0 where
  pub ok : setting_refusal (parameters_of s) ≡ 0
  pub whole : s ≡ setting_of (parameters_of s)
