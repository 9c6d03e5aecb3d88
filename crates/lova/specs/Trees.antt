-- Document 01, "Trees of folds".
use Rattle.std.specs.Prelude.{◌≡◌, List, ℕ, ◌+◌, ℤ}
use Rattle.matrices.specs.Matrices.{product, gram}
use Rattle.settings.specs.Settings.{Parameters}
use Rattle.lova.specs.declared.Profile.{Profile}
use Rattle.lova.specs.declared.Profile.TheVariants.{General, Fresh}
use Rattle.lova.specs.Answers.{done, «yes», refused, Outcome}
use Rattle.lova.specs.Stored.{Instance, Counted, counted, Message, Prepared, matrix_A, matrix_S, right_S, joined_T, joined_D}
use Rattle.lova.specs.Calls.{Fits, FitsInstance, FitsRight, FitsJoined, FitsPrepared, FitsC, Short, ShortRight, Ternary}
use Rattle.lova.specs.Fold.{beside_S, digit_witness}
use Rattle.lova.specs.Repeats.{repeated_S}
use Rattle.lova.specs.Commit.{commit_in, commit, instance_of}
use Rattle.lova.specs.Relation.{Related}
use Rattle.lova.specs.Join.{join_in}
use Rattle.lova.specs.Message.{message_in, message}
use Rattle.lova.specs.Verdict.{verdict_in, verdict}
use Rattle.lova.specs.Witness.{witness_in, witness, folded_witness}

-- a leaf with a witness S, a fold of a left and a right tree with a challenge C, or a fold of a left tree and a fresh leaf v
pub data Tree : Type 0 where
  leaf : List ℤ → Tree
  fold : Tree → Tree → List ℕ → Tree
  fold_fresh : Tree → List ℤ → List ℕ → Tree

-- the plain tree: at a leaf S; at a fold the digits of what left and right made, times C, with no wrapping
unfoldable pub plain : Parameters → Tree → List ℤ
plain p (leaf S) = S
plain p (fold left right C) = folded_witness p (digit_witness p (beside_S p (plain p left) (plain p right))) C
plain p (fold_fresh left v C) = folded_witness p (digit_witness p (beside_S p (plain p left) (repeated_S p Fresh v))) C

-- the leaves of a tree; a fresh leaf is one
unfoldable pub leaves_of : Tree → ℕ
leaves_of (leaf S) = 1
leaves_of (fold left right C) = leaves_of left + leaves_of right
leaves_of (fold_fresh left v C) = leaves_of left + 1

-- ---- what demand 3 asks of leaves and challenges

-- leaf witnesses whose columns are within B, and ternary challenges, each slice of its stated length
unfoldable pub Proper : Parameters → Tree → Type 0
Proper p (leaf S) = Fits (matrix_S p) S × Short p S
Proper p (fold left right C) = Proper p left × Proper p right × (FitsC p C × Ternary p C)
Proper p (fold_fresh left v C) = Proper p left × (Fits (right_S p Fresh) v × ShortRight p Fresh v) × (FitsC p C × Ternary p C)

-- ---- what the lent outputs held before

-- of a fold's four calls: message, join, verdict and folded witness
pub record Before : Type 0 where
  pub message : Prepared
  pub join : Instance
  pub verdict : Instance
  pub witness : List ℤ

-- of all calls of a tree: commit's outputs at a leaf
abbrev pub Held : Tree → Type 0
Held (leaf S) = Instance
Held (fold left right C) = Held left × Held right × Before
Held (fold_fresh left v C) = Held left × Instance × Before

abbrev pub FitsBefore : Parameters → Profile → Before → Type 0
FitsBefore p f b = FitsPrepared p f b.message × FitsJoined p b.join × FitsInstance p b.verdict × Fits (matrix_S p) b.witness

-- every lent output has its stated length; what it held is arbitrary
unfoldable pub HeldFits : Parameters → (t : Tree) → Held t → Type 0
HeldFits p (leaf S) held = FitsInstance p held
HeldFits p (fold left right C) held = HeldFits p left held.0 × HeldFits p right held.1 × FitsBefore p General held.2
HeldFits p (fold_fresh left v C) held = HeldFits p left held.0 × FitsRight p Fresh held.1 × FitsBefore p Fresh held.2

-- ---- the honest calls, from the leaves up: each gets what the calls below it left

-- the witness that the calls leave: S at a leaf, at a fold the folded witness of message's S~
unfoldable pub left_witness : (p : Parameters) (A : List ℕ) (t : Tree) → Held t → List ℤ
left_witness p A (leaf S) held = S
left_witness p A (fold left right C) held =
    (witness p (message p A (left_witness p A left held.0) (left_witness p A right held.1) held.2.message).outputs.S~ C held.2.witness).outputs
left_witness p A (fold_fresh left v C) held =
    (witness_in p Fresh (message_in p Fresh A (left_witness p A left held.0) v held.2.message).outputs.S~ C held.2.witness).outputs

-- what the verifier sees: a leaf's instance and its count; a fold's message and challenge, and what its own outputs held. No A,
-- no witness
pub data View : Type 0 where
  leaf : Counted → View
  fold : View → View → Message → List ℕ → Instance → View
  fold_fresh : View → Counted → Message → List ℕ → Instance → View

-- the T, D and leaf count that the verifier works out from that alone: commit's at a leaf, verdict's at a fold
unfoldable pub seen : Parameters → View → Counted
seen p (View.leaf J) = J
seen p (View.fold left right M C before) = (verdict p (seen p left) (seen p right) M C before).outputs
seen p (View.fold_fresh left J M C before) = (verdict_in p Fresh (seen p left) J M C before).outputs

-- the message call at a fold
unfoldable pub prepares : (p : Parameters) (A : List ℕ) (left right : Tree) → Held left → Held right → Before → Outcome Prepared
prepares p A left right h₁ h₂ before = message p A (left_witness p A left h₁) (left_witness p A right h₂) before.message

-- the message call at a fold with a fresh leaf
unfoldable pub prepares_fresh : (p : Parameters) (A : List ℕ) (left : Tree) → List ℤ → Held left → Before → Outcome Prepared
prepares_fresh p A left v h₁ before = message_in p Fresh A (left_witness p A left h₁) v before.message

-- what the calls of a tree show the verifier
unfoldable pub view_of : (p : Parameters) (A : List ℕ) (t : Tree) → Held t → View
view_of p A (leaf S) held = View.leaf (commit p A S held).outputs
view_of p A (fold left right C) held =
    View.fold (view_of p A left held.0) (view_of p A right held.1) (prepares p A left right held.0 held.1 held.2).outputs.message C held.2.verdict
view_of p A (fold_fresh left v C) held =
    View.fold_fresh (view_of p A left held.0) (commit_in p Fresh A v held.1).outputs (prepares_fresh p A left v held.0 held.2).outputs.message C held.2.verdict

-- A [S1 S2] modulo 2^64 and [S1 S2]-transposed [S1 S2], as join writes them
unfoldable pub join_of : Parameters → List ℕ → List ℤ → List ℤ → Instance
join_of p A S₁ S₂ = record {
  T = (joined_T p).write (product p.m ((matrix_A p).read A) (beside_S p S₁ S₂));
  D = (joined_D p).write (gram p.m (beside_S p S₁ S₂));
}

-- a fold's calls, at what they are given: J1 and J2 are the two instances with their counts, S1 and S2 the two witnesses
pub record FoldAccepted (p : Parameters) (f : Profile) (A : List ℕ) (J₁ J₂ : Counted) (S₁ S₂ : List ℤ) (C : List ℕ) (before : Before) (said : Prepared) : Type 0 where
  pub messages : (message_in p f A S₁ S₂ before.message).answer ≡ done
  pub joins : (join_in p f J₁ J₂ said.message.«V» before.join).answer ≡ done
  pub joined : (join_in p f J₁ J₂ said.message.«V» before.join).outputs ≡ counted (join_of p A S₁ (repeated_S p f S₂)) (J₁.leaves + J₂.leaves)
  pub agrees : (verdict_in p f J₁ J₂ said.message C before.verdict).answer ≡ «yes»
  pub folds : (witness_in p f said.S~ C before.witness).answer ≡ done

-- a fold's calls, at instances whose leaf counts cannot be joined: join and verdict are refused with 15, the prover's calls are done
pub record FoldBeyond (p : Parameters) (f : Profile) (A : List ℕ) (J₁ J₂ : Counted) (S₁ S₂ : List ℤ) (C : List ℕ) (before : Before) (said : Prepared) : Type 0 where
  pub messages : (message_in p f A S₁ S₂ before.message).answer ≡ done
  pub joins : (join_in p f J₁ J₂ said.message.«V» before.join).answer ≡ refused 15
  pub judges : (verdict_in p f J₁ J₂ said.message C before.verdict).answer ≡ refused 15
  pub folds : (witness_in p f said.S~ C before.witness).answer ≡ done

-- no call of the tree is refused, every verdict is yes, and every join is A [S1 S2] with its products, and counts their leaves
unfoldable pub AllAccepted : (p : Parameters) (A : List ℕ) (t : Tree) → Held t → Type 0
AllAccepted p A (leaf S) held = (commit p A S held).answer ≡ done
AllAccepted p A (fold left right C) held =
    AllAccepted p A left held.0 × AllAccepted p A right held.1
    × FoldAccepted p General A (seen p (view_of p A left held.0)) (seen p (view_of p A right held.1))
    (left_witness p A left held.0) (left_witness p A right held.1) C held.2
    (prepares p A left right held.0 held.1 held.2).outputs
AllAccepted p A (fold_fresh left v C) held =
    AllAccepted p A left held.0 × ((commit_in p Fresh A v held.1).answer ≡ done)
    × FoldAccepted p Fresh A (seen p (view_of p A left held.0)) (commit_in p Fresh A v held.1).outputs
    (left_witness p A left held.0) v C held.2 (prepares_fresh p A left v held.0 held.2).outputs

-- demand 3, of one tree and of what its outputs held: at the root the witness S is the plain tree's, the verifier's T and D
-- are A S modulo 2^64 and S-transposed S and so in relation (1) with S, its leaf count is the tree's, and each column of S is
-- within B
pub record Honest (p : Parameters) (A : List ℕ) (t : Tree) (held : Held t) : Type 0 where
  pub accepted : AllAccepted p A t held
  pub witness : left_witness p A t held ≡ plain p t
  pub verifier : seen p (view_of p A t held) ≡ counted (instance_of p A (plain p t)) (leaves_of t)
  pub related : Related p A (seen p (view_of p A t held)).instance (plain p t)
  pub columns : Short p (plain p t)
