-- Leaves and folds make the nodes of lova's trees: the bridge to `every-tree-is-honest`.
use mathlib.Core.Path.{◌≡◌, refl, sym, ap}
use mathlib.Core.List.{List}
use Prim.Native.Nat.{ℕ, ◌+◌, ◌<◌, ◌≤◌}
use native.Mathlib.Omega.{arith}
use lib.IntN.{ℤ, pos}
use lib.ListN.{length-replicate}
use Rattle.settings.specs.Settings.{Parameters, setting_refusal}
use Rattle.lova.specs.Answers.{Meaning, done, «yes», member, refused, Outcome, ends, refusal, refuses}
use Rattle.lova.specs.declared.Profile.{Profile}
use Rattle.lova.specs.declared.Profile.TheVariants.{General, Fresh}
use Rattle.lova.specs.Stored.{Counted, counted, most_leaves, matrix_A, matrix_S}
use Rattle.lova.specs.Repeats.{repeated_S}
use Rattle.lova.specs.Calls.{Fits, ProperRelation}
use Rattle.lova.specs.Commit.{instance_of, commit}
use Rattle.lova.specs.Message.{message, prepared_of}
use Rattle.lova.specs.Verdict.{verdict}
use Rattle.lova.specs.Witness.{witness}
use Rattle.lova.specs.Relation.{relation}
use Rattle.lova.specs.Trees.{Tree, leaf, fold, fold_fresh, plain, leaves_of, Proper, FitsBefore, HeldFits, left_witness, seen, prepares, view_of, FoldBeyond, AllAccepted, Honest}
use Rattle.lova.proofs.OneFold.{instance-fits, witness-fits}
use Rattle.lova.proofs.Honest.{Given, too_many, related-own}
use Rattle.lova.proofs.Theorems.{every-tree-is-honest, message_decided, relation-member}
use Rattle.chain.specs.Nodes.{Node, blank_instance, blank_prepared, blank_node, leaf_of, fold_answer, calls_of, fold_of}
use Rattle.chain.specs.Trees.{blank_before, blank_held, tree_node}
use Rattle.chain.proofs.Refusing.{leaf-ends, calls-end, fold-ends, fold-refuses}

-- zeros fit
before-fits : (p : Parameters) (f : Profile) → FitsBefore p f (blank_before p f)
before-fits p f = (
  ((length-replicate _ (pos 0), length-replicate _ 0, length-replicate _ (pos 0)), length-replicate _ (pos 0)),
  (length-replicate _ 0, length-replicate _ (pos 0)),
  (length-replicate _ 0, length-replicate _ (pos 0)),
  length-replicate _ (pos 0),
)

held_fits : (p : Parameters) (t : Tree) → HeldFits p t (blank_held p t)
unfolding HeldFits blank_held
held_fits p (leaf S) = (length-replicate _ 0, length-replicate _ (pos 0))
held_fits p (fold left right C) = (held_fits p left, held_fits p right, before-fits p General)
held_fits p (fold_fresh left v C) = (held_fits p left, (length-replicate _ 0, length-replicate _ (pos 0)), before-fits p Fresh)

-- the answer of a fold whose calls before the verdict are done is the verdict's
as_judged : (said folded judged v : Meaning) → said ≡ done → folded ≡ done → judged ≡ v → v ≡ fold_answer said folded judged
unfolding fold_answer refusal refuses
as_judged said folded judged v s f j = rw (s, f, j) refl

-- the witness of a plain tree has its stated length
plain_fits : (p : Parameters) (A : List ℕ) (t : Tree) → Proper p t → Fits (matrix_S p) (plain p t)
unfolding Proper plain
plain_fits p A (leaf S) proper = proper.0
plain_fits p A (fold left right C) proper = witness-fits p A (plain p left) (plain p right) C
plain_fits p A (fold_fresh left v C) proper = witness-fits p A (plain p left) (repeated_S p Fresh v) C

module _ (p : Parameters) (A : List ℕ) (ok : setting_refusal p ≡ 0) (size_A : Fits (matrix_A p) A) where
  -- all that lova's theorem says of a tree
  pub tree-honest : (t : Tree) → Proper p t → leaves_of t ≤ most_leaves → Honest p A t (blank_held p t)
  tree-honest t proper few = every-tree-is-honest p A t (blank_held p t) ok size_A proper few (held_fits p t)

  -- the node of a tree by its plain witness: the instance of that, with the number of the tree's leaves
  abbrev pub plain_node : Tree → Node
  plain_node t = record { instance = counted (instance_of p A (plain p t)) (leaves_of t); witness = plain p t }

  pub node_plain : (t : Tree) → Proper p t → leaves_of t ≤ most_leaves → tree_node p A t ≡ plain_node t
  unfolding tree_node
  node_plain t proper few = let h = tree-honest t proper few in rw (h.verifier, h.witness) refl

  pub node_leaves : (t : Tree) → Proper p t → leaves_of t ≤ most_leaves → (tree_node p A t).instance.leaves ≡ leaves_of t
  node_leaves t proper few = ap (λ (z : Node). z.instance.leaves) (node_plain t proper few)

  -- it passes the relation test
  pub member_is : (t : Tree) → Proper p t → leaves_of t ≤ most_leaves → (relation p A (tree_node p A t).instance.instance (tree_node p A t).witness).answer ≡ member
  member_is t proper few =
      let proper-call : ProperRelation p A (instance_of p A (plain p t)) (plain p t) = record { setting = ok; lengths = (size_A, instance-fits p A (plain p t), plain_fits p A t proper) } in
      let related = related-own p A ok size_A (plain p t) (tree-honest t proper few).columns in
      rw (node_plain t proper few) ((relation-member p A _ _ proper-call).1 related)

  -- a leaf's node is what commit leaves, and what a leaf leaves
  pub commit-is : (S : List ℤ) → Proper p (leaf S) → commit p A S (blank_instance p) ≡ ends done (tree_node p A (leaf S)).instance
  unfolding tree_node seen view_of blank_held AllAccepted leaves_of
  commit-is S proper = ap (λ (a : Meaning). ends a (commit p A S (blank_instance p)).outputs) (tree-honest (leaf S) proper (omega arith)).accepted

  pub leaf-is : (S : List ℤ) (before : Node) → Proper p (leaf S) → leaf_of p A S before ≡ ends done (tree_node p A (leaf S))
  unfolding tree_node left_witness refusal refuses
  leaf-is S before proper = sym (leaf-ends p A S before done (tree_node p A (leaf S)).instance (sym (commit-is S proper)) refl)

  -- a fold's node is what the fold of its two nodes leaves
  calls_are : (left right : Tree) (C : List ℕ) → Proper p (fold left right C) → leaves_of (fold left right C) ≤ most_leaves
      → ends «yes» (tree_node p A (fold left right C)) ≡ calls_of p A (tree_node p A left) (tree_node p A right) C (blank_node p)
  unfolding tree_node seen view_of left_witness prepares blank_held AllAccepted refusal refuses
  calls_are left right C proper few =
      let a = (tree-honest (fold left right C) proper few).accepted.2 in
      calls-end p A (tree_node p A left) (tree_node p A right) C (blank_node p) _ _ _ «yes» _ refl refl refl (as_judged _ _ _ «yes» a.messages a.folds a.agrees) refl

  pub fold_is : (left right : Tree) (C : List ℕ) → Proper p (fold left right C) → leaves_of (fold left right C) ≤ most_leaves
      → fold_of p A (tree_node p A left) (tree_node p A right) C ≡ ends «yes» (tree_node p A (fold left right C))
  unfolding refusal refuses
  fold_is left right C proper few = sym (fold-ends p A (tree_node p A left) (tree_node p A right) C «yes» (tree_node p A (fold left right C)) (calls_are left right C proper few) refl)

  -- with too many leaves under the two nodes the fold is refused with 15, and the left node is kept
  module _ (left right : Tree) (C : List ℕ) (proper : Proper p (fold left right C)) (few₁ : leaves_of left ≤ most_leaves) (few₂ : leaves_of right ≤ most_leaves) (many : most_leaves < leaves_of left + leaves_of right) where
    abbrev S₁ : List ℤ
    S₁ = plain p left

    abbrev S₂ : List ℤ
    S₂ = plain p right

    given : Given p A ok size_A General S₁ S₂ C (blank_before p General)
    unfolding Proper
    given = record {
      size₁ = plain_fits p A left proper.0;
      size₂ = plain_fits p A right proper.1;
      short₁ = (tree-honest left proper.0 few₁).columns;
      short₂ = (tree-honest right proper.1 few₂).columns;
      size_C = proper.2.0;
      ternary = proper.2.1;
      fits = before-fits p General;
    }

    beyond : FoldBeyond p General A (plain_node left).instance (plain_node right).instance S₁ S₂ C (blank_before p General) (prepared_of p A S₁ S₂)
    beyond = too_many p A ok size_A General S₁ S₂ (leaves_of left) (leaves_of right) C (blank_before p General) given (λ h. omega (arith, h.2, many))

    prepared : message p A S₁ S₂ (blank_prepared p) ≡ ends done (prepared_of p A S₁ S₂)
    prepared = (message_decided p General A S₁ S₂ (blank_prepared p)).proper
        (record { setting = ok; lengths = (size_A, given.size₁, given.size₂, given.fits.0); columns = (given.short₁, given.short₂) })

    -- the verdict is refused, and no call before it
    abbrev folded : Outcome (List ℤ)
    folded = witness p (prepared_of p A S₁ S₂).S~ C (blank_node p).witness

    abbrev judged : Outcome Counted
    judged = verdict p (plain_node left).instance (plain_node right).instance (prepared_of p A S₁ S₂).message C (blank_instance p)

    calls-beyond : ends (refused 15) (record { instance = counted judged.outputs.instance 0; witness = folded.outputs }) ≡ calls_of p A (plain_node left) (plain_node right) C (blank_node p)
    unfolding refusal refuses
    calls-beyond = calls-end p A (plain_node left) (plain_node right) C (blank_node p) _ folded judged (refused 15) 0 (sym prepared) refl refl (as_judged done _ _ (refused 15) refl beyond.folds beyond.judges) refl

    pub fold-beyond : fold_of p A (tree_node p A left) (tree_node p A right) C ≡ ends (refused 15) (tree_node p A left)
    unfolding Proper refusal refuses
    fold-beyond =
        rw (node_plain left proper.0 few₁, node_plain right proper.1 few₂)
        (sym (fold-refuses p A (plain_node left) (plain_node right) C (refused 15) _ calls-beyond refl))
