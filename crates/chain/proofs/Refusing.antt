-- What is kept after an answer: how a leaf and a fold are told from their calls, and what they tell a caller.
use mathlib.Core.Path.{◌≡◌, refl, sym, ◌∙◌, ap}
use mathlib.Core.Bool.{true, false, true≢false}
use mathlib.Core.List.{List}
use Prim.Native.Nat.{ℕ, zero, suc}
use lib.IntN.{ℤ}
use Rattle.std.specs.Prelude.{Ok}
use Rattle.settings.specs.Rules.{first_of}
use Rattle.settings.specs.Settings.{Parameters}
use Rattle.lova.specs.declared.Verdict.{Verdict}
use Rattle.lova.specs.declared.Verdict.TheVariants as Verdicts
use Rattle.lova.specs.declared.Profile.TheVariants.{General}
use Rattle.lova.specs.Answers.{Meaning, done, verdict_of, Outcome, ends, unless_refused, after_setting, refusal, refuses, count_after}
use Rattle.lova.specs.Stored.{Instance, Counted, counted, Message, Prepared}
use Rattle.lova.specs.Commit.{commit_rules, instance_of, commit_in, commit}
use Rattle.lova.specs.Message.{message}
use Rattle.lova.specs.Verdict.{verdict}
use Rattle.lova.specs.Witness.{witness}
use Rattle.lova.proofs.Refusals.{ends_so}
use Rattle.chain.specs.Nodes.{Node, node_of, blank_instance, blank_prepared, blank_node, unless_refusing, leaf_of, fold_answer, calls_of, fold_of}

-- nodes and messages with equal parts
pub node_same : (T T' : List ℕ) (D D' : List ℤ) (n n' : ℕ) (S S' : List ℤ) → T ≡ T' → D ≡ D' → n ≡ n' → S ≡ S' → node_of T D n S ≡ node_of T' D' n' S'
node_same T T' D D' n n' S S' t d l s = rw (t, d, l, s) refl

pub message-same : («V» V' : List ℤ) (T~ T' : List ℕ) (D~ D' : List ℤ) → «V» ≡ V' → T~ ≡ T' → D~ ≡ D' → ◌≡◌ {A = Message} (record { «V» = «V»; T~ = T~; D~ = D~ }) (record { «V» = V'; T~ = T'; D~ = D' })
message-same «V» V' T~ T' D~ D' v t d = rw (v, t, d) refl

-- a verdict does not refuse
pub passes_on : (v : Verdict) → refuses (verdict_of (Ok v)) ≡ false
unfolding refusal refuses verdict_of
passes_on (Verdicts.Yes leaves) = refl
passes_on Verdicts.Long = refl
passes_on Verdicts.Norm = refl
passes_on Verdicts.Commitment = refl

-- the leaf count after an answer: the answer's, and with a refusal the one that was there
module _ (a : Meaning) (leaves before : ℕ) where
  pub count-after : refuses a ≡ false → count_after a leaves before ≡ leaves
  count-after e = rw e refl

  pub count-before : refuses a ≡ true → count_after a leaves before ≡ before
  count-before e = rw e refl

-- an answer that does not refuse keeps what was made, a refusal what was there
module _ (a : Meaning) (before after : Node) where
  pub kept-after : refuses a ≡ false → unless_refusing a before after ≡ ends a after
  unfolding unless_refusing
  kept-after e = rw e refl

  pub kept-before : refuses a ≡ true → unless_refusing a before after ≡ ends a before
  unfolding unless_refusing
  kept-before e = rw e refl

-- ---- a leaf

-- a commit that does not refuse has passed every rule, and so it has made the instance, with one leaf
module _ (p : Parameters) (A : List ℕ) (S : List ℤ) (out : Instance) (f : refuses (commit p A S out).answer ≡ false) where
  abbrev applies : ℕ
  applies = first_of (after_setting p (commit_rules p General A S out))

  abbrev one-leaf : Counted
  one-leaf = counted (instance_of p A S) 1

  pub commit-passes : applies ≡ 0
  unfolding commit_in unless_refused refusal refuses
  commit-passes = by applies f
    where
      by : (r : ℕ) → refuses (unless_refused r (counted out 0) (ends done one-leaf)).answer ≡ false → r ≡ 0
      by zero g = refl
      by (suc r) g = absurd (true≢false g)

  pub commit-makes : commit p A S out ≡ ends done one-leaf
  unfolding commit_in
  commit-makes = ends_so (counted out 0) (ends done one-leaf) applies commit-passes

module _ (p : Parameters) (A : List ℕ) (S : List ℤ) (before : Node) where
  leaf-by : Outcome Counted → Outcome Node
  leaf-by o = unless_refusing o.answer before (record { instance = o.outputs; witness = S })

  -- from commit's end
  module _ (v : Meaning) (J : Counted) (e : ends v J ≡ commit p A S (blank_instance p)) where
    pub leaf-ends : refuses v ≡ false → ends v (record { instance = J; witness = S }) ≡ leaf_of p A S before
    unfolding leaf_of leaf-by
    leaf-ends f = sym (kept-after v before _ f) ∙ ap leaf-by e

    pub leaf-refuses : refuses v ≡ true → ends v before ≡ leaf_of p A S before
    unfolding leaf_of leaf-by
    leaf-refuses f = sym (kept-before v before (record { instance = J; witness = S }) f) ∙ ap leaf-by e

-- ---- a fold

module _ (p : Parameters) (A : List ℕ) (left right : Node) (C : List ℕ) where
  -- from the ends of message, folded witness and verdict; the verdict's leaf count, and 0 with a refusal
  pub calls-end : (before : Node) (said : Outcome Prepared) (folded : Outcome (List ℤ)) (judged : Outcome Counted) (v : Meaning) (leaves : ℕ)
      → said ≡ message p A left.witness right.witness (blank_prepared p)
      → folded ≡ witness p said.outputs.S~ C before.witness
      → judged ≡ verdict p left.instance right.instance said.outputs.message C before.instance.instance
      → v ≡ fold_answer said.answer folded.answer judged.answer
      → leaves ≡ count_after v judged.outputs.leaves 0
      → ends v (record { instance = counted judged.outputs.instance leaves; witness = folded.outputs }) ≡ calls_of p A left right C before
  unfolding calls_of
  calls-end before said folded judged v leaves s f j a n = rw (n, a, j, f, s) refl

  fold-by : Outcome Node → Outcome Node
  fold-by o = unless_refusing o.answer left o.outputs

  -- from the calls' end
  module _ (v : Meaning) (z : Node) (e : ends v z ≡ calls_of p A left right C (blank_node p)) where
    pub fold-ends : refuses v ≡ false → ends v z ≡ fold_of p A left right C
    unfolding fold_of fold-by
    fold-ends f = sym (kept-after v left z f) ∙ ap fold-by e

    pub fold-refuses : refuses v ≡ true → ends v left ≡ fold_of p A left right C
    unfolding fold_of fold-by
    fold-refuses f = sym (kept-before v left z f) ∙ ap fold-by e
