-- What a `leaf` line comes to: refused because it is no such record, refused by commit, or taken.
use mathlib.Core.Path.{◌≡◌, refl, sym, ◌∙◌, ap}
use mathlib.Core.Bool.{false}
use mathlib.Core.List.{List}
use Rattle.std.specs.Prelude.{Option, Some, None}
use Prim.Native.Nat.{ℕ, ◌+◌}
use native.Mathlib.Omega.{arith}
use lib.IntN.{ℤ}
use Rattle.settings.specs.Settings.{Parameters}
use Rattle.lova.specs.Answers.{Meaning, done, refused, Outcome, ends, refusal, refuses}
use Rattle.lova.specs.Stored.{Counted}
use Rattle.lova.specs.Commit.{commit}
use Rattle.chain.specs.Nodes.{Node, blank_instance, leaf_of}
use Rattle.chain.specs.Reports.{leaf_line}
use Rattle.chain.specs.Chain.{Stage, Counts, tally, step, refuse, on_leaf, number_of}
use Rattle.chain.proofs.Refusing.{commit-makes, leaf-ends, leaf-refuses}

-- a line that is no such record has no witness
pub no_witness : {X : Type 0} (o : Option (List ℤ)) (S : List ℤ) → o ≡ None → o ≡ Some S → X
no_witness o S e f = let never : ◌≡◌ {A = Option (List ℤ)} None (Some S) = sym e ∙ f in absurd (grind arith)

module _ (p : Parameters) (A : List ℕ) (o : Option (List ℤ)) where
  pub leaf-unread : o ≡ None → (n : Counts) (next : Node → Stage) → on_leaf n p A next o ≡ refuse n 13
  unfolding on_leaf
  leaf-unread e n next = rw e refl

  -- from commit's end
  module _ (S : List ℤ) (r : o ≡ Some S) (v : Meaning) (J : Counted) (e : ends v J ≡ commit p A S (blank_instance p)) where
    same : (S′ : List ℤ) → o ≡ Some S′ → S ≡ S′
    same S′ r′ = let both : ◌≡◌ {A = Option (List ℤ)} (Some S) (Some S′) = sym r ∙ r′ in grind arith

    pub leaf-refused : (number : ℕ) → v ≡ refused number → (n : Counts) (next : Node → Stage) → on_leaf n p A next o ≡ refuse n number
    unfolding on_leaf refusal refuses number_of
    leaf-refused number f n next = rw (r, ← e, f) refl

    -- one leaf is under it
    pub leaf-one : refuses v ≡ false → J.leaves ≡ 1
    leaf-one f = ap (λ (o : Outcome Counted). o.outputs.leaves) (e ∙ commit-makes p A S (blank_instance p) (sym (ap (λ (o : Outcome Counted). refuses o.answer) e) ∙ f))

    pub leaf-taken : refuses v ≡ false → (z : Node) → z ≡ record { instance = J; witness = S } → (n : Counts) (next : Node → Stage)
        → on_leaf n p A next o ≡ step (tally (n.line + 1) (n.leaves + 1) n.folds) (next z) (leaf_line p (n.leaves + 1) z.instance)
    unfolding on_leaf
    leaf-taken f z same n next = rw (r, ← e, f, same) refl

    -- what commit leaves is the leaf, and where it refuses what was before: S′ is the witness on the line as well
    pub leaf-refused_is : (S′ : List ℤ) → o ≡ Some S′ → (number : ℕ) → v ≡ refused number → (before : Node) → ends (refused number) before ≡ leaf_of p A S′ before
    unfolding refusal refuses
    leaf-refused_is S′ r′ number f before = rw (← same S′ r′, ← f) (leaf-refuses p A S before v J e (rw f refl))

    pub leaf-made_is : (S′ : List ℤ) → o ≡ Some S′ → v ≡ done → (z : Node) → z ≡ record { instance = J; witness = S } → (before : Node) → ends done z ≡ leaf_of p A S′ before
    unfolding refusal refuses
    leaf-made_is S′ r′ f z is before = rw (← same S′ r′, is, ← f) (leaf-ends p A S before v J e (rw f refl))
