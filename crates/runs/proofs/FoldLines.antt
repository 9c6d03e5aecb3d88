-- What a `c` line comes to: refused because it is no such record, refused by the fold, or taken.
use mathlib.Core.Path.{◌≡◌, refl}
use mathlib.Core.Bool.{false}
use mathlib.Core.List.{List}
use Rattle.std.specs.Prelude.{Option, Some, None}
use Prim.Native.Nat.{ℕ, ◌+◌}
use Rattle.settings.specs.Settings.{Parameters}
use Rattle.lova.specs.Answers.{Meaning, refused, ends, refusal, refuses}
use Rattle.chain.specs.Nodes.{Node, fold_of}
use Rattle.chain.specs.Reports.{fold_line}
use Rattle.chain.specs.Chain.{Counts, tally, step, leaf, refuse, on_challenge, number_of}

module _ (p : Parameters) (A : List ℕ) (left right : Node) (n : Counts) where
  pub challenge-unread : (o : Option (List ℕ)) → o ≡ None → on_challenge n p A left right o ≡ refuse n 13
  unfolding on_challenge
  challenge-unread o e = rw e refl

  -- from the fold's end
  module _ (C : List ℕ) (v : Meaning) (z : Node) (e : ends v z ≡ fold_of p A left right C) where
    pub fold-refused : (number : ℕ) → v ≡ refused number → on_challenge n p A left right (Some C) ≡ refuse n number
    unfolding on_challenge refusal refuses number_of
    fold-refused number f = rw (← e, f) refl

    pub fold-taken : refuses v ≡ false → (z' : Node) → z' ≡ z
        → on_challenge n p A left right (Some C) ≡ step (tally (n.line + 1) n.leaves (n.folds + 1)) (leaf p A z') (fold_line p (n.folds + 1) v z'.instance)
    unfolding on_challenge
    fold-taken f z' same = rw (same, ← e, f) refl
