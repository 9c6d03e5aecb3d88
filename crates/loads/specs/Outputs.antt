-- What the chain program prints for the file of a load.
use Rattle.std.specs.Prelude.{List, ◌++◌, ℕ, zero, suc, ◌+◌, ◌-◌}
use Rattle.settings.specs.Settings.{Parameters}
use Rattle.lova.specs.Answers.{«yes», member}
use Rattle.lova.specs.Stored.{counted}
use Rattle.lova.specs.Commit.{instance_of}
use Rattle.lova.specs.Trees.{Tree, leaf, fold, plain}
use Rattle.chain.specs.Reports.{leaf_line, fold_line, end_line}
use Rattle.loads.specs.Files.{drawn_A, drawn_S, drawn_c, after_A, after_S, after_C}

module _ (p : Parameters) (A : List ℕ) where
  -- the tree so far, folded with the leaf and the challenge that are drawn from the state s on
  abbrev pub larger : Tree → ℕ → Tree
  larger t s = fold t (leaf (drawn_S p s)) (drawn_c p (after_S p s))

  -- for n pairs after i folds: each leaf's line, each fold's line, which says yes with the plain tree's instance; at the end member
  unfoldable pub pairs_output : ℕ → ℕ → Tree → ℕ → List ℕ
  pairs_output zero i t s = end_line i member
  pairs_output (suc n) i t s =
      leaf_line p (i + 2) (counted (instance_of p A (drawn_S p s)) 1)
      ++ (fold_line p (i + 1) «yes» (counted (instance_of p A (plain p (larger t s))) (i + 2))
      ++ pairs_output n (i + 1) (larger t s) (after_C p (after_S p s)))

-- the whole output
unfoldable pub file_output : Parameters → ℕ → ℕ → List ℕ
file_output p count seed =
    let A = drawn_A p seed in
    let S = drawn_S p (after_A p seed) in
    leaf_line p 1 (counted (instance_of p A S) 1) ++ pairs_output p A (count - 1) 0 (leaf S) (after_S p (after_A p seed))
