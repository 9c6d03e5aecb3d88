-- What is proved of the chain program's definition, in one place. The code's contracts are equations with the same definitions:
-- `runs::take` with `take_line`, and in `driver` the end of the input with `at_end` and `feed_end`, `Feed::take` with `feed_all`
-- and `feed_output`.
use mathlib.Core.Path.{◌≡◌}
use mathlib.Core.Logic.{◌⊎◌}
use mathlib.Core.Bool.{false}
use mathlib.Core.List.{List, []}
use Rattle.std.specs.Prelude.{Some}
use Prim.Native.Nat.{ℕ, ◌+◌, ◌≤◌, ◌<◌}
use lib.IntN.{ℤ}
use lib.ListN.{length}
use Rattle.settings.specs.Settings.{Parameters}
use Rattle.text.specs.Fields.{record_of, read_i64, read_ternary}
use Rattle.line_machines.specs.Machines.{longest_line, unfed, bytewise, chunked, whole}
use Rattle.line_machines.proofs.Bytes as Bytes
use Rattle.lova.specs.Answers.{«yes», member, refuses}
use Rattle.lova.specs.Stored.{counted, most_leaves, matrix_S, size_C}
use Rattle.lova.specs.Commit.{instance_of, commit}
use Rattle.lova.specs.Trees.{Tree, leaf, fold, leaves_of}
use Rattle.chain.specs.Nodes.{Node, blank_instance}
use Rattle.chain.specs.Reports.{leaf_word, leaf_line, fold_line, end_line}
use Rattle.chain.specs.Chain.{State, first, challenge, start, refuse, take_line, at_end, chain_machine, c_word}
use Rattle.chain.specs.Chain as Chain
use Rattle.chain.specs.Program.{program, state_after, taken, count_C}
use Rattle.chain.specs.Trees.{tree_node}
use Rattle.chain.proofs.Stopping.{chain_stops}
use Rattle.chain.proofs.Counts as Counts
use Rattle.chain.proofs.Reached as Reached
use Rattle.chain.proofs.Reached.{Grown, Waiting}

-- byte by byte is line by line
pub by_bytes : (input : List ℕ) → bytewise chain_machine (unfed chain_machine) input ≡ program input
by_bytes = Bytes.by_bytes chain_machine chain_stops

-- in whatever chunks the input comes, the program prints the same
pub any_chunks : (cs : List (List ℕ)) → chunked chain_machine (unfed chain_machine) cs ≡ program (whole cs)
any_chunks = Bytes.any_chunks chain_machine chain_stops

-- the fold count of the run state is the number of `c` records taken so far, in refused runs too
pub folds-are-c : (ls : List (List ℕ)) → (state_after start ls).counts.folds ≡ count_C (taken start ls)
folds-are-c = Counts.folds-are-c

-- after every fold the accumulated instance and witness are those of the left-leaning tree of the leaves and challenges read so far
pub run_is-tree : (ls : List (List ℕ)) (p : Parameters) (A : List ℕ) (node : Node) → (state_after start ls).stage ≡ Chain.leaf p A node → Grown ls p A node
run_is-tree = Reached.run_is-tree

-- and so they are while a leaf waits for its challenge
pub run_waits : (ls : List (List ℕ)) (p : Parameters) (A : List ℕ) (node new : Node) → (state_after start ls).stage ≡ challenge p A node new → Waiting ls p A node new
run_waits = Reached.run_waits

-- the leaf count beside the accumulated instance is the number of that tree's leaves
pub tree-counted : (ls : List (List ℕ)) (p : Parameters) (A : List ℕ) (node : Node) (e : (state_after start ls).stage ≡ Chain.leaf p A node)
    → node.instance.leaves ≡ leaves_of (Reached.run_is-tree ls p A node e).tree
tree-counted = Reached.tree-counted

-- in every run state, a `leaf` line that is due and not refused prints its instance with one leaf
pub leaf-says-one : (s : State) (line : List ℕ) (p : Parameters) (A : List ℕ) (S : List ℤ)
    → (s.stage ≡ first p A) ⊎ ((node : Node) × (s.stage ≡ Chain.leaf p A node))
    → length line ≤ longest_line → record_of read_i64 leaf_word (matrix_S p).size line ≡ Some S → refuses (commit p A S (blank_instance p)).answer ≡ false
    → (take_line s line).output ≡ leaf_line p (s.counts.leaves + 1) (counted (instance_of p A S) 1)
leaf-says-one = Reached.leaf-says-one

-- a `c` line that is due
module _ (ls : List (List ℕ)) (line : List ℕ) (p : Parameters) (A : List ℕ) (node new : Node) (C : List ℕ) (e : (state_after start ls).stage ≡ challenge p A node new) (h : length line ≤ longest_line) (k : record_of read_ternary c_word (size_C p) line ≡ Some C) where
  -- the tree so far, and with the fold of the leaf that waits
  abbrev so_far : Tree
  so_far = (Reached.run_waits ls p A node new e).grown.tree

  abbrev larger : Tree
  larger = fold so_far (leaf (Reached.run_waits ls p A node new e).S) C

  -- its `fold` line says yes, with the instance of the tree with that fold and the number of its leaves
  pub fold-says_yes : leaves_of so_far + 1 ≤ most_leaves
      → (take_line (state_after start ls) line).output ≡ fold_line p ((state_after start ls).counts.folds + 1) «yes» (counted (tree_node p A larger).instance.instance (leaves_of larger))
  fold-says_yes = Reached.fold-says_yes ls line p A node new C e h k

  -- with 2^32 − 1 leaves so far the line is refused with 15
  pub fold_too_many : most_leaves < leaves_of so_far + 1 → take_line (state_after start ls) line ≡ refuse (state_after start ls).counts 15
  fold_too_many = Reached.fold_too_many ls line p A node new C e h k

-- where the input may end, the last line is the count of folds and member
pub end-says-member : (ls : List (List ℕ)) (p : Parameters) (A : List ℕ) (node : Node) → (state_after start ls).stage ≡ Chain.leaf p A node
    → at_end (state_after start ls) [] ≡ end_line (state_after start ls).counts.folds member
end-says-member = Reached.end-says-member
