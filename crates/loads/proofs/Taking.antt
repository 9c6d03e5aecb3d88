-- The chain program on the file of a load: it takes every line, every fold says yes, and the end is member.
use mathlib.Core.Path.{◌≡◌, refl, ◌∙◌, ap, ap₂}
use mathlib.Core.List.{List, [], ◌∷◌, ◌++◌, map}
use Rattle.std.specs.Prelude.{Option, Some}
use Prim.Native.Nat.{ℕ, zero, suc, ◌+◌, ◌-◌, ◌≤◌}
use native.Mathlib.Omega.{arith}
use lib.IntN.{ℤ}
use Rattle.settings.specs.Rules.{first_of}
use Rattle.settings.specs.Settings.{Parameters}
use Rattle.numerals.specs.Numerals.{decimal, decimal_Z}
use Rattle.text.specs.Fields.{cut_at, record_of, read_u64, read_i64, read_ternary}
use Rattle.text.specs.Lines.{joined, line_of, ternary_numeral}
use Rattle.line_machines.specs.Machines.{lines, last_output, printed, output_of}
use Rattle.lova.specs.Answers.{«yes», member, refusal, refuses}
use Rattle.lova.specs.Stored.{counted, most_leaves, matrix_A, matrix_S, size_C}
use Rattle.lova.specs.Calls.{Fits}
use Rattle.lova.specs.Commit.{instance_of}
use Rattle.lova.specs.Trees.{Tree, leaf, fold, plain, leaves_of, Proper, left_witness}
use Rattle.chain.specs.Limits.{program_rules}
use Rattle.chain.specs.Params.{param_word, param_setting, param_refusal}
use Rattle.chain.specs.Nodes.{Node}
use Rattle.chain.specs.Reports.{leaf_word, leaf_line, fold_line, end_line}
use Rattle.chain.specs.Chain.{Stage, Counts, tally, param, matrix, first, challenge, chain_machine, a_word, c_word, on_setting, on_param, on_matrix, on_leaf, on_challenge, take_due, end_due}
use Rattle.chain.specs.Chain as Chain
use Rattle.chain.specs.Program.{program}
use Rattle.chain.specs.Trees.{tree_node}
use Rattle.chain.proofs.Stopping.{chain_stops}
use Rattle.chain.proofs.Trees.{node_plain, commit-is, fold_is, member_is}
use Rattle.loads.specs.Files.{drawn_A, drawn_S, drawn_c, after_A, after_S, after_C, param_text, matrix_text, witness_text, challenge_text, pairs_text, chain_file}
use Rattle.loads.specs.Loads.{most_loaded}
use Rattle.loads.specs.Outputs.{larger, pairs_output, file_output}
use Rattle.loads.proofs.Inputs.{line_shown}
use Rattle.loads.proofs.Settings.{Usable, usable}
use Rattle.loads.proofs.Drawn.{A-fits, S-fits, C-fits, leaves-short, challenges_ternary}
use Rattle.loads.proofs.Lines.{ReadBack, five, param-back, matrix-back, witness-back, challenge-back}

-- ---- one line

-- what the chain program prints from a run state on
abbrev shows : Counts → Stage → List ℕ → List ℕ
shows n due bs = printed chain_machine (record { counts = n; stage = due }) (lines bs)

-- what is printed for a step and after it, where the step is known
then_shows : (rest : List ℕ) {s t : Chain.Step} → s ≡ t → s.output ++ printed chain_machine s.state (lines rest) ≡ t.output ++ printed chain_machine t.state (lines rest)
then_shows rest e = ap (λ (s : Chain.Step). s.output ++ printed chain_machine s.state (lines rest)) e

-- the line of a record that is read back, by the step that its values are due to make
takes : {A : Type 0} (read : List ℕ → Option A) (show : A → List ℕ) (word : List ℕ) (k : ℕ) (vs : List A) → ReadBack read show word k vs
    → (n : Counts) (due : Stage) (made : Option (List A) → Chain.Step) → ((line : List ℕ) → take_due n due line ≡ made (record_of read word k line))
    → (rest : List ℕ) → shows n due (line_of (word ∷ map show vs) ++ rest) ≡ (made (Some vs)).output ++ printed chain_machine (made (Some vs)).state (lines rest)
takes read show word k vs r n due made is rest =
    let fs = word ∷ map show vs in
    line_shown chain_machine chain_stops (record { counts = n; stage = due }) fs rest r.one r.short
    ∙ then_shows rest (is (joined fs) ∙ ap made r.back)

-- ---- what the records of a load come to

module _ (p : Parameters) (e : first_of (program_rules p) ≡ 0) where
  abbrev u : Usable p
  u = usable p e

  -- the setting is accepted
  on-param : (n : Counts) → on_param n (Some (five p)) ≡ Chain.next n (matrix p)
  unfolding on_param on_setting param_setting param_refusal
  on-param n = rw e refl

  -- ---- for an A of the stated length

  module _ (A : List ℕ) (size_A : Fits (matrix_A p) A) where
    -- what is drawn makes proper trees
    leaf-proper : (s : ℕ) → Proper p (leaf (drawn_S p s))
    unfolding Proper
    leaf-proper s = (S-fits p s, leaves-short p u.ranges.m-low u.ranges.bound-high s)

    larger-proper : (t : Tree) (s : ℕ) → Proper p t → Proper p (larger p A t s)
    unfolding Proper
    larger-proper t s proper = (proper, leaf-proper s, (C-fits p (after_S p s), challenges_ternary p (after_S p s)))

    -- the node of a leaf: its instance, and one leaf
    leaf-instance : (S : List ℤ) → Proper p (leaf S) → (tree_node p A (leaf S)).instance ≡ counted (instance_of p A S) 1
    unfolding plain leaves_of
    leaf-instance S proper = ap (λ (z : Node). z.instance) (node_plain p A u.ok size_A (leaf S) proper (omega arith))

    -- a leaf is committed to, and its line has its instance
    on-leaf : (n : Counts) (after : Node → Stage) (S : List ℤ) → Proper p (leaf S)
        → on_leaf n p A after (Some S)
        ≡ Chain.step (tally (n.line + 1) (n.leaves + 1) n.folds) (after (tree_node p A (leaf S))) (leaf_line p (n.leaves + 1) (counted (instance_of p A S) 1))
    unfolding on_leaf refusal refuses tree_node left_witness
    on-leaf n after S proper = rw (commit-is p A u.ok size_A S proper) (rw (leaf-instance S proper) refl)

    -- a challenge is folded, and its line says yes with the larger tree's instance and leaves
    on-challenge : (n : Counts) (t new : Tree) (C : List ℕ) → Proper p (fold t new C) → leaves_of (fold t new C) ≤ most_leaves
        → on_challenge n p A (tree_node p A t) (tree_node p A new) (Some C)
        ≡ Chain.step (tally (n.line + 1) n.leaves (n.folds + 1)) (Chain.leaf p A (tree_node p A (fold t new C)))
        (fold_line p (n.folds + 1) «yes» (counted (instance_of p A (plain p (fold t new C))) (leaves_of (fold t new C))))
    unfolding on_challenge refusal refuses
    on-challenge n t new C proper few =
        rw (fold_is p A u.ok size_A t new C proper few)
        (ap (λ (z : Node). Chain.step (tally (n.line + 1) n.leaves (n.folds + 1)) (Chain.leaf p A (tree_node p A (fold t new C))) (fold_line p (n.folds + 1) «yes» z.instance))
        (node_plain p A u.ok size_A (fold t new C) proper few))

    -- ---- from a run state on

    -- the tree so far, and with a leaf that waits for its challenge
    abbrev grown : Tree → Stage
    grown t = Chain.leaf p A (tree_node p A t)

    abbrev waits : Tree → ℕ → Stage
    waits t s = challenge p A (tree_node p A t) (tree_node p A (leaf (drawn_S p s)))

    -- a leaf, the first or a further one, by what is due after it
    leaf-shows : (n : Counts) (due : Stage) (after : Node → Stage) → ((line : List ℕ) → take_due n due line ≡ on_leaf n p A after (record_of read_i64 leaf_word (matrix_S p).size line))
        → (s : ℕ) (rest : List ℕ) → shows n due (witness_text p s ++ rest)
        ≡ leaf_line p (n.leaves + 1) (counted (instance_of p A (drawn_S p s)) 1) ++ shows (tally (n.line + 1) (n.leaves + 1) n.folds) (after (tree_node p A (leaf (drawn_S p s)))) rest
    unfolding witness_text
    leaf-shows n due after is s rest =
        takes read_i64 decimal_Z leaf_word (matrix_S p).size (drawn_S p s) (witness-back p u s) n due (on_leaf n p A after) is rest ∙ then_shows rest (on-leaf n after (drawn_S p s) (leaf-proper s))

    -- a challenge
    fold-shows : (n : Counts) (t : Tree) (s : ℕ) (rest : List ℕ) → Proper p t → leaves_of (larger p A t s) ≤ most_leaves
        → shows n (waits t s) (challenge_text p (after_S p s) ++ rest)
        ≡ fold_line p (n.folds + 1) «yes» (counted (instance_of p A (plain p (larger p A t s))) (leaves_of (larger p A t s)))
        ++ shows (tally (n.line + 1) n.leaves (n.folds + 1)) (grown (larger p A t s)) rest
    unfolding challenge_text take_due
    fold-shows n t s rest proper few =
        let s' = after_S p s in
        let new : Tree = leaf (drawn_S p s) in
        takes read_ternary ternary_numeral c_word (size_C p) (drawn_c p s') (challenge-back p u s') n (waits t s) (on_challenge n p A (tree_node p A t) (tree_node p A new)) (λ line. refl) rest
        ∙ then_shows rest (on-challenge n t new (drawn_c p s') (larger-proper t s proper) few)

    -- the end of the input
    end-shows : (n : Counts) (t : Tree) → Proper p t → leaves_of t ≤ most_leaves → shows n (grown t) [] ≡ end_line n.folds member
    unfolding cut_at printed last_output end_due
    end-shows n t proper few = ap (end_line n.folds) (member_is p A u.ok size_A t proper few)

    -- a pair after i folds
    pair_shows : (i line s : ℕ) (t : Tree) (rest : List ℕ) → Proper p t → leaves_of t ≡ i + 1 → i + 2 ≤ most_leaves
        → shows (tally line (i + 1) i) (grown t) (witness_text p s ++ (challenge_text p (after_S p s) ++ rest))
        ≡ leaf_line p (i + 2) (counted (instance_of p A (drawn_S p s)) 1)
        ++ (fold_line p (i + 1) «yes» (counted (instance_of p A (plain p (larger p A t s))) (i + 2))
        ++ shows (tally (line + 1 + 1) (i + 1 + 1) (i + 1)) (grown (larger p A t s)) rest)
    unfolding leaves_of take_due
    pair_shows i line s t rest proper size few =
        let two : i + 1 + 1 ≡ i + 2 = omega arith in
        let leaves : leaves_of (larger p A t s) ≡ i + 2 = omega (arith, size) in
        let new = counted (instance_of p A (drawn_S p s)) 1 in
        let I = instance_of p A (plain p (larger p A t s)) in
        let then = shows (tally (line + 1 + 1) (i + 1 + 1) (i + 1)) (grown (larger p A t s)) rest in
        leaf-shows (tally line (i + 1) i) (grown t) (challenge p A (tree_node p A t)) (λ text. refl) s (challenge_text p (after_S p s) ++ rest)
        ∙ ap (λ (o : List ℕ). leaf_line p (i + 1 + 1) new ++ o) (fold-shows (tally (line + 1) (i + 1 + 1) i) t s rest proper (omega (arith, leaves, few)))
        ∙ ap₂ (λ (a b : ℕ). leaf_line p a new ++ (fold_line p (i + 1) «yes» (counted I b) ++ then)) two leaves

    -- k pairs after i folds
    pairs_show : (k i line s : ℕ) (t : Tree) → Proper p t → leaves_of t ≡ i + 1 → i + 1 + k ≤ most_leaves
        → shows (tally line (i + 1) i) (grown t) (pairs_text p k s) ≡ pairs_output p A k i t s
    unfolding pairs_text pairs_output leaves_of
    pairs_show zero i line s t proper size few = end-shows (tally line (i + 1) i) t proper (omega (arith, size, few))
    pairs_show (suc k) i line s t proper size few =
        let s' = after_C p (after_S p s) in
        pair_shows i line s t (pairs_text p k s') proper size (omega (arith, few))
        ∙ ap (λ (o : List ℕ). leaf_line p (i + 2) (counted (instance_of p A (drawn_S p s)) 1) ++ (fold_line p (i + 1) «yes» (counted (instance_of p A (plain p (larger p A t s))) (i + 2)) ++ o))
        (pairs_show k (i + 1) (line + 1 + 1) s' (larger p A t s) (larger-proper t s proper) (omega (arith, size)) (omega (arith, few)))

  -- ---- the whole file

  -- `param` and `a` print nothing
  param-shows : (n : Counts) (rest : List ℕ) → shows n param (param_text p ++ rest) ≡ shows (tally (n.line + 1) n.leaves n.folds) (matrix p) rest
  unfolding param_text take_due
  param-shows n rest = takes read_u64 decimal param_word 5 (five p) (param-back p u) n param (on_param n) (λ line. refl) rest ∙ then_shows rest (on-param n)

  matrix-shows : (n : Counts) (s : ℕ) (rest : List ℕ) → shows n (matrix p) (matrix_text p s ++ rest) ≡ shows (tally (n.line + 1) n.leaves n.folds) (first p (drawn_A p s)) rest
  unfolding matrix_text take_due on_matrix
  matrix-shows n s rest = takes read_u64 decimal a_word (matrix_A p).size (drawn_A p s) (matrix-back p u s) n (matrix p) (on_matrix n p) (λ line. refl) rest

  -- the lines after them
  leaves_show : (count seed : ℕ) → 1 ≤ count → count ≤ most_loaded
      → shows (tally 2 0 0) (first p (drawn_A p seed)) (witness_text p (after_A p seed) ++ pairs_text p (count - 1) (after_S p (after_A p seed))) ≡ file_output p count seed
  unfolding file_output leaves_of take_due
  leaves_show count seed low high =
      let A = drawn_A p seed in
      let size_A : Fits (matrix_A p) A = A-fits p seed in
      let s = after_A p seed in
      leaf-shows A size_A (tally 2 0 0) (first p A) (Chain.leaf p A) (λ text. refl) s (pairs_text p (count - 1) (after_S p s))
      ∙ ap (λ (o : List ℕ). leaf_line p 1 (counted (instance_of p A (drawn_S p s)) 1) ++ o)
      (pairs_show A size_A (count - 1) 0 3 (after_S p s) (leaf (drawn_S p s)) (leaf-proper A size_A s) refl (omega (arith, low, high)))

  pub load-is-taken : (count seed : ℕ) → 1 ≤ count → count ≤ most_loaded → program (chain_file p count seed) ≡ file_output p count seed
  unfolding chain_file output_of
  load-is-taken count seed low high =
      let leaves = witness_text p (after_A p seed) ++ pairs_text p (count - 1) (after_S p (after_A p seed)) in
      param-shows (tally 0 0 0) (matrix_text p seed ++ leaves) ∙ matrix-shows (tally 1 0 0) seed leaves ∙ leaves_show count seed low high
