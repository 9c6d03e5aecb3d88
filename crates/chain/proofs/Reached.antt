-- What a run has come to after some lines: the accumulated instance and witness are those of the left-leaning tree of the leaves and
-- challenges read so far.
use mathlib.Core.Path.{◌≡◌, refl, sym, ◌∙◌, ap, ap₂, subst}
use mathlib.Core.Logic.{◌⊎◌, inl, inr}
use mathlib.Core.Bool.{Bool, true, false, not, cond, true≢false}
use mathlib.Core.List.{List, [], ◌∷◌, ◌++◌, append_assoc, append-nil}
use Rattle.std.specs.Prelude.{Option, Some, None}
use Prim.Native.Nat.{ℕ, zero, suc, ◌+◌, ◌*◌, ◌≤◌, ◌<◌}
use native.Mathlib.Omega.{arith}
use lib.Arith.{digits_lt}
use lib.Dec.{leb, le→leb}
use lib.IntN.{ℤ}
use lib.ListN.{length}
use Rattle.integers.proofs.Tests.{true-is, le_or_lt}
use Rattle.settings.specs.Rules.{Rule, ◌gives◌, first_of}
use Rattle.settings.specs.Settings.{Parameters, setting_rules, setting_refusal}
use Rattle.settings.proofs.Rules.{stop-all}
use Rattle.text.specs.Fields.{record_of, read_u64, read_i64, read_ternary}
use Rattle.text.proofs.Records.{record_each, ternary-each, each_at}
use Rattle.line_machines.specs.Machines.{longest_line, line_step, last_output}
use Rattle.line_machines.specs.Machines as Machines
use Rattle.lova.specs.Answers.{«yes», member, refused, Outcome, ends, refusal, refuses}
use Rattle.lova.specs.Stored.{counted, most_leaves, matrix_A, matrix_S, size_C}
use Rattle.lova.specs.Calls.{Fits}
use Rattle.lova.specs.declared.Profile.TheVariants.{General}
use Rattle.lova.specs.Commit.{instance_of, commit}
use Rattle.lova.specs.Trees.{Tree, leaf, fold, leaves_of, Proper, seen, view_of, left_witness}
use Rattle.lova.proofs.Refusals.{commit-proper}
use Rattle.chain.specs.Limits.{setting_limits, small, program_limits, program_rules}
use Rattle.chain.specs.Params.{param_word, from_five, param_setting, param_refusal}
use Rattle.chain.specs.Nodes.{Node, blank_instance, fold_of}
use Rattle.chain.specs.Reports.{leaf_word, leaf_line, fold_line, end_line}
use Rattle.chain.specs.Chain.{State, Counts, Stage, param, matrix, first, challenge, stopped, Step, start, refuse, number_of, on_setting, on_param, on_matrix, on_leaf, on_challenge, take_due, is_stopped, bad_line, take_line, end_due, at_end, a_word, c_word}
use Rattle.chain.specs.Chain as Chain
use Rattle.chain.specs.Program.{state_after}
use Rattle.chain.specs.Trees.{blank_held, tree_node, Spells, one, more}
use Rattle.chain.proofs.Limits.{program-accepts}
use Rattle.chain.proofs.Refusing.{commit-passes, commit-makes}
use Rattle.chain.proofs.Trees.{node_leaves, fold_is, fold-beyond, member_is}

-- a record has as many numbers as were asked for
record_length : {A : Type 0} (read : List ℕ → Option A) (word : List ℕ) (n : ℕ) (line : List ℕ) (xs : List A) → record_of read word n line ≡ Some xs → length xs ≡ n
record_length read word n line xs e = (record_each read (λ _. Unit {0}) (λ f x h. tt) word n line xs e).0

-- ---- what a run has come to

-- `param` was taken
record Opened (ls : List (List ℕ)) (p : Parameters) : Type 0 where
  line : List ℕ
  xs : List ℕ
  lines_are : ls ≡ line ∷ []
  reads-param : record_of read_u64 param_word 5 line ≡ Some xs
  p-is : p ≡ from_five xs
  ok : setting_refusal p ≡ 0

-- `a` was taken
record Keyed (ls : List (List ℕ)) (p : Parameters) (A : List ℕ) : Type 0 where
  before : List (List ℕ)
  line : List ℕ
  lines_are : ls ≡ before ++ (line ∷ [])
  opened : Opened before p
  reads-a : record_of read_u64 a_word (matrix_A p).size line ≡ Some A

-- leaves and challenges were taken: the lines spell a tree with no more leaves than can be counted, and the accumulated node is its
-- root
pub record Grown (ls : List (List ℕ)) (p : Parameters) (A : List ℕ) (node : Node) : Type 0 where
  pub tree : Tree
  pub spells : Spells ls p A tree
  pub ok : setting_refusal p ≡ 0
  pub size_A : Fits (matrix_A p) A
  pub proper : Proper p tree
  pub few : leaves_of tree ≤ most_leaves
  pub node_is : node ≡ tree_node p A tree

-- a leaf waits for its challenge
pub record Waiting (ls : List (List ℕ)) (p : Parameters) (A : List ℕ) (node new : Node) : Type 0 where
  pub before : List (List ℕ)
  pub line : List ℕ
  pub S : List ℤ
  pub lines_are : ls ≡ before ++ (line ∷ [])
  pub grown : Grown before p A node
  pub reads-leaf : record_of read_i64 leaf_word (matrix_S p).size line ≡ Some S
  pub proper : Proper p (leaf S)
  pub new_is : new ≡ tree_node p A (leaf S)

abbrev Reached : List (List ℕ) → Stage → Type 0
Reached ls param = ls ≡ []
Reached ls (matrix p) = Opened ls p
Reached ls (first p A) = Keyed ls p A
Reached ls (Chain.leaf p A node) = Grown ls p A node
Reached ls (challenge p A node new) = Waiting ls p A node new
Reached ls stopped = Unit {0}

-- the program's rules take in the setting's
set-ok : (xs ys : List Rule) → first_of (xs ++ ys) ≡ 0 → first_of xs ≡ 0
set-ok xs ys e = by (first_of xs) refl
  where
    by : (k : ℕ) → first_of xs ≡ k → first_of xs ≡ 0
    by zero h = h
    by (suc k) h = sym (stop-all xs ys (λ z. omega (arith, h, z))) ∙ e

accepted : (p : Parameters) → first_of (program_rules p) ≡ 0 → setting_refusal p ≡ 0
accepted p e = program-accepts p (set-ok (setting_rules setting_limits p) ((not (small program_limits p) gives 14) ∷ []) e)

spell_one : (l₁ l₂ l₃ xs A : List ℕ) (S : List ℤ) (p : Parameters) → p ≡ from_five xs
    → record_of read_u64 param_word 5 l₁ ≡ Some xs → record_of read_u64 a_word (matrix_A p).size l₂ ≡ Some A → record_of read_i64 leaf_word (matrix_S p).size l₃ ≡ Some S
    → Spells (l₁ ∷ l₂ ∷ l₃ ∷ []) p A (leaf S)
spell_one l₁ l₂ l₃ xs A S p e h₁ =
    subst (λ (q : Parameters). record_of read_u64 a_word (matrix_A q).size l₂ ≡ Some A → record_of read_i64 leaf_word (matrix_S q).size l₃ ≡ Some S → Spells (l₁ ∷ l₂ ∷ l₃ ∷ []) q A (leaf S))
    (sym e) (λ h₂ h₃. one l₁ l₂ l₃ xs A S h₁ h₂ h₃)

-- the node of a leaf
leaf_node : (p : Parameters) (A : List ℕ) → setting_refusal p ≡ 0 → Fits (matrix_A p) A → (S : List ℤ) → Proper p (leaf S)
    → ◌≡◌ {A = Node} (record { instance = (commit p A S (blank_instance p)).outputs; witness = S }) (tree_node p A (leaf S))
unfolding tree_node seen view_of left_witness blank_held
leaf_node p A ok size_A S proper = refl

-- a challenge that was read is proper
fold-proper : (p : Parameters) (t : Tree) (S : List ℤ) (C line : List ℕ) → record_of read_ternary c_word (size_C p) line ≡ Some C → Proper p t → Proper p (leaf S) → Proper p (fold t (leaf S) C)
unfolding Proper
fold-proper p t S C line h g k =
    let r = ternary-each c_word (size_C p) line C h in
    (g, k, (r.0, λ i j u v. each_at (λ x. x ≤ 2) C 0 r.1 (i * p.t + j) (subst (λ (q : ℕ). i * p.t + j < q) (sym r.0) (digits_lt u v))))

-- the fold of the accumulated node with the new leaf
module _ (ls : List (List ℕ)) (line : List ℕ) (p : Parameters) (A : List ℕ) (acc new : Node) (r : Waiting ls p A acc new) (C : List ℕ) (h : record_of read_ternary c_word (size_C p) line ≡ Some C) where
  abbrev so_far : Tree
  so_far = r.grown.tree

  abbrev larger : Tree
  larger = fold so_far (leaf r.S) C

  larger-proper : Proper p larger
  larger-proper = fold-proper p so_far r.S C line h r.grown.proper r.proper

  both-are : fold_of p A acc new C ≡ fold_of p A (tree_node p A so_far) (tree_node p A (leaf r.S)) C
  both-are = ap₂ (λ (x y : Node). fold_of p A x y C) r.grown.node_is r.new_is

  -- it is the node of the larger tree
  fold_node : leaves_of larger ≤ most_leaves → fold_of p A acc new C ≡ ends «yes» (tree_node p A larger)
  fold_node few = both-are ∙ fold_is p A r.grown.ok r.grown.size_A so_far (leaf r.S) C larger-proper few

  -- or it is refused with 15, where that has too many leaves
  fold-refused : most_leaves < leaves_of larger → fold_of p A acc new C ≡ ends (refused 15) (tree_node p A so_far)
  unfolding leaves_of
  fold-refused many = both-are ∙ fold-beyond p A r.grown.ok r.grown.size_A so_far (leaf r.S) C larger-proper r.grown.few (omega arith) many

  -- so where it is not refused, the larger tree is within the bound
  fold-few : refuses (fold_of p A acc new C).answer ≡ false → leaves_of larger ≤ most_leaves
  unfolding refusal refuses
  fold-few e = by (le_or_lt (leaves_of larger) most_leaves)
    where
      by : (leaves_of larger ≤ most_leaves) ⊎ (most_leaves < leaves_of larger) → leaves_of larger ≤ most_leaves
      by (inl few) = few
      by (inr many) = absurd (true≢false (sym (ap (λ (o : Outcome Node). refuses o.answer) (fold-refused many)) ∙ e))

either : (ls : List (List ℕ)) (c : Bool) (s t : Step) → Reached ls s.state.stage → (c ≡ false → Reached ls t.state.stage) → Reached ls (cond c s t).state.stage
either ls true s t h g = h
either ls false s t h g = g refl

module _ (ls : List (List ℕ)) (n : Counts) (line : List ℕ) where
  abbrev more-lines : List (List ℕ)
  more-lines = ls ++ (line ∷ [])

  at-setting : (p : Parameters) (r : ℕ) → (r ≡ 0 → Opened more-lines p) → Reached more-lines (on_setting n p r).state.stage
  unfolding on_setting
  at-setting p zero h = h refl
  at-setting p (suc r) h = tt

  at-param : ls ≡ [] → (o : Option (List ℕ)) → record_of read_u64 param_word 5 line ≡ o → Reached more-lines (on_param n o).state.stage
  unfolding on_param on_setting param_setting param_refusal
  at-param e None h = tt
  at-param e (Some xs) h =
      at-setting (from_five xs) (first_of (program_rules (from_five xs)))
      (λ z. record { line = line; xs = xs; lines_are = rw e refl; reads-param = h; p-is = refl; ok = accepted (from_five xs) z })

  at-matrix : (p : Parameters) → Opened ls p → (o : Option (List ℕ)) → record_of read_u64 a_word (matrix_A p).size line ≡ o → Reached more-lines (on_matrix n p o).state.stage
  unfolding on_matrix
  at-matrix p r None h = tt
  at-matrix p r (Some A) h = record { before = ls; line = line; lines_are = refl; opened = r; reads-a = h }

  -- a leaf that is not refused has columns within B
  leaf-proper : (p : Parameters) (A : List ℕ) (S : List ℤ) → record_of read_i64 leaf_word (matrix_S p).size line ≡ Some S → refuses (commit p A S (blank_instance p)).answer ≡ false → Proper p (leaf S)
  unfolding Proper
  leaf-proper p A S h e = (record_length read_i64 leaf_word (matrix_S p).size line S h, ((commit-proper p General A S (blank_instance p)).0 (commit-passes p A S (blank_instance p) e)).columns)

  at_leaf : (p : Parameters) (A : List ℕ) (after : Node → Stage)
      → ((S : List ℤ) → record_of read_i64 leaf_word (matrix_S p).size line ≡ Some S → Proper p (leaf S) → Reached more-lines (after (record { instance = (commit p A S (blank_instance p)).outputs; witness = S })))
      → (o : Option (List ℤ)) → record_of read_i64 leaf_word (matrix_S p).size line ≡ o → Reached more-lines (on_leaf n p A after o).state.stage
  unfolding on_leaf
  at_leaf p A after g None h = tt
  at_leaf p A after g (Some S) h = either more-lines (refuses (commit p A S (blank_instance p)).answer) _ _ tt (λ e. g S h (leaf-proper p A S h e))

  one-few : (S : List ℤ) → leaves_of (leaf S) ≤ most_leaves
  unfolding leaves_of
  one-few S = omega arith

  -- the first leaf
  at_first : (p : Parameters) (A : List ℕ) → Keyed ls p A → (o : Option (List ℤ)) → record_of read_i64 leaf_word (matrix_S p).size line ≡ o
      → Reached more-lines (on_leaf n p A (λ node. Chain.leaf p A node) o).state.stage
  at_first p A r = at_leaf p A (λ node. Chain.leaf p A node) (λ S h proper. first-grown S h proper)
    where
      size_A : Fits (matrix_A p) A
      size_A = record_length read_u64 a_word (matrix_A p).size r.line A r.reads-a

      -- the three lines spell the leaf
      spelled : (S : List ℤ) → record_of read_i64 leaf_word (matrix_S p).size line ≡ Some S → Spells more-lines p A (leaf S)
      spelled S h =
          let o = r.opened in
          let are : more-lines ≡ o.line ∷ r.line ∷ line ∷ [] = rw (r.lines_are, o.lines_are) refl in
          subst (λ (m : List (List ℕ)). Spells m p A (leaf S)) (sym are)
          (spell_one o.line r.line line o.xs A S p o.p-is o.reads-param r.reads-a h)

      first-grown : (S : List ℤ) → record_of read_i64 leaf_word (matrix_S p).size line ≡ Some S → Proper p (leaf S)
          → Grown more-lines p A (record { instance = (commit p A S (blank_instance p)).outputs; witness = S })
      first-grown S h proper =
          record { tree = leaf S; spells = spelled S h; ok = r.opened.ok; size_A = size_A; proper = proper; few = one-few S; node_is = leaf_node p A r.opened.ok size_A S proper }

  -- a further leaf
  at_next : (p : Parameters) (A : List ℕ) (acc : Node) → Grown ls p A acc → (o : Option (List ℤ)) → record_of read_i64 leaf_word (matrix_S p).size line ≡ o
      → Reached more-lines (on_leaf n p A (λ node. challenge p A acc node) o).state.stage
  at_next p A acc r = at_leaf p A (λ node. challenge p A acc node)
      (λ S h proper. record { before = ls; line = line; S = S; lines_are = refl; grown = r; reads-leaf = h; proper = proper; new_is = leaf_node p A r.ok r.size_A S proper })

  -- a challenge
  at-challenge : (p : Parameters) (A : List ℕ) (acc new : Node) → Waiting ls p A acc new → (o : Option (List ℕ)) → record_of read_ternary c_word (size_C p) line ≡ o
      → Reached more-lines (on_challenge n p A acc new o).state.stage
  unfolding on_challenge
  at-challenge p A acc new r None h = tt
  at-challenge p A acc new r (Some C) h = either more-lines (refuses (fold_of p A acc new C).answer) _ _ tt (λ e. folded C h (fold-few ls line p A acc new r C h e))
    where
      folded : (C : List ℕ) (h : record_of read_ternary c_word (size_C p) line ≡ Some C) → leaves_of (larger ls line p A acc new r C h) ≤ most_leaves → Grown more-lines p A (fold_of p A acc new C).outputs
      folded C h few =
          let g = r.grown in
          let t = g.tree in
          record {
            tree = fold t (leaf r.S) C;
            spells = subst (λ (m : List (List ℕ)). Spells m p A (fold t (leaf r.S) C))
                (sym (ap (λ (m : List (List ℕ)). m ++ (line ∷ [])) r.lines_are ∙ append_assoc r.before (r.line ∷ []) (line ∷ [])))
                (more r.before p A t r.line line r.S C g.spells r.reads-leaf h);
            ok = g.ok;
            size_A = g.size_A;
            proper = larger-proper ls line p A acc new r C h;
            few = few;
            node_is = ap (λ (o : Outcome Node). o.outputs) (fold_node ls line p A acc new r C h few);
          }

  -- a line by what is due
  at-due : (s : Stage) → Reached ls s → Reached more-lines (take_due n s line).state.stage
  unfolding take_due
  at-due param r = at-param r _ refl
  at-due (matrix p) r = at-matrix p r _ refl
  at-due (first p A) r = at_first p A r _ refl
  at-due (Chain.leaf p A acc) r = at_next p A acc r _ refl
  at-due (challenge p A acc new) r = at-challenge p A acc new r _ refl
  at-due stopped r = tt

  at_bad : (s : Stage) → Reached more-lines (bad_line n s).state.stage
  unfolding bad_line
  at_bad s = either more-lines (is_stopped s) _ _ tt (λ e. tt)

at-line : (ls : List (List ℕ)) (s : State) (line : List ℕ) → Reached ls s.stage → Reached (ls ++ (line ∷ [])) (take_line s line).state.stage
unfolding line_step
at-line ls s line r = by (leb (length line) longest_line)
  where
    by : (c : Bool) → Reached (ls ++ (line ∷ [])) (cond c (take_due s.counts s.stage line) (bad_line s.counts s.stage)).state.stage
    by true = at-due ls s.counts line s.stage r
    by false = at_bad ls s.counts line s.stage

from-there : (before : List (List ℕ)) (s : State) (ls : List (List ℕ)) → Reached before s.stage → Reached (before ++ ls) (state_after s ls).stage
unfolding Machines.state_after
from-there before s [] r = subst (λ (m : List (List ℕ)). Reached m s.stage) (sym (append-nil before)) r
from-there before s (line ∷ rest) r =
    subst (λ (m : List (List ℕ)). Reached m (state_after (take_line s line).state rest).stage) (append_assoc before (line ∷ []) rest)
    (from-there (before ++ (line ∷ [])) (take_line s line).state rest (at-line before s line r))

reached : (ls : List (List ℕ)) → Reached ls (state_after start ls).stage
reached ls = from-there [] start ls refl

-- ---- the theorems

-- after every fold the accumulated instance and witness are those of the left-leaning tree of the leaves and challenges read so far
pub run_is-tree : (ls : List (List ℕ)) (p : Parameters) (A : List ℕ) (node : Node) → (state_after start ls).stage ≡ Chain.leaf p A node → Grown ls p A node
run_is-tree ls p A node e = subst (Reached ls) e (reached ls)

-- so is it while a leaf waits for its challenge
pub run_waits : (ls : List (List ℕ)) (p : Parameters) (A : List ℕ) (node new : Node) → (state_after start ls).stage ≡ challenge p A node new → Waiting ls p A node new
run_waits ls p A node new e = subst (Reached ls) e (reached ls)

-- and the count beside the accumulated instance is the number of that tree's leaves
pub tree-counted : (ls : List (List ℕ)) (p : Parameters) (A : List ℕ) (node : Node) (e : (state_after start ls).stage ≡ Chain.leaf p A node)
    → node.instance.leaves ≡ leaves_of (run_is-tree ls p A node e).tree
tree-counted ls p A node e =
    let g = run_is-tree ls p A node e in
    ap (λ (z : Node). z.instance.leaves) g.node_is ∙ node_leaves p A g.ok g.size_A g.tree g.proper g.few

-- a line that is not too long
line-fits : (line : List ℕ) → length line ≤ longest_line → leb (length line) longest_line ≡ true
line-fits line h = true-is (leb (length line) longest_line) (le→leb (length line) longest_line h)

-- a leaf that is not refused prints one leaf
pub leaf-says-one : (s : State) (line : List ℕ) (p : Parameters) (A : List ℕ) (S : List ℤ)
    → (s.stage ≡ first p A) ⊎ ((node : Node) × (s.stage ≡ Chain.leaf p A node))
    → length line ≤ longest_line → record_of read_i64 leaf_word (matrix_S p).size line ≡ Some S → refuses (commit p A S (blank_instance p)).answer ≡ false
    → (take_line s line).output ≡ leaf_line p (s.counts.leaves + 1) (counted (instance_of p A S) 1)
unfolding line_step take_due on_leaf refusal refuses
leaf-says-one s line p A S (inl e) h k f = rw (line-fits line h, e, k, commit-makes p A S (blank_instance p) f) refl
leaf-says-one s line p A S (inr e) h k f = rw (line-fits line h, e.1, k, commit-makes p A S (blank_instance p) f) refl

module _ (ls : List (List ℕ)) (line : List ℕ) (p : Parameters) (A : List ℕ) (node new : Node) (C : List ℕ) (e : (state_after start ls).stage ≡ challenge p A node new) (h : length line ≤ longest_line) (k : record_of read_ternary c_word (size_C p) line ≡ Some C) where
  abbrev waits : Waiting ls p A node new
  waits = run_waits ls p A node new e

  abbrev grown : Tree
  grown = fold waits.grown.tree (leaf waits.S) C

  -- every challenge that is read is folded, and its line says yes with the instance of the larger tree and the number of its leaves
  pub fold-says_yes : leaves_of waits.grown.tree + 1 ≤ most_leaves
      → (take_line (state_after start ls) line).output ≡ fold_line p ((state_after start ls).counts.folds + 1) «yes» (counted (tree_node p A grown).instance.instance (leaves_of grown))
  unfolding line_step take_due on_challenge refusal refuses leaves_of
  fold-says_yes few =
      let g = waits.grown in
      let f = fold_node ls line p A node new waits C k few in
      rw (e, line-fits line h, k, f)
      (ap (λ (n : ℕ). fold_line p ((state_after start ls).counts.folds + 1) «yes» (counted (tree_node p A grown).instance.instance n)) (node_leaves p A g.ok g.size_A grown (larger-proper ls line p A node new waits C k) few))

  -- but with as many leaves as can be counted it is refused with 15
  pub fold_too_many : most_leaves < leaves_of waits.grown.tree + 1 → take_line (state_after start ls) line ≡ refuse (state_after start ls).counts 15
  unfolding line_step take_due on_challenge refusal refuses number_of leaves_of
  fold_too_many many = rw (e, line-fits line h, k, fold-refused ls line p A node new waits C k many) refl

-- where the input may end, the last line is the number of folds and member
pub end-says-member : (ls : List (List ℕ)) (p : Parameters) (A : List ℕ) (node : Node) → (state_after start ls).stage ≡ Chain.leaf p A node
    → at_end (state_after start ls) [] ≡ end_line (state_after start ls).counts.folds member
unfolding last_output end_due
end-says-member ls p A node e =
    let g = run_is-tree ls p A node e in
    rw (e, g.node_is) (ap (end_line (state_after start ls).counts.folds) (member_is p A g.ok g.size_A g.tree g.proper g.few))
