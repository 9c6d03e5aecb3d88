-- The count of folds in the run state is the number of `c` records taken so far, in every state that a run comes to.
use mathlib.Core.Path.{◌≡◌, refl, ◌∙◌, ap}
use mathlib.Core.Logic.{◌⊎◌, inl, inr, ⊎_elim}
use mathlib.Core.Bool.{Bool, true, false, cond}
use mathlib.Core.List.{List, [], ◌∷◌}
use Rattle.std.specs.Prelude.{Option, Some, None}
use Rattle.std.proofs.lemmas.Option.{none-some}
use Prim.Native.Nat.{ℕ, zero, suc, ◌+◌}
use native.Mathlib.Omega.{arith}
use native.Mathlib.Nat.{zero-add}
use lib.Dec.{leb}
use lib.IntN.{ℤ}
use lib.ListN.{length}
use Rattle.settings.specs.Rules.{first_of}
use Rattle.settings.specs.Settings.{Parameters}
use Rattle.text.specs.Fields.{fields, same, exactly, after_word, record_of, read_u64, read_i64, read_ternary}
use Rattle.text.proofs.Bytes.{same_eq}
use Rattle.line_machines.specs.Machines.{longest_line, line_step}
use Rattle.line_machines.specs.Machines as Machines
use Rattle.line_machines.proofs.Bytes.{takes-nothing}
use Rattle.lova.specs.Answers.{refuses}
use Rattle.lova.specs.Stored.{matrix_A, matrix_S, size_C}
use Rattle.lova.specs.Commit.{commit}
use Rattle.chain.specs.Limits.{program_rules}
use Rattle.chain.specs.Params.{param_word, from_five, param_setting, param_refusal}
use Rattle.chain.specs.Nodes.{Node, blank_instance, fold_of}
use Rattle.chain.specs.Reports.{leaf_word}
use Rattle.chain.specs.Chain.{State, Counts, Stage, param, matrix, first, leaf, challenge, stopped, Step, start, on_setting, on_param, on_matrix, on_leaf, on_challenge, take_due, is_stopped, bad_line, take_line, chain_machine, a_word, c_word}
use Rattle.chain.specs.Program.{state_after, taken, first_is, count_C}
use Rattle.chain.proofs.Stopping.{chain_stops}

-- a line that is a record begins with its word
module _ {A : Type 0} (read : List ℕ → Option A) (word v : List ℕ) (n : ℕ) (xs : List A) where
  first_by : (f : List ℕ) (fs : List (List ℕ)) (c : Bool) → same f word ≡ c → cond c (exactly read n fs) None ≡ Some xs → same f v ≡ same word v
  first_by f fs true e h = ap (λ (w : List ℕ). same w v) (same_eq f word e)
  first_by f fs false e h = absurd (none-some _ h)

  first-of : (fs : List (List ℕ)) → after_word read word n fs ≡ Some xs → first_is v fs ≡ same word v
  unfolding after_word first_is
  first-of [] h = absurd (none-some _ h)
  first-of (f ∷ fs) h = first_by f fs (same f word) refl h

  record_first : (line : List ℕ) → record_of read word n line ≡ Some xs → first_is v (fields line) ≡ same word v
  unfolding record_of
  record_first line h = first-of (fields line) h

-- one for a `c` record
abbrev one : List ℕ → ℕ
one line = cond (first_is c_word (fields line)) 1 0

sums : (c : Bool) (k m n : ℕ) → m ≡ n + cond c 1 0 → m + k ≡ n + cond c (k + 1) k
sums true k m n e = omega (arith, e)
sums false k m n e = omega (arith, e)

-- a step stops the run and counts nothing, or counts its line where it is a `c` record
abbrev Counted : Counts → List ℕ → Step → Type 0
Counted n line s = ((s.state.stage ≡ stopped) × (s.state.counts.folds ≡ n.folds)) ⊎ ((is_stopped s.state.stage ≡ false) × (s.state.counts.folds ≡ n.folds + one line))

module _ (n : Counts) (line : List ℕ) where
  counted-either : (c : Bool) (s t : Step) → Counted n line s → Counted n line t → Counted n line (cond c s t)
  counted-either true s t h k = h
  counted-either false s t h k = k

  -- the word of the record that is due
  counts-none : (word : List ℕ) → first_is c_word (fields line) ≡ same word c_word → same word c_word ≡ false → one line ≡ 0
  counts-none word e f = rw (e, f) refl

  counted-setting : (p : Parameters) (r : ℕ) → one line ≡ 0 → Counted n line (on_setting n p r)
  unfolding on_setting is_stopped
  counted-setting p zero e = inr (refl, omega (arith, e))
  counted-setting p (suc r) e = inl (refl, refl)

  counted-param : (o : Option (List ℕ)) → record_of read_u64 param_word 5 line ≡ o → Counted n line (on_param n o)
  unfolding on_param on_setting param_setting param_refusal same
  counted-param None e = inl (refl, refl)
  counted-param (Some xs) e = counted-setting (from_five xs) (first_of (program_rules (from_five xs))) (counts-none param_word (record_first read_u64 param_word c_word 5 xs line e) refl)

  counted-matrix : (p : Parameters) (k : ℕ) (o : Option (List ℕ)) → record_of read_u64 a_word k line ≡ o → Counted n line (on_matrix n p o)
  unfolding on_matrix is_stopped same
  counted-matrix p k None e = inl (refl, refl)
  counted-matrix p k (Some A) e = let z : one line ≡ 0 = counts-none a_word (record_first read_u64 a_word c_word k A line e) refl in inr (refl, omega (arith, z))

  counted-leaf : (p : Parameters) (A : List ℕ) (after : Node → Stage) → ((node : Node) → is_stopped (after node) ≡ false) → (k : ℕ) (o : Option (List ℤ)) → record_of read_i64 leaf_word k line ≡ o
      → Counted n line (on_leaf n p A after o)
  unfolding on_leaf same
  counted-leaf p A after open' k None e = inl (refl, refl)
  counted-leaf p A after open' k (Some S) e =
      let made = commit p A S (blank_instance p) in
      counted-either (refuses made.answer) _ _ (inl (refl, refl))
      (let z : one line ≡ 0 = counts-none leaf_word (record_first read_i64 leaf_word c_word k S line e) refl in inr (open' _, omega (arith, z)))

  counted-challenge : (p : Parameters) (A : List ℕ) (acc new : Node) (k : ℕ) (o : Option (List ℕ)) → record_of read_ternary c_word k line ≡ o → Counted n line (on_challenge n p A acc new o)
  unfolding on_challenge is_stopped same
  counted-challenge p A acc new k None e = inl (refl, refl)
  counted-challenge p A acc new k (Some C) e =
      let made = fold_of p A acc new C in
      counted-either (refuses made.answer) _ _ (inl (refl, refl))
      (let z : one line ≡ 1 = ap (λ (c : Bool). cond c 1 0) (record_first read_ternary c_word c_word k C line e) in inr (refl, omega (arith, z)))

  counted-due : (s : Stage) → Counted n line (take_due n s line)
  unfolding take_due is_stopped
  counted-due param = counted-param _ refl
  counted-due (matrix p) = counted-matrix p (matrix_A p).size _ refl
  counted-due (first p A) = counted-leaf p A (λ node. leaf p A node) (λ node. refl) (matrix_S p).size _ refl
  counted-due (leaf p A acc) = counted-leaf p A (λ node. challenge p A acc node) (λ node. refl) (matrix_S p).size _ refl
  counted-due (challenge p A acc new) = counted-challenge p A acc new (size_C p) _ refl
  counted-due stopped = inl (refl, refl)

  counted_bad : (s : Stage) → Counted n line (bad_line n s)
  unfolding bad_line
  counted_bad s = counted-either (is_stopped s) _ _ (inl (refl, refl)) (inl (refl, refl))

counted-line : (s : State) (line : List ℕ) → Counted s.counts line (take_line s line)
unfolding line_step
counted-line s line = counted-either s.counts line (leb (length line) longest_line) _ _ (counted-due s.counts line s.stage) (counted_bad s.counts line s.stage)

-- a run that has stopped takes no line more
stays : (s : State) (ls : List (List ℕ)) → s.stage ≡ stopped → (state_after s ls).counts.folds ≡ s.counts.folds
unfolding Machines.state_after is_stopped
stays s [] e = refl
stays s (line ∷ more) e =
    let t = takes-nothing chain_machine chain_stops s line (ap is_stopped e) in
    stays (take_line s line).state more (ap (λ (x : Step). x.state.stage) t ∙ e) ∙ ap (λ (x : Step). x.state.counts.folds) t

-- from any state on, the folds are counted by the `c` records that are taken
folds-from : (s : State) (ls : List (List ℕ)) → (state_after s ls).counts.folds ≡ s.counts.folds + count_C (taken s ls)
unfolding Machines.state_after count_C taken is_stopped
folds-from s [] = omega arith
folds-from s (line ∷ more) =
    let next = (take_line s line).state in
    ⊎_elim
    (λ (h : (next.stage ≡ stopped) × (next.counts.folds ≡ s.counts.folds)).
    let z : is_stopped next.stage ≡ true = ap is_stopped h.0 in
    stays next more h.0 ∙ h.1 ∙ rw z (omega arith))
    (λ (h : (is_stopped next.stage ≡ false) × (next.counts.folds ≡ s.counts.folds + one line)).
    rw h.0 (folds-from next more ∙ sums (first_is c_word (fields line)) (count_C (taken next more)) next.counts.folds s.counts.folds h.1))
    (counted-line s line)

-- the fold count of a run state is the number of `c` records taken so far
pub folds-are-c : (ls : List (List ℕ)) → (state_after start ls).counts.folds ≡ count_C (taken start ls)
folds-are-c ls = folds-from start ls ∙ zero-add (count_C (taken start ls))
