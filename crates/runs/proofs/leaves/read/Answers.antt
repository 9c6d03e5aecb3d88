-- `leaves::read` meets its contract: refused because the line is no such record, refused by commit, or the leaf.
use mathlib.Core.Path.{◌≡◌, refl, sym, ◌∙◌, ap, ap₂}
use mathlib.Core.List.{List, ◌++◌}
use Rattle.std.proofs.lemmas.Result.{err_from_is_err_and}
use Rattle.std.specs.Prelude.{Some, None, Result, false}
use Prim.Native.Nat.{ℕ, ◌*◌}
use native.Mathlib.Omega.{arith}
use lib.IntN.{ℤ, pos}
use lib.ListN.{take, drop, replicate}
use Rattle.settings.specs.Settings.{Parameters}
use Rattle.settings.specs.declared.refused.Refusal.{Refusal}
use Rattle.lova.specs.Answers.{answer_of, made_leaves, ends, refusal, refuses}
use Rattle.lova.specs.Stored.{Counted, counted, matrix_S}
use Rattle.lova.specs.Commit.{commit}
use Rattle.chain.specs.Nodes.{blank_instance}
use Rattle.states.specs.Held.{part_A}
use Rattle.chain.proofs.Refusing.{node_same}
use Rattle.text.specs.Fields.{record_of, read_i64}
use Rattle.text.proofs.Fields.{answer_yes, answer_no}
use Rattle.chain.specs.Small.{numbers_in}
use Rattle.chain.specs.Reports.{leaf_word}
use Rattle.chain.proofs.Small.{sizes-in}
use Rattle.copies.proofs.Blanks.{blank, blank-long, Back, back}
use Rattle.runs.proofs.LeafLines.{leaf-unread, no_witness, leaf-refused, leaf-one, leaf-taken, leaf-refused_is, leaf-made_is}
use Rattle.runs.proofs.leaves.read.Goals as goal
use Rattle.runs.proofs.leaves.read.Goals.{After-commit, After-read_i64s}

pub overflow_mul-size_a : goal.overflow_mul-size_a
overflow_mul-size_a c = omega (arith, (sizes-in c.args.small).A-high)

pub overflow_mul-size_t : goal.overflow_mul-size_t
overflow_mul-size_t c = omega (arith, (sizes-in c.args.small).T-high)

pub overflow_mul-size_d : goal.overflow_mul-size_d
overflow_mul-size_d c = omega (arith, (sizes-in c.args.small).D-high)

pub overflow_mul-size_s : goal.overflow_mul-size_s
overflow_mul-size_s c = omega (arith, (sizes-in c.args.small).S-high)

pub slice_bounds-s-end : goal.slice_bounds-s-end
slice_bounds-s-end c = (sizes-in c.args.small).S-high

pub slice_bounds-read_i64s-end-2 : goal.slice_bounds-read_i64s-end-2
slice_bounds-read_i64s-end-2 c = sym (blank-long _ 32 (pos 0) (sizes-in c.args.small).S-high)

-- the line is no such record
unread : (c : After-read_i64s) → c.read_i64s.result ≡ false → record_of read_i64 leaf_word (matrix_S (numbers_in c.args.small)).size c.args.line.now ≡ None
unread c is =
    let p = numbers_in c.args.small in
    let said = c.read_i64s.ensures ∙ ap (λ (n : ℕ). record_of read_i64 leaf_word n c.args.line.now) (blank-long (p.m * p.t) 32 (pos 0) (sizes-in c.args.small).S-high) in
    answer_no _ _ _ said is

pub returns-then-not-read_i64s-clause-comes_to : goal.returns-then-not-read_i64s-clause-comes_to
returns-then-not-read_i64s-clause-comes_to c = leaf-unread (numbers_in c.args.small) _ _ (unread (goal.at.returns-then-not-read_i64s-clause-comes_to c).After-read_i64s c.if-not-read_i64s.true)

pub returns-then-not-read_i64s-clause-is_leaf : goal.returns-then-not-read_i64s-clause-is_leaf
returns-then-not-read_i64s-clause-is_leaf c S before has = no_witness _ S (unread (goal.at.returns-then-not-read_i64s-clause-is_leaf c).After-read_i64s c.if-not-read_i64s.true) has

pub shared_ref_as_front-commit : goal.shared_ref_as_front-commit
shared_ref_as_front-commit c = (sizes-in c.args.small).A-high

pub slice_bounds-s-end-2 : goal.slice_bounds-s-end-2
slice_bounds-s-end-2 c = (back _ 32 (pos 0) _ (sizes-in c.args.small).S-high c.read_i64s.auto.out).fits

pub slice_bounds-commit-end-2 : goal.slice_bounds-commit-end-2
slice_bounds-commit-end-2 c = sym (back _ 32 (pos 0) _ (sizes-in c.args.small).S-high c.read_i64s.auto.out).long

pub slice_bounds-t-end : goal.slice_bounds-t-end
slice_bounds-t-end c = (sizes-in c.args.small).T-high

pub slice_bounds-commit-end-3 : goal.slice_bounds-commit-end-3
slice_bounds-commit-end-3 c = sym (blank-long _ 16 0 (sizes-in c.args.small).T-high)

pub slice_bounds-d-end : goal.slice_bounds-d-end
slice_bounds-d-end c = (sizes-in c.args.small).D-high

pub slice_bounds-commit-end-4 : goal.slice_bounds-commit-end-4
slice_bounds-commit-end-4 c = sym (blank-long _ 4 (pos 0) (sizes-in c.args.small).D-high)

-- the record on the line, and the witness that was read
module _ (c : After-commit) where
  abbrev p : Parameters
  p = numbers_in c.args.small

  abbrev witness : Back (p.m * p.t) 32 (pos 0) c.read_i64s.new.out
  witness = back _ 32 (pos 0) _ (sizes-in c.args.small).S-high c.read_i64s.auto.out

  abbrev S : List ℤ
  S = take (p.m * p.t) (c.read_i64s.new.out ++ drop (p.m * p.t) (replicate 32 (pos 0)))

  found : record_of read_i64 leaf_word (p.m * p.t) c.args.line.now ≡ Some S
  found =
      ap (λ (n : ℕ). record_of read_i64 leaf_word n c.args.line.now) (sym (blank-long (p.m * p.t) 32 (pos 0) (sizes-in c.args.small).S-high))
      ∙ answer_yes _ _ _ c.read_i64s.ensures c.if-not-read_i64s.false
      ∙ ap Some (sym witness.same)

  -- what commit left, with the count of its answer x
  abbrev left : Result ℕ Refusal → Counted
  left x = counted (record { T = c.commit.new.t; D = c.commit.new.d }) (made_leaves x)

  made : (x : Result ℕ Refusal) → c.commit.result ≡ x → ends (answer_of x) (left x) ≡ commit p (part_A p c.args.a.now) S (blank_instance p)
  made x e =
      ap (λ (y : Result ℕ Refusal). ends (answer_of y) (left y)) (sym e)
      ∙ c.commit.ensures
      ∙ ap₂ (λ (t : List ℕ) (d : List ℤ). commit p (part_A p c.args.a.now) S (record { T = t; D = d })) (blank _ 16 0 (sizes-in c.args.small).T-high) (blank _ 4 (pos 0) (sizes-in c.args.small).D-high)

pub returns-in_err-count-clause-comes_to : goal.returns-in_err-count-clause-comes_to
unfolding answer_of
returns-in_err-count-clause-comes_to c =
    let at = (goal.at.returns-in_err-count-clause-comes_to c).After-commit in
    let q = err_from_is_err_and c.from_residual.result c.from_residual.ensures.1 in
    rw (q.1, q.2) (leaf-refused _ _ _ _ (found at) _ _ (made at _ c.in_err-count.was) _ refl)

pub returns-in_err-count-clause-is_leaf : goal.returns-in_err-count-clause-is_leaf
unfolding answer_of
returns-in_err-count-clause-is_leaf c =
    let at = (goal.at.returns-in_err-count-clause-is_leaf c).After-commit in
    let q = err_from_is_err_and c.from_residual.result c.from_residual.ensures.1 in
    rw (q.1, q.2) (λ S before has. leaf-refused_is _ _ _ _ (found at) _ _ (made at _ c.in_err-count.was) S has _ refl before)

pub returns-clause-comes_to : goal.returns-clause-comes_to
unfolding answer_of refusal refuses
returns-clause-comes_to c =
    let at = (goal.at.returns-clause-comes_to c).After-commit in
    let t = back _ 16 0 _ (sizes-in c.args.small).T-high c.commit.auto.t in
    let d = back _ 4 (pos 0) _ (sizes-in c.args.small).D-high c.commit.auto.d in
    let e = made at _ c.in_ok-count.was in
    (leaf-one _ _ _ _ (found at) _ _ e refl, leaf-taken _ _ _ _ (found at) _ _ e refl _ (node_same _ _ _ _ _ _ _ _ t.same d.same refl refl))

pub returns-clause-is_leaf : goal.returns-clause-is_leaf
unfolding answer_of refusal refuses
returns-clause-is_leaf c S before has =
    let at = (goal.at.returns-clause-is_leaf c).After-commit in
    let t = back _ 16 0 _ (sizes-in c.args.small).T-high c.commit.auto.t in
    let d = back _ 4 (pos 0) _ (sizes-in c.args.small).D-high c.commit.auto.d in
    leaf-made_is _ _ _ _ (found at) _ _ (made at _ c.in_ok-count.was) S has refl _ (node_same _ _ _ _ _ _ _ _ t.same d.same refl refl) before
