-- `fold_nodes::fold_calls::calls` meets its contract: each call is given what the one before it left, and message finds zeros.
use mathlib.Core.Path.{◌≡◌, refl, sym, ◌∙◌, ap}
use Prim.Native.Nat.{ℕ, ◌+◌, ◌*◌, ◌≤◌}
use native.Mathlib.Omega.{arith}
use native.Mathlib.Nat.{mul-le-mul}
use lib.IntN.{pos}
use lib.ListN.{take, replicate}
use Rattle.std.proofs.lemmas.Result.{err_from_is_err_and}
use Rattle.matrices.specs.Triangles.{triangular}
use Rattle.settings.specs.Accepted.{parameters_in}
use Rattle.settings.specs.Refusals.{number_of}
use Rattle.settings.specs.Settings.{Parameters, NOf}
use Rattle.lova.specs.Answers.{done, refused, answer_of, verdict_of, verdict_leaves, Outcome, ends}
use Rattle.lova.specs.Lent.{as_instance, as_prepared}
use Rattle.lova.specs.Stored.{counted, Prepared, matrix_V}
use Rattle.lova.specs.Message.{message}
use Rattle.lova.proofs.Rebuilding.{N-is, rebuilt-is}
use Rattle.chain.specs.Nodes.{Node, node_of, blank_prepared}
use Rattle.copies.proofs.Blanks.{blank, blank-long}
use Rattle.chain.proofs.Sizes.{Sizes, sizes}
use Rattle.chain.proofs.Refusing.{calls-end}
use Rattle.fold_nodes.proofs.Answering.{by-message, by-witness, by-verdict, counted-verdict, of_ok}
use Rattle.fold_nodes.proofs.fold_calls.calls.Goals as goal
use Rattle.fold_nodes.proofs.fold_calls.calls.Goals.{Start}

module _ (s : Start) where
  abbrev p : Parameters
  p = parameters_in s.args.accepted.now

  abbrev first : Node
  first = node_of s.args.first.t.now s.args.first.d.now s.args.first.leaves s.args.s1.now

  abbrev second : Node
  second = node_of s.args.second.t.now s.args.second.d.now s.args.second.leaves s.args.s2.now

  abbrev out : Node
  out = node_of s.args.t.now s.args.d.now 0 s.args.s.now

  -- N as the setting has it
  abbrev N : ℕ
  N = s.args.accepted.now.setting.columns

  is-N : N ≡ NOf p
  is-N = N-is s.args.accepted.now.setting (rebuilt-is s.args.accepted.now)

  big : Sizes p
  big = sizes p s.requires

  T~-high : p.n * N ≤ 256
  T~-high = rw is-N big.T~-high

  D~-high : triangular N ≤ 528
  D~-high = rw is-N big.D~-high

  -- twice the numbers of D~
  D~-whole : N * (N + 1) ≤ 1056
  D~-whole =
      let few : N ≤ 32 = rw is-N big.N-high in
      let more : N + 1 ≤ 33 = omega (arith, few) in
      mul-le-mul few more

  S~-high : p.m * N ≤ 512
  S~-high = rw is-N big.S~-high

  -- what message finds is blank
  found : (a : Outcome Prepared) →
      a ≡ message p s.args.a.now s.args.s1.now s.args.s2.now
      (as_prepared (take (matrix_V p).size (replicate 4 (pos 0))) (take (p.n * N) (replicate 256 0)) (take (triangular N) (replicate 528 (pos 0))) (take (p.m * N) (replicate 512 (pos 0))))
      → a ≡ message p s.args.a.now s.args.s1.now s.args.s2.now (blank_prepared p)
  found a e = e ∙ ap (λ (x : Prepared). message p s.args.a.now s.args.s1.now s.args.s2.now x) same
    where
      same : ◌≡◌ {A = Prepared} (as_prepared (take (matrix_V p).size (replicate 4 (pos 0))) (take (p.n * N) (replicate 256 0)) (take (triangular N) (replicate 528 (pos 0))) (take (p.m * N) (replicate 512 (pos 0)))) (blank_prepared p)
      same = rw (blank _ 4 (pos 0) big.V_high, blank {A = ℕ} _ 256 0 T~-high, blank _ 528 (pos 0) D~-high, blank _ 512 (pos 0) S~-high, is-N) refl

pub overflow_mul-v : goal.overflow_mul-v
overflow_mul-v c = omega (arith, (big (goal.at.overflow_mul-v c).Start).V_high)

pub slice_bounds-v-end : goal.slice_bounds-v-end
slice_bounds-v-end c = (big (goal.at.slice_bounds-v-end c).Start).V_high

pub slice_bounds-v-end-2 : goal.slice_bounds-v-end-2
slice_bounds-v-end-2 c = sym (blank-long _ 4 (pos 0) (big (goal.at.slice_bounds-v-end-2 c).Start).V_high)

pub overflow_mul-tt : goal.overflow_mul-tt
overflow_mul-tt c = omega (arith, T~-high (goal.at.overflow_mul-tt c).Start)

pub slice_bounds-tt-end : goal.slice_bounds-tt-end
slice_bounds-tt-end c = T~-high (goal.at.slice_bounds-tt-end c).Start

pub slice_bounds-tt-end-2 : goal.slice_bounds-tt-end-2
slice_bounds-tt-end-2 c = sym (blank-long _ 256 0 (T~-high (goal.at.slice_bounds-tt-end-2 c).Start))

pub overflow_mul-dd : goal.overflow_mul-dd
overflow_mul-dd c = omega (arith, D~-whole (goal.at.overflow_mul-dd c).Start)

pub slice_bounds-dd-end : goal.slice_bounds-dd-end
slice_bounds-dd-end c = D~-high (goal.at.slice_bounds-dd-end c).Start

pub slice_bounds-dd-end-2 : goal.slice_bounds-dd-end-2
slice_bounds-dd-end-2 c = sym (blank-long _ 528 (pos 0) (D~-high (goal.at.slice_bounds-dd-end-2 c).Start))

pub overflow_mul-ss : goal.overflow_mul-ss
overflow_mul-ss c = omega (arith, S~-high (goal.at.overflow_mul-ss c).Start)

pub slice_bounds-ss-end : goal.slice_bounds-ss-end
slice_bounds-ss-end c = S~-high (goal.at.slice_bounds-ss-end c).Start

pub slice_bounds-ss-end-2 : goal.slice_bounds-ss-end-2
slice_bounds-ss-end-2 c = sym (blank-long _ 512 (pos 0) (S~-high (goal.at.slice_bounds-ss-end-2 c).Start))

pub returns-in_err-message-clause-answer : goal.returns-in_err-message-clause-answer
unfolding answer_of verdict_of
returns-in_err-message-clause-answer c =
    let s = (goal.at.returns-in_err-message-clause-answer c).Start in
    let e = err_from_is_err_and c.from_residual.result c.from_residual.ensures.1 in
    let n = number_of c.in_err-message.field-0.0 in
    let m = c.message.new in
    rw (e.1, e.2) (ap (λ (o : Outcome Node). o.answer)
    (calls-end (p s) s.args.a.now (first s) (second s) s.args.c.now (out s) (ends (refused n) (as_prepared m.v m.tt m.dd m.ss)) _ _ (refused n) _
    (found s _ c.in_err-message.ensures) refl refl (by-message n _ _) refl))

pub returns-in_err-fold_witness-clause-answer : goal.returns-in_err-fold_witness-clause-answer
unfolding answer_of verdict_of
returns-in_err-fold_witness-clause-answer c =
    let s = (goal.at.returns-in_err-fold_witness-clause-answer c).Start in
    let e = err_from_is_err_and c.from_residual-in_err-fold_witness.result c.from_residual-in_err-fold_witness.ensures.1 in
    let n = number_of c.in_err-fold_witness.field-0.0 in
    let m = c.message.new in
    rw (e.1, e.2) (ap (λ (o : Outcome Node). o.answer)
    (calls-end (p s) s.args.a.now (first s) (second s) s.args.c.now (out s) (ends done (as_prepared m.v m.tt m.dd m.ss)) (ends (refused n) c.fold_witness.new.s) _ (refused n) _
    (found s _ c.in_ok-message.ensures) c.in_err-fold_witness.ensures refl (by-witness n _) refl))

pub returns-clause-answer : goal.returns-clause-answer
unfolding answer_of
returns-clause-answer c =
    let s = (goal.at.returns-clause-answer c).Start in
    let m = c.message.new in
    let v = c.verify-judged in
    ap (λ (o : Outcome Node). o.answer)
    (calls-end (p s) s.args.a.now (first s) (second s) s.args.c.now (out s) (ends done (as_prepared m.v m.tt m.dd m.ss)) (ends done c.fold_witness.new.s)
    (ends (verdict_of v.result) (counted (as_instance v.new.t v.new.d) (verdict_leaves v.result))) (verdict_of v.result) _
    (found s _ c.in_ok-message.ensures) c.in_ok-fold_witness.ensures v.ensures (by-verdict _) refl)

pub returns-clause-node : goal.returns-clause-node
unfolding answer_of
returns-clause-node c =
    let s = (goal.at.returns-clause-node c).Start in
    let m = c.message.new in
    let v = c.verify-judged in
    of_ok v.result
    (calls-end (p s) s.args.a.now (first s) (second s) s.args.c.now (out s) (ends done (as_prepared m.v m.tt m.dd m.ss)) (ends done c.fold_witness.new.s)
    (ends (verdict_of v.result) (counted (as_instance v.new.t v.new.d) (verdict_leaves v.result))) (verdict_of v.result) _
    (found s _ c.in_ok-message.ensures) c.in_ok-fold_witness.ensures v.ensures (by-verdict _) (counted-verdict v.result))
