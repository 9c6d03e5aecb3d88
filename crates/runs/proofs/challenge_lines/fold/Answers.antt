-- `challenge_lines::fold` meets its contract: refused, or the fold.
use Rattle.std.proofs.Common.{rules}
use mathlib.Core.Path.{◌≡◌, refl, sym, ◌∙◌, ap}
use native.Mathlib.Omega.{arith}
use lib.ListN.{length}
use Rattle.std.proofs.lemmas.Result.{err_from_is_err_and}
use Rattle.std.specs.Prelude.{Result}
use Rattle.settings.specs.declared.refused.Refusal.{Refusal}
use Rattle.lova.specs.declared.Verdict.{Verdict}
use Rattle.lova.specs.Answers.{ends, count_after, verdict_of, verdict_leaves}
use Rattle.chain.specs.Nodes.{node_of}
use Rattle.chain.specs.Small.{numbers_in}
use Rattle.chain.proofs.Refusing.{node_same, passes_on, count-after}
use Rattle.chain.proofs.Small.{sizes-in}
use Rattle.states.proofs.Parts.{room, lent, part, node_back}
use Rattle.runs.proofs.FoldLines.{fold-refused, fold-taken}
use Rattle.runs.proofs.challenge_lines.fold.Goals as goal

pub overflow_mul-size_a : goal.overflow_mul-size_a
overflow_mul-size_a c = omega (arith, (sizes-in c.args.small).A-high)

pub overflow_mul-size_t : goal.overflow_mul-size_t
overflow_mul-size_t c = omega (arith, (sizes-in c.args.small).T-high)

pub overflow_mul-size_d : goal.overflow_mul-size_d
overflow_mul-size_d c = omega (arith, (sizes-in c.args.small).D-high)

pub overflow_mul-size_s : goal.overflow_mul-size_s
overflow_mul-size_s c = omega (arith, (sizes-in c.args.small).S-high)

pub shared_ref_as_front-fold : goal.shared_ref_as_front-fold
shared_ref_as_front-fold c = (sizes-in c.args.small).A-high

pub slice_bounds-t-end : goal.slice_bounds-t-end
slice_bounds-t-end c = let l : length c.args.first.t ≡ 16 = search rules in room _ 16 _ (sizes-in c.args.small).T-high l

pub slice_bounds-fold-end-2 : goal.slice_bounds-fold-end-2
slice_bounds-fold-end-2 c = let l : length c.args.first.t ≡ 16 = search rules in lent _ 16 _ (sizes-in c.args.small).T-high l

pub slice_bounds-d-end : goal.slice_bounds-d-end
slice_bounds-d-end c = let l : length c.args.first.d ≡ 4 = search rules in room _ 4 _ (sizes-in c.args.small).D-high l

pub slice_bounds-fold-end-3 : goal.slice_bounds-fold-end-3
slice_bounds-fold-end-3 c = let l : length c.args.first.d ≡ 4 = search rules in lent _ 4 _ (sizes-in c.args.small).D-high l

pub slice_bounds-s-end : goal.slice_bounds-s-end
slice_bounds-s-end c = let l : length c.args.first.s ≡ 32 = search rules in room _ 32 _ (sizes-in c.args.small).S-high l

pub slice_bounds-fold-end-4 : goal.slice_bounds-fold-end-4
slice_bounds-fold-end-4 c = let l : length c.args.first.s ≡ 32 = search rules in lent _ 32 _ (sizes-in c.args.small).S-high l

pub shared_ref_as_front-leaf : goal.shared_ref_as_front-leaf
shared_ref_as_front-leaf c = (sizes-in c.args.small).T-high

pub shared_ref_as_front-leaf-2 : goal.shared_ref_as_front-leaf-2
shared_ref_as_front-leaf-2 c = (sizes-in c.args.small).D-high

pub shared_ref_as_front-fold-2 : goal.shared_ref_as_front-fold-2
shared_ref_as_front-fold-2 c = (sizes-in c.args.small).S-high

pub returns-in_err-verdict : goal.returns-in_err-verdict
unfolding verdict_of
returns-in_err-verdict c =
    let q = err_from_is_err_and c.from_residual.result c.from_residual.ensures.1 in
    rw (q.1, q.2) (λ n. fold-refused _ _ _ _ n _ _ _ c.fold.ensures _ (ap verdict_of c.in_err-verdict.was))

pub returns : goal.returns
returns c =
    let p = numbers_in c.args.small in
    let big = sizes-in c.args.small in
    let k = c.fold in
    let first = c.args.first in
    let t : length first.t ≡ 16 = search rules in
    let d : length first.d ≡ 4 = search rules in
    let s : length first.s ≡ 32 = search rules in
    let goes_on = passes_on c.in_ok-verdict.verdict in
    let e = ap (λ (x : Result Verdict Refusal). ends (verdict_of x) (node_of k.new.t1 k.new.d1 (count_after (verdict_of x) (verdict_leaves x) c.args.under) k.new.s1)) (sym c.in_ok-verdict.was) ∙ k.ensures in
    let same = node_back p first.t first.d first.s _ _ _ c.leaves_of.result (part _ 16 _ big.T-high t _ k.auto.t1) (part _ 4 _ big.D-high d _ k.auto.d1) (part _ 32 _ big.S-high s _ k.auto.s1)
    ∙ node_same _ _ _ _ _ _ _ _ refl refl (c.leaves_of.ensures ∙ sym (count-after _ _ c.args.under goes_on)) refl in
    λ n. fold-taken _ _ _ _ n _ _ _ e goes_on _ same
