-- `fold_nodes::fold` meets its contract: refused by the calls, or T, D and S copied from what they left.
use mathlib.Core.Path.{◌≡◌, refl, sym, ◌∙◌, ap}
use native.Mathlib.Omega.{arith}
use lib.IntN.{pos}
use Rattle.std.specs.Prelude.{Ok}
use Rattle.std.proofs.lemmas.Result.{err_from_is_err_and}
use Rattle.settings.specs.Accepted.{parameters_in}
use Rattle.settings.specs.Settings.{Parameters}
use Rattle.settings.specs.Refusals.{number_of}
use Rattle.lova.specs.Answers.{Meaning, refused, refusal, refuses, verdict_of, Outcome, ends}
use Rattle.chain.specs.Nodes.{Node, node_of, blank_node, calls_of}
use Rattle.copies.proofs.Blanks.{blank, blank-long}
use Rattle.chain.proofs.Sizes.{Sizes, sizes}
use Rattle.chain.proofs.Refusing.{node_same, count-after, fold-ends, fold-refuses}
use Rattle.fold_nodes.proofs.Answering.{passes_on}
use Rattle.fold_nodes.proofs.fold.Goals as goal
use Rattle.fold_nodes.proofs.fold.Goals.{Start}

module _ (s : Start) where
  abbrev p : Parameters
  p = parameters_in s.args.accepted.now

  abbrev first : Node
  first = node_of s.args.t1.now s.args.d1.now s.args.leaves1 s.args.s1.now

  abbrev second : Node
  second = node_of s.args.second.t.now s.args.second.d.now s.args.second.leaves s.args.s2.now

  big : Sizes p
  big = sizes p s.requires.setting_value

  -- the calls with blank outputs
  abbrev made : Outcome Node
  made = calls_of p s.args.a.now first second s.args.c.now (blank_node p)

  -- what they find is blank
  blank-found : (T : _) (D : _) (S : _) → T ≡ (blank_node p).instance.instance.T → D ≡ (blank_node p).instance.instance.D → S ≡ (blank_node p).witness
      → calls_of p s.args.a.now first second s.args.c.now (node_of T D 0 S) ≡ made
  blank-found T D S t d w = ap (λ (z : Node). calls_of p s.args.a.now first second s.args.c.now z) (node_same _ _ _ _ _ _ _ _ t d refl w)

pub slice_bounds-t-end : goal.slice_bounds-t-end
slice_bounds-t-end c = (big (goal.at.slice_bounds-t-end c).Start).T-high

pub slice_bounds-t-end-2 : goal.slice_bounds-t-end-2
slice_bounds-t-end-2 c = sym (blank-long _ 16 0 (big (goal.at.slice_bounds-t-end-2 c).Start).T-high)

pub slice_bounds-d-end : goal.slice_bounds-d-end
slice_bounds-d-end c = (big (goal.at.slice_bounds-d-end c).Start).D-high

pub slice_bounds-d-end-2 : goal.slice_bounds-d-end-2
slice_bounds-d-end-2 c = sym (blank-long _ 4 (pos 0) (big (goal.at.slice_bounds-d-end-2 c).Start).D-high)

pub slice_bounds-s-end : goal.slice_bounds-s-end
slice_bounds-s-end c = (big (goal.at.slice_bounds-s-end c).Start).S-high

pub slice_bounds-s-end-2 : goal.slice_bounds-s-end-2
slice_bounds-s-end-2 c = sym (blank-long _ 32 (pos 0) (big (goal.at.slice_bounds-s-end-2 c).Start).S-high)

pub returns-in_err-verdict : goal.returns-in_err-verdict
unfolding verdict_of refuses refusal
returns-in_err-verdict c =
    let s = (goal.at.returns-in_err-verdict c).Start in
    let b = big s in
    let e = err_from_is_err_and c.from_residual.result c.from_residual.ensures.1 in
    let n = number_of c.in_err-verdict.field-0.0 in
    let said = c.in_err-verdict.ensures.answer ∙ ap (λ (o : Outcome Node). o.answer) (blank-found s _ _ _ (blank _ 16 0 b.T-high) (blank _ 4 (pos 0) b.D-high) (blank _ 32 (pos 0) b.S-high)) in
    rw (e.1, e.2) (fold-refuses (p s) s.args.a.now (first s) (second s) s.args.c.now (refused n) (made s).outputs (ap (λ (a : Meaning). ends a (made s).outputs) said) refl)

pub copy-requires : goal.copy-requires
copy-requires c = let s = (goal.at.copy-requires c).Start in omega (arith, c.calls.auto.t ∙ blank-long _ 16 0 (big s).T-high ∙ sym c.requires.fits_node.0)

pub copy-requires-2 : goal.copy-requires-2
copy-requires-2 c = let s = (goal.at.copy-requires-2 c).Start in omega (arith, c.calls.auto.d ∙ blank-long _ 4 (pos 0) (big s).D-high ∙ sym c.requires.fits_node.1)

pub copy-requires-3 : goal.copy-requires-3
copy-requires-3 c = let s = (goal.at.copy-requires-3 c).Start in omega (arith, c.calls.auto.s ∙ blank-long _ 32 (pos 0) (big s).S-high ∙ sym c.requires.fits_node.2)

pub returns : goal.returns
returns c =
    let s = (goal.at.returns c).Start in
    let b = big s in
    let verdict = c.in_ok-verdict.verdict in
    let goes_on = passes_on verdict in
    ap (λ (z : Node). ends (verdict_of (Ok verdict)) z) (node_same _ _ _ _ _ _ _ _ c.copy.ensures c.copy-2.ensures (count-after _ _ _ goes_on) c.copy-3.ensures)
    ∙ fold-ends (p s) s.args.a.now (first s) (second s) s.args.c.now _ _
    (c.in_ok-verdict.ensures.node ∙ blank-found s _ _ _ (blank _ 16 0 b.T-high) (blank _ 4 (pos 0) b.D-high) (blank _ 32 (pos 0) b.S-high)) goes_on
