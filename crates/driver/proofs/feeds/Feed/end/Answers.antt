-- `Feed::end` meets its contract: a bad rest, the relation where a leaf is due, else a missing line.
use Rattle.std.proofs.Common.{rules, ◌≡◌}
use mathlib.Core.Path.{sym, ◌∙◌, ap}
use Prim.Native.Nat.{◌+◌}
use native.Mathlib.Omega.{arith}
use lib.ListN.{length}
use Rattle.chain.specs.Reports.{end_line, refused_line}
use Rattle.chain.specs.Chain.{Step, end_due}
use Rattle.states.specs.Held.{state_of, counts_of, stage_of}
use Rattle.states.specs.declared.Due.{Due}
use Rattle.driver.proofs.Ends.{end_missing, end_bad, end-due}
use Rattle.driver.proofs.feeds.Feed.end.Goals as goal

pub returns-then-self-gt0-clause-output : goal.returns-then-self-gt0-clause-output
returns-then-self-gt0-clause-output c =
    let f = c.args.self.now in
    let room : length f.line ≡ 4096 = search rules in
    ap (λ (s : Step). s.output) (c.refuse_bad.ensures.whatever f.store)
    ∙ sym (end_bad (state_of f.run f.store) f.line f.pending c.if-self-gt0.true (omega (arith, f.within, room)))

-- what is due, and that no line is under way
pub returns-in-Leaf-clause-output : goal.returns-in-Leaf-clause-output
unfolding stage_of end_due
returns-in-Leaf-clause-output c =
    let f = c.args.self.now in
    c.put_end.ensures.1 ∙ ap (end_line f.run.folds) c.test-membership.ensures
    ∙ ap (λ (d : Due). end_due (counts_of f.run) (stage_of d f.run.under f.store)) (sym c.in-Leaf.is)
    ∙ sym (end-due (state_of f.run f.store) f.line f.pending c.if-self-gt0.false)

pub returns-in-Nothing-clause-output : goal.returns-in-Nothing-clause-output
unfolding stage_of end_due
returns-in-Nothing-clause-output c =
    let f = c.args.self.now in
    ap (λ (d : Due). end_due (counts_of f.run) (stage_of d f.run.under f.store)) (sym c.in-Nothing.is)
    ∙ sym (end-due (state_of f.run f.store) f.line f.pending c.if-self-gt0.false)

pub returns-in_default : goal.returns-in_default
returns-in_default c =
    let f = c.args.self.now in
    let k = c.put_refused in
    record {
      output = k.ensures.1 ∙ ap (refused_line (f.run.line + 1)) c.number.ensures
          ∙ sym (end_missing (counts_of f.run) f.run.due f.run.under f.store c.in_default.not-Leaf c.in_default.not-Nothing)
          ∙ sym (end-due (state_of f.run f.store) f.line f.pending c.if-self-gt0.false);
      upper_bound = omega (arith, k.ensures.0, k.auto.out);
    }
