-- `take` meets its contract: a line that is too long is bad, and for any other each arm is the definition's.
use mathlib.Core.Path.{sym, ◌∙◌}
use Rattle.states.specs.Held.{state_of}
use Rattle.states.specs.declared.Due.TheVariants as Dues
use Rattle.runs.proofs.Lines.{line_bad, take-due, take-nothing}
use Rattle.runs.proofs.take.Goals as goal

pub returns-then-line-gt-LONGEST_LINE-clause-taken : goal.returns-then-line-gt-LONGEST_LINE-clause-taken
returns-then-line-gt-LONGEST_LINE-clause-taken c =
    c.refuse_bad.ensures.whatever c.args.store.now ∙ sym (line_bad (state_of c.args.run.now c.args.store.now) c.args.line.now c.if-line-gt-LONGEST_LINE.true)

pub returns-in-Param-clause-taken : goal.returns-in-Param-clause-taken
returns-in-Param-clause-taken c =
    let m = c.args.store.now in
    take-due c.args.run.now m c.args.line.now c.if-line-gt-LONGEST_LINE.false Dues.Param c.in-Param.is _ (c.take.ensures.whatever m)

pub returns-in-Matrix-clause-taken : goal.returns-in-Matrix-clause-taken
returns-in-Matrix-clause-taken c =
    let m = c.args.store.now in
    take-due c.args.run.now m c.args.line.now c.if-line-gt-LONGEST_LINE.false _ c.in-Matrix.is _ (c.take-in-Matrix.ensures.whatever m)

pub returns-in-First-clause-taken : goal.returns-in-First-clause-taken
returns-in-First-clause-taken c =
    take-due c.args.run.now c.args.store.now c.args.line.now c.if-line-gt-LONGEST_LINE.false _ c.in-First.is _ c.take_first.ensures.taken

pub returns-in-Leaf-clause-taken : goal.returns-in-Leaf-clause-taken
returns-in-Leaf-clause-taken c =
    take-due c.args.run.now c.args.store.now c.args.line.now c.if-line-gt-LONGEST_LINE.false _ c.in-Leaf.is _ c.take_further.ensures.taken

pub returns-in-Challenge-clause-taken : goal.returns-in-Challenge-clause-taken
returns-in-Challenge-clause-taken c =
    take-due c.args.run.now c.args.store.now c.args.line.now c.if-line-gt-LONGEST_LINE.false _ c.in-Challenge.is _ c.take-in-Challenge.ensures.taken

pub returns-in-Nothing-clause-taken : goal.returns-in-Nothing-clause-taken
returns-in-Nothing-clause-taken c = take-nothing c.args.run.now c.args.store.now c.args.line.now c.if-line-gt-LONGEST_LINE.false c.in-Nothing.is
