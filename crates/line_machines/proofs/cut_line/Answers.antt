-- `line_machines::cut_line` meets its contract: the answer is that of the bytes still to come.
use mathlib.Core.Path.{◌≡◌, refl, ◌∙◌}
use native.Mathlib.Omega.{arith}
use lib.ListN.{length, get_or, length-set}
use Rattle.line_machines.proofs.Cutting.{cutting_end, cutting_feed, cutting_long, cutting_more}
use Rattle.line_machines.proofs.cut_line.Goals as goal

pub returns-then-byte-eq10-clause-ended_after : goal.returns-then-byte-eq10-clause-ended_after
returns-then-byte-eq10-clause-ended_after c =
    let a = c.args in
    let l = c.loop-i in
    cutting_feed a.chunk.now a.line.now a.from l.line l.length l.i l.invariant.0 (get_or a.chunk.now l.i 0) c.loop-i-test.true refl c.if-byte-eq10.true

pub returns-then-length-gt-LONGEST_LINE-clause-ended_after : goal.returns-then-length-gt-LONGEST_LINE-clause-ended_after
returns-then-length-gt-LONGEST_LINE-clause-ended_after c =
    let a = c.args in
    let l = c.loop-i in
    cutting_long a.chunk.now a.line.now a.from l.line l.length l.i l.invariant.0 (get_or a.chunk.now l.i 0) c.loop-i-test.true refl c.if-byte-eq10.false c.if-length-gt-LONGEST_LINE.true

pub loop-i-preserved : goal.loop-i-preserved
loop-i-preserved c =
    let a = c.args in
    let l = c.loop-i in (
      cutting_more a.chunk.now a.line.now a.from l.line l.length l.i l.invariant.0 (get_or a.chunk.now l.i 0) c.loop-i-test.true refl c.if-byte-eq10.false c.if-length-gt-LONGEST_LINE.false,
      length-set l.line l.length (get_or a.chunk.now l.i 0) ∙ l.invariant.1,
    )

pub returns-clause-ended_after : goal.returns-clause-ended_after
returns-clause-ended_after c =
    let a = c.args in
    let l = c.loop-i in
    let i : l.i ≡ length a.chunk.now = omega (arith, l.invariant.0.within) in
    rw (← i) (cutting_end a.chunk.now a.line.now a.from l.line l.length l.i l.invariant.0 c.loop-i-test.false)
