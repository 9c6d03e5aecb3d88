-- `print_all` meets its contract: the blocks that were written, and what is left, are all that there was to come.
use Rattle.std.proofs.Common.{◌∙◌, take}
use Rattle.load_files.specs.Pending.{to_come}
use Rattle.load_runs.proofs.Blocks.{written-more}
use Rattle.load_runs.proofs.printing.print_all.Goals as goal

pub loop-out-preserved : goal.loop-out-preserved
loop-out-preserved g c =
    let f = c.fill-length in
    let l = c.loop-out in (
      f.auto.out ∙ l.invariant.0,
      written-more (take f.result f.new.out) (to_come f.new.self) (to_come l.rest) f.ensures.pending_after _ l.invariant.1,
    )
