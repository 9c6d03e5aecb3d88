-- `text::begins` meets its contract.
use mathlib.Core.Path.{sym}
use native.Mathlib.Omega.{arith}
use lib.Seq.{length-take-le}
use Rattle.text.proofs.Fields.{field_end}
use Rattle.text.proofs.begins.Goals as goal

pub slice_bounds-equal-end : goal.slice_bounds-equal-end
slice_bounds-equal-end c =
    let f = c.find_tab-end in
    let line = c.args.line.now in
    sym (length-take-le f.result line (field_end line 0 f.result (omega arith) f.ensures).1)
