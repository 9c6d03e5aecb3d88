-- `field_writers::put_fields` meets its contract: as many values are written as the loop has run.
use Rattle.std.proofs.Common.{arith}
use Rattle.text.proofs.Lines.{putting_none, putting_more}
use Rattle.field_writers.proofs.put_fields.Goals as goal

pub loop-value-init : goal.loop-value-init
loop-value-init g c = putting_none g.F.Field.numeral c.args.values.now c.args.buf.now c.args.at

pub loop-value-preserved : goal.loop-value-preserved
loop-value-preserved g c =
    let l = c.loop-value in
    let p = c.put-to in
    putting_more g.F.Field.numeral c.args.values.now c.args.buf.now c.args.at l.value-index l.to p.result l.buf p.new.buf _ _
    c.requires (omega arith) c.value-item.is p.ensures.short l.invariant p.ensures.place p.ensures.bytes
