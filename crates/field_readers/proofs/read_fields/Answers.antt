-- `field_readers::read_fields` meets its contract: as many fields are read as the loop has run, and the next starts at `at`.
use Rattle.std.proofs.Common.{ap, arith, length, not, refl}
use Rattle.text.specs.Fields.{answer_of}
use Rattle.text.proofs.Fields.{other_word, reading_none, field_end, field_missing, field_bad, field_read, reading_all}
use Rattle.field_readers.proofs.read_fields.Goals as goal

pub returns-then-not-begins : goal.returns-then-not-begins
returns-then-not-begins g c =
    other_word g.F.Field.read c.args.word.now (length c.args.out.now) c.args.line.now c.begins.result c.args.out.now c.begins.ensures (ap not c.if-not-begins.true)

pub loop-place-init : goal.loop-place-init
loop-place-init g c =
    reading_none g.F.Field.read c.args.word.now (length c.args.out.now) c.args.line.now c.begins.result c.args.out.now c.begins.ensures (ap not c.if-not-begins.false) refl

pub returns-then-line-at : goal.returns-then-line-at
unfolding answer_of
returns-then-line-at g c =
    let l = c.loop-place in
    field_missing g.F.Field.read c.args.word.now (length c.args.out.now) c.args.line.now l.place-index l.at l.out (omega arith) l.invariant c.if-line-at.true

pub slice_bounds-parse-end : goal.slice_bounds-parse-end
slice_bounds-parse-end g c = omega (arith, (field_end c.args.line.now c.loop-place.at c.find_tab-end.result (omega arith) c.find_tab-end.ensures).1)

pub returns-in-None : goal.returns-in-None
unfolding answer_of
returns-in-None g c =
    let l = c.loop-place in
    field_bad g.F.Field.read c.args.word.now (length c.args.out.now) c.args.line.now l.place-index l.at l.out (omega arith) l.invariant
    c.find_tab-end.result (omega arith) c.find_tab-end.ensures c.in-None.ensures

pub loop-place-preserved : goal.loop-place-preserved
loop-place-preserved g c =
    let l = c.loop-place in
    field_read g.F.Field.read c.args.word.now (length c.args.out.now) c.args.line.now l.place-index l.at l.out (omega arith) l.invariant
    c.find_tab-end.result c.in-Some.value (omega arith) c.find_tab-end.ensures c.in-Some.ensures

pub returns : goal.returns
returns g c =
    let l = c.loop-place in
    reading_all g.F.Field.read c.args.word.now (length c.args.out.now) c.args.line.now l.place-index l.at l.out (omega arith) l.invariant
