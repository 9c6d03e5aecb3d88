-- `field_writers::put_word` meets its contract: a tab, and then the word.
use mathlib.Core.Path.{◌∙◌}
use native.Mathlib.Omega.{arith}
use Rattle.numerals.proofs.Buffers.{written_cons}
use Rattle.text.proofs.Lines.{tabbed-one}
use Rattle.field_writers.proofs.put_word.Goals as goal

pub returns : goal.returns
returns c =
    let p = c.put_bytes.ensures in
    rw tabbed-one (omega (arith, p.0), p.1 ∙ written_cons _ c.args.at _ c.args.word.now (omega arith), p.0)
