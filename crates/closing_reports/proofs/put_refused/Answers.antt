-- `closing_reports::put_refused` meets its contract: the word and the two numbers.
use mathlib.Core.Path.{refl, ◌∙◌}
use mathlib.Core.List.{[], ◌∷◌}
use native.Mathlib.Omega.{arith}
use lib.ListN.{length, length-set}
use Rattle.numerals.specs.Numerals.{decimal}
use Rattle.chain.specs.Reports.{refused_word, refused_line}
use Rattle.field_writers.proofs.Puts.{put_word, put-fields, put-end}
use Rattle.closing_reports.proofs.put_refused.Goals as goal

pub shape_of-out : goal.shape_of-out
shape_of-out c = length-set c.put_number-at.new.buf c.put_number-at.result 10 ∙ c.put_number-at.auto.buf ∙ c.put_number-after_line.auto.buf ∙ c.put_bytes-word.auto.buf

pub returns : goal.returns
unfolding refused_line
returns c =
    let s = c.args in
    let n = length s.out.now in
    let w = c.put_bytes-word in
    let k = c.put_number-after_line in
    let v = c.put_number-at in
    let word = put_word n s.out.now w.new.buf refused_word w.result refl (omega (arith, c.requires)) w.ensures in
    let line = put-fields n w.new.buf k.new.buf refused_word [] (decimal s.line ∷ []) w.result k.result word
    (omega (arith, c.requires, w.ensures.0, k.ensures.2)) k.ensures.0 k.ensures.1 in
    let number = put-fields n k.new.buf v.new.buf refused_word (decimal s.line ∷ []) (decimal s.number ∷ []) k.result v.result line
    (omega (arith, c.requires, w.ensures.0, k.ensures.2, v.ensures.2)) v.ensures.0 v.ensures.1 in
    put-end n v.new.buf (refused_word ∷ decimal s.line ∷ decimal s.number ∷ []) v.result number (omega (arith, c.requires, w.ensures.0, k.ensures.2, v.ensures.2))
