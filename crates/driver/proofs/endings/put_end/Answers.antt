-- `driver::endings::put_end` meets its contract: the word, the count, the relation test.
use mathlib.Core.Path.{◌≡◌, refl, ◌∙◌, ap}
use mathlib.Core.List.{[], ◌∷◌}
use native.Mathlib.Omega.{arith}
use Prim.Native.Nat.{◌+◌}
use lib.ListN.{length}
use Rattle.numerals.specs.Bytes as Bytes
use Rattle.text.specs.Lines.{tabbed}
use Rattle.numerals.specs.Numerals.{decimal}
use Rattle.lova.specs.Answers.{membership_of}
use Rattle.chain.specs.Reports.{end_word, word_of, end_line}
use Rattle.field_writers.proofs.Puts.{put_word, put-fields, put-end}
use Rattle.driver.proofs.endings.put_end.Goals as goal

pub returns : goal.returns
unfolding end_line
returns c =
    let s = c.args in
    let n = length s.out.now in
    let w = c.put_bytes-word in
    let k = c.put_number-after_number in
    let v = c.put_word-at in
    let said = word_of (membership_of s.membership) in
    let written : tabbed (c.membership_word.result.now ∷ []) ≡ tabbed (said ∷ []) = ap (λ w. tabbed (w ∷ [])) c.membership_word.ensures.word in
    let place : v.result ≡ k.result + length (tabbed (said ∷ [])) = v.ensures.0 ∙ ap (λ w. k.result + length w) written in
    let word = put_word n s.out.now w.new.buf end_word w.result refl (omega (arith, c.requires)) w.ensures in
    let number = put-fields n w.new.buf k.new.buf end_word [] (decimal s.folds ∷ []) w.result k.result word
    (omega (arith, c.requires, w.ensures.0, k.ensures.2)) k.ensures.0 k.ensures.1 in
    let member = put-fields n k.new.buf v.new.buf end_word (decimal s.folds ∷ []) (said ∷ []) k.result v.result number
    (omega (arith, c.requires, w.ensures.0, k.ensures.2, v.ensures.2, c.membership_word.ensures.short)) place
    (v.ensures.1 ∙ ap (λ w. Bytes.written k.new.buf k.result w) written) in
    put-end n v.new.buf (end_word ∷ decimal s.folds ∷ said ∷ []) v.result member (omega (arith, c.requires, w.ensures.0, k.ensures.2, v.ensures.2, c.membership_word.ensures.short))
