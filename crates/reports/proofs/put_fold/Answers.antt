-- `reports::put_fold` meets its contract: the word, the number, the verdict, T, D and the leaf count.
use mathlib.Core.Path.{◌≡◌, refl, ap, ◌∙◌}
use mathlib.Core.List.{[], ◌∷◌}
use Prim.Native.Nat.{◌+◌}
use native.Mathlib.Omega.{arith}
use lib.ListN.{length}
use Rattle.numerals.specs.Numerals.{decimal}
use Rattle.lova.specs.Answers.{verdict_of}
use Rattle.chain.specs.Reports.{fold_word, word_of, instance_fields, fold_text}
use Rattle.field_writers.proofs.Puts.{put_word, put-fields, put_rest}
use Rattle.numerals.specs.Bytes as Bytes
use Rattle.text.specs.Lines.{tabbed}
use Rattle.reports.proofs.put_fold.Goals as goal

pub returns : goal.returns
unfolding fold_text
returns c =
    let s = c in
    let w = c.put_bytes-word in
    let k = c.put_number-after_number in
    let v = c.put_word-after_verdict in
    let i = c.put_instance in
    let a = s.args in
    let n = length a.out.now in
    let said = word_of (verdict_of a.verdict) in
    let written : tabbed (c.verdict_word.result.now ∷ []) ≡ tabbed (said ∷ []) = ap (λ w. tabbed (w ∷ [])) c.verdict_word.ensures.word in
    let verdict-place : v.result ≡ k.result + length (tabbed (said ∷ [])) = v.ensures.0 ∙ ap (λ w. k.result + length w) written in
    let word = put_word n a.out.now w.new.buf fold_word w.result refl (omega (arith, s.requires)) w.ensures in
    let number = put-fields n w.new.buf k.new.buf fold_word [] (decimal a.number ∷ []) w.result k.result word
    (omega (arith, s.requires, w.ensures.0, k.ensures.2)) k.ensures.0 k.ensures.1 in
    let verdict = put-fields n k.new.buf v.new.buf fold_word (decimal a.number ∷ []) (said ∷ []) k.result v.result number
    (omega (arith, s.requires, w.ensures.0, k.ensures.2, v.ensures.2)) verdict-place
    (v.ensures.1 ∙ ap (λ w. Bytes.written k.new.buf k.result w) written) in
    put_rest n v.new.buf i.new.out fold_word (decimal a.number ∷ said ∷ []) (instance_fields a.t.now a.d.now a.leaves) v.result i.result verdict
    (omega (arith, s.requires, w.ensures.0, k.ensures.2, v.ensures.2, i.ensures.2)) i.ensures.0 i.ensures.1
