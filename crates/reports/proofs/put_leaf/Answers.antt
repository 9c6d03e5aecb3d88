-- `reports::put_leaf` meets its contract: the word, the number, T, D and the leaf count.
use mathlib.Core.Path.{refl}
use mathlib.Core.List.{[], ◌∷◌}
use native.Mathlib.Omega.{arith}
use lib.ListN.{length}
use Rattle.numerals.specs.Numerals.{decimal}
use Rattle.chain.specs.Reports.{leaf_word, instance_fields, leaf_text}
use Rattle.field_writers.proofs.Puts.{put_word, put-fields, put_rest}
use Rattle.reports.proofs.put_leaf.Goals as goal

pub returns : goal.returns
unfolding leaf_text
returns c =
    let s = c in
    let w = c.put_bytes-word in
    let k = c.put_number-after in
    let i = c.put_instance in
    let a = s.args in
    let n = length a.out.now in
    let word = put_word n a.out.now w.new.buf leaf_word w.result refl (omega (arith, s.requires)) w.ensures in
    let number = put-fields n w.new.buf k.new.buf leaf_word [] (decimal a.number ∷ []) w.result k.result word
    (omega (arith, s.requires, w.ensures.0, k.ensures.2)) k.ensures.0 k.ensures.1 in
    put_rest n k.new.buf i.new.out leaf_word (decimal a.number ∷ []) (instance_fields a.t.now a.d.now a.leaves) k.result i.result number
    (omega (arith, s.requires, w.ensures.0, k.ensures.2, i.ensures.2)) i.ensures.0 i.ensures.1
