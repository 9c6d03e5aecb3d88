-- `load_texts::put_param` meets its contract: the word, the five numbers, the line feed.
use mathlib.Core.List.{[], ◌∷◌}
use native.Mathlib.Omega.{arith}
use Rattle.numerals.specs.Numerals.{decimal}
use Rattle.chain.specs.Params.{param_word}
use Rattle.loads.specs.Files.{param_text}
use Rattle.load_texts.proofs.LinePut.{line-put}
use Rattle.load_texts.proofs.put_param.Goals as goal

pub returns-clause-out_after : goal.returns-clause-out_after
unfolding param_text
returns-clause-out_after c =
    let w = c.put_bytes-word in
    let f = c.put_u64s-end in
    let a = c.args in
    let p = a.setting.now in
    line-put decimal param_word (p.n ∷ p.m ∷ p.t ∷ p.b ∷ p.bound ∷ []) a.out.now w.new.buf f.new.buf a.at w.result f.result
    c.requires (omega arith) w.ensures f.ensures
