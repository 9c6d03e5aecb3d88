-- `load_texts::put_challenge` meets its contract: the word, the challenge that is drawn, the line feed.
use mathlib.Core.Path.{sym, ap}
use mathlib.Core.List.{List}
use Prim.Native.Nat.{ℕ, ◌*◌}
use native.Mathlib.Omega.{arith}
use lib.ListN.{replicate}
use lib.Seq.{length-take-le}
use Rattle.text.specs.Lines.{ternary_numeral}
use Rattle.chain.specs.Chain.{c_word}
use Rattle.draws.specs.Draws.{challenge_of, after, drawn}
use Rattle.loads.specs.Files.{drawn_c, challenge_text}
use Rattle.load_texts.specs.Texts.{parameters_for}
use Rattle.load_texts.proofs.Fitting.{C_fits, C-is}
use Rattle.load_texts.proofs.LinePut.{drawn-put}
use Rattle.load_texts.proofs.put_challenge.Goals as goal

abbrev zeros : List ℕ
zeros = replicate 64 0

pub slice_bounds-entries-end : goal.slice_bounds-entries-end
slice_bounds-entries-end c = sym (length-take-le _ zeros (C_fits c.args.load.now))

pub returns-clause-out_after : goal.returns-clause-out_after
unfolding challenge_text drawn_c
returns-clause-out_after c =
    let a = c.args in
    let load = a.load.now in
    let setting = load.small.accepted.setting in
    let l = c.fill_challenge in
    let w = c.put_bytes-word in
    let f = c.put_ternaries-end in
    let fits = C_fits load in
    drawn-put ternary_numeral challenge_of c_word (setting.columns * setting.t) _ a.state.now l.result l.new.out a.out.now w.new.buf f.new.buf a.at w.result f.result
    (sym (length-take-le _ zeros fits)) l.auto.out l.ensures c.requires (omega (arith, fits))
    (drawn_c (parameters_for load) a.state.now) _ (ap (λ (k : ℕ). drawn challenge_of k a.state.now) (C-is load)) (ap (λ (k : ℕ). after k a.state.now) (C-is load)) w.ensures f.ensures
