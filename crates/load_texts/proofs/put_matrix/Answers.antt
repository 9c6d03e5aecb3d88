-- `load_texts::put_matrix` meets its contract: the word, what is drawn, the line feed.
use mathlib.Core.Path.{refl, sym}
use mathlib.Core.List.{List}
use Prim.Native.Nat.{ℕ, ◌*◌}
use native.Mathlib.Omega.{arith}
use lib.ListN.{replicate}
use lib.Seq.{length-take-le}
use Rattle.numerals.specs.Numerals.{decimal}
use Rattle.chain.specs.Chain.{a_word}
use Rattle.draws.specs.Draws.{word_of}
use Rattle.loads.specs.Files.{drawn_A, matrix_text}
use Rattle.load_texts.specs.Texts.{parameters_for}
use Rattle.load_texts.proofs.Fitting.{A_fits}
use Rattle.load_texts.proofs.LinePut.{drawn-put}
use Rattle.load_texts.proofs.put_matrix.Goals as goal

abbrev zeros : List ℕ
zeros = replicate 128 0

pub slice_bounds-entries-end : goal.slice_bounds-entries-end
slice_bounds-entries-end c = sym (length-take-le _ zeros (A_fits c.args.load.now))

pub returns-clause-out_after : goal.returns-clause-out_after
unfolding matrix_text drawn_A
returns-clause-out_after c =
    let a = c.args in
    let load = a.load.now in
    let setting = load.small.accepted.setting in
    let l = c.fill_words in
    let w = c.put_bytes-word in
    let f = c.put_u64s-end in
    let fits = A_fits load in
    drawn-put decimal word_of a_word (setting.n * setting.m) _ a.state.now l.result l.new.out a.out.now w.new.buf f.new.buf a.at w.result f.result
    (sym (length-take-le _ zeros fits)) l.auto.out l.ensures c.requires (omega (arith, fits))
    (drawn_A (parameters_for load) a.state.now) _ refl refl w.ensures f.ensures
