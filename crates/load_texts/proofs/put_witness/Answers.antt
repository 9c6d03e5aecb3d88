-- `load_texts::put_witness` meets its contract: the word, the witness that is drawn, the line feed.
use mathlib.Core.Path.{refl, sym, ap}
use mathlib.Core.List.{List}
use Prim.Native.Nat.{ℕ, ◌*◌}
use native.Mathlib.Omega.{arith}
use lib.IntN.{ℤ, pos}
use lib.ListN.{replicate}
use lib.Seq.{length-take-le}
use Rattle.numerals.specs.Numerals.{decimal_Z}
use Rattle.chain.specs.Reports.{leaf_word}
use Rattle.draws.specs.Draws.{witness_of, drawn}
use Rattle.loads.specs.Files.{drawn_S, witness_text}
use Rattle.load_texts.specs.Texts.{parameters_for}
use Rattle.load_texts.proofs.Fitting.{S_fits, r_small}
use Rattle.load_texts.proofs.LinePut.{drawn-put}
use Rattle.load_texts.proofs.put_witness.Goals as goal

abbrev zeros : List ℤ
zeros = replicate 32 (pos 0)

pub slice_bounds-entries-end : goal.slice_bounds-entries-end
slice_bounds-entries-end c = sym (length-take-le _ zeros (S_fits c.args.load.now))

pub fill_witness-requires : goal.fill_witness-requires
fill_witness-requires c = r_small c.args.load.now

pub returns-clause-out_after : goal.returns-clause-out_after
unfolding witness_text drawn_S
returns-clause-out_after c =
    let a = c.args in
    let load = a.load.now in
    let setting = load.small.accepted.setting in
    let l = c.fill_witness in
    let w = c.put_bytes-word in
    let f = c.put_i64s-end in
    let fits = S_fits load in
    drawn-put decimal_Z (witness_of load.radius) leaf_word (setting.m * setting.t) _ a.state.now l.result l.new.out a.out.now w.new.buf f.new.buf a.at w.result f.result
    (sym (length-take-le _ zeros fits)) l.auto.out l.ensures c.requires (omega (arith, fits))
    (drawn_S (parameters_for load) a.state.now) _ (ap (λ (r : ℕ). drawn (witness_of r) (setting.m * setting.t) a.state.now) load.radius_is) refl w.ensures f.ensures
