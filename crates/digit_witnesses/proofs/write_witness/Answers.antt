-- `digit_witnesses::write_witness` meets its contract: the first i rows of the digit witness are written.
use mathlib.Core.Path.{◌≡◌, sym, ◌∙◌}
use Prim.Native.Nat.{◌+◌, ◌*◌, ◌≤◌}
use native.Mathlib.Omega.{arith}
use lib.IntN.{pos}
use lib.ListN.{length}
use Rattle.matrices.proofs.Tables.{row_within, table-all}
use Rattle.settings.specs.Settings.{parameters_of}
use Rattle.lova.proofs.Rebuilding.{rebuilt-accepted, k-is, rebuilt-is}
use Rattle.digit_witnesses.proofs.DigitRows.{wide_high, rows_in_reach, to_the_base, digits_of_both, row_fits, row_written}
use Rattle.digit_witnesses.proofs.write_witness.Goals as goal
use Rattle.digit_witnesses.proofs.write_witness.Goals.{At-loop-i, In-loop-i, Start}

-- the entry
abbrev start : At-loop-i → Start
start c = (goal.at.At-loop-i c).Start

-- the digit witness has at most 512 columns
wide-small : (c : Start) → let s = c.args.accepted.now.setting in (s.t + c.args.right) * s.k ≤ 512
wide-small c =
    let s = c.args.accepted.now.setting in
    let whole = (rebuilt-is c.args.accepted.now) in
    let high = wide_high (parameters_of s) c.args.right c.requires.right_le in
    rw (k-is s whole) (omega (arith, high, (rebuilt-accepted s whole).columns))

pub overflow_add-wide : goal.overflow_add-wide
overflow_add-wide c = omega (arith, (rebuilt-accepted c.args.accepted.now.setting (rebuilt-is c.args.accepted.now)).t-high, c.requires.right_le)

pub overflow_mul-wide : goal.overflow_mul-wide
overflow_mul-wide c = omega (arith, wide-small (goal.at.overflow_mul-wide c).Start)

-- the output has m such rows, and keeps its length
output-size : (c : Start) →
    let s = c.args.accepted.now.setting in
    length c.args.out.now ≡ s.m * ((s.t + c.args.right) * s.k)
output-size c = rw (k-is c.args.accepted.now.setting (rebuilt-is c.args.accepted.now)) c.requires.s1_len.2

same_size : (c : At-loop-i) → length c.loop-i.out ≡ length (start c).args.out.now
same_size c = c.loop-i.invariant.long ∙ sym (output-size (start c))

pub new-base-requires : goal.new-base-requires
new-base-requires c = (rebuilt-accepted c.args.accepted.now.setting (rebuilt-is c.args.accepted.now)).b-low

-- row i of s1 and of s2 lie within them, and row i of the output within that
witness-rows : (c : In-loop-i) →
    let a = (start (goal.at.In-loop-i c).At-loop-i).args in
    let i = c.loop-i.i in
    (i * a.accepted.now.setting.t + a.accepted.now.setting.t ≤ length a.s1.now) × (i * a.right + a.right ≤ length a.s2.now)
witness-rows c =
    let s = start (goal.at.In-loop-i c).At-loop-i in
    let a = s.args in
    let h = c.loop-i-test.true in (
      rw s.requires.s1_len.0 (row_within a.accepted.now.setting.m a.accepted.now.setting.t c.loop-i.i h),
      rw s.requires.s1_len.1 (row_within a.accepted.now.setting.m a.right c.loop-i.i h),
    )

output_row : (c : In-loop-i) →
    let a = (start (goal.at.In-loop-i c).At-loop-i).args in
    let wide = (a.accepted.now.setting.t + a.right) * a.accepted.now.setting.k in
    c.loop-i.i * wide + wide ≤ length a.out.now
output_row c =
    let a = (start (goal.at.In-loop-i c).At-loop-i).args in
    let wide = (a.accepted.now.setting.t + a.right) * a.accepted.now.setting.k in
    rw (output-size (start (goal.at.In-loop-i c).At-loop-i)) (row_within a.accepted.now.setting.m wide c.loop-i.i c.loop-i-test.true)

pub slice_bounds-write_both-end : goal.slice_bounds-write_both-end
slice_bounds-write_both-end c = omega (arith, witness-rows c)

pub slice_bounds-write_both-end-in-loop-i : goal.slice_bounds-write_both-end-in-loop-i
slice_bounds-write_both-end-in-loop-i c = omega (arith, witness-rows (goal.at.slice_bounds-write_both-end-in-loop-i c).In-loop-i)

pub slice_bounds-write_both-end-in-loop-i-2 : goal.slice_bounds-write_both-end-in-loop-i-2
slice_bounds-write_both-end-in-loop-i-2 c = omega (arith, output_row (goal.at.slice_bounds-write_both-end-in-loop-i-2 c).In-loop-i, same_size (goal.at.slice_bounds-write_both-end-in-loop-i-2 c).At-loop-i)

pub write_both-requires : goal.write_both-requires
write_both-requires c =
    let t = (goal.at.write_both-requires c).In-loop-i in
    let l = (goal.at.write_both-requires c).At-loop-i in
    let s = start l in
    let a = s.args in
    let whole = (rebuilt-is a.accepted.now) in
    let acc = rebuilt-accepted a.accepted.now.setting whole in
    let sizes = s.requires.s1_len in record {
      base = rows_in_reach a.accepted.now.setting.b acc.b-low acc.b-high l.new-base.result l.new-base.ensures
          a.accepted.now.setting.t a.right l.loop-i.i a.s1.now a.s2.now s.requires.all_in_reach.0 s.requires.all_in_reach.1;
      row_len = row_fits (parameters_of a.accepted.now.setting) a.right a.accepted.now.setting.k a.s1.now a.s2.now (k-is a.accepted.now.setting whole) sizes.0 sizes.1
          l.loop-i.i t.loop-i-test.true l.loop-i.out l.loop-i.invariant.long;
    }

pub loop-i-preserved : goal.loop-i-preserved
loop-i-preserved c =
    let t = (goal.at.loop-i-preserved c).In-loop-i in
    let l = (goal.at.loop-i-preserved c).At-loop-i in
    let s = start l in
    let a = s.args in
    let acc = rebuilt-accepted a.accepted.now.setting (rebuilt-is a.accepted.now) in
    let sizes = s.requires.s1_len in
    row_written (parameters_of a.accepted.now.setting) a.right a.accepted.now.setting.k a.s1.now a.s2.now (k-is a.accepted.now.setting (rebuilt-is a.accepted.now))
    sizes.0 sizes.1 l.loop-i.i t.loop-i-test.true l.loop-i.out _
    (c.write_both.ensures ∙ to_the_base a.accepted.now.setting.b acc.b-low acc.b-high l.new-base.result l.new-base.ensures
    a.accepted.now.setting.t a.right l.loop-i.i a.accepted.now.setting.k a.s1.now a.s2.now)
    l.loop-i.invariant

pub returns : goal.returns
returns c =
    let l = (goal.at.returns c).At-loop-i in
    let a = (start l).args in
    let s = a.accepted.now.setting in
    let digits = digits_of_both (parameters_of s) a.right a.s1.now a.s2.now in
    rw (← k-is s (rebuilt-is (start l).args.accepted.now))
    (table-all (pos 0) s.m ((s.t + a.right) * s.k) digits l.loop-i.out l.loop-i.i (omega arith)
    l.loop-i.invariant)
