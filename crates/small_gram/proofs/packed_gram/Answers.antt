-- `small_gram::packed_gram` meets its contract: `out` holds the Gram matrix of the first `base` rows.
use Rattle.std.proofs.Common.{rules, ◌+◌}
use mathlib.Core.Path.{◌≡◌, ◌∙◌, ap}
use native.Mathlib.Omega.{arith}
use lib.IntN.{pos}
use lib.ListN.{length, length-replicate}
use Rattle.matrices.specs.Matrices.{gram}
use Rattle.matrices.specs.Tables.{signed}
use Rattle.matrices.specs.Triangles.{triangular}
use Rattle.matrices.proofs.Triangles.{length-lower}
use Rattle.small_rows.proofs.Small.{within-zeros}
use Rattle.small_gram.proofs.Blocks.{gram-none, gram-more, gram-room, gram-all, block-fits}
use Rattle.small_gram.proofs.packed_gram.Goals as goal
use Rattle.small_gram.proofs.packed_gram.Goals.{After-pack, At-loop-base, In-loop-base, Start}

pub loop-base-init : goal.loop-base-init
loop-base-init c =
    let s = c in (
      omega arith,
      length-replicate 16384 (pos 0),
      within-zeros 32767 16384,
      gram-none s.args.s.now s.args.cols c.fill.new.self (length s.args.out.now) s.requires.3 (c.fill.ensures.after (λ y h. search rules)),
    )

-- the function's entry, seen from the loop
abbrev start : At-loop-base → Start
start c = (goal.at.At-loop-base c).Start

-- `out` is a triangle of `cols` rows
long : (c : At-loop-base) → length c.loop-base.out ≡ triangular (start c).args.cols
long c =
    let a = (start c).args in
    ap length c.loop-base.invariant.3 ∙ length-lower a.cols (gram c.loop-base.base (signed a.cols a.s.now))

pub pack-requires : goal.pack-requires
pack-requires c =
    let l = (goal.at.pack-requires c).At-loop-base in
    let s = start l in
    (s.requires.0, omega (arith, c.loop-base-test.true, s.requires.2), omega (arith, l.loop-base.invariant.1, s.requires.0.few), l.loop-base.invariant.2)

-- a turn, seen from where its rows are packed
abbrev turn : After-pack → In-loop-base
turn c = (goal.at.After-pack c).In-loop-base

-- the block has its room
block-long : (c : After-pack) → length c.pack.new.p ≡ 16384
block-long c = c.pack.auto.p ∙ (turn c).loop-base.invariant.1

pub add_block-requires : goal.add_block-requires
add_block-requires c =
    let t = (goal.at.add_block-requires c).After-pack in
    let l = (goal.at.add_block-requires c).At-loop-base in
    let s = start l in
    let a = s.args in (
      block-fits a.s.now a.cols l.loop-base.base _ t.pack.ensures s.requires.1,
      omega (arith, block-long t, s.requires.0.few),
      omega arith,
      long l,
      gram-room a.s.now a.cols l.loop-base.base l.loop-base.out (omega (arith, (turn t).loop-base-test.true, s.requires.2)) s.requires.0.small l.loop-base.invariant.3,
    )

pub loop-base-preserved : goal.loop-base-preserved
loop-base-preserved c =
    let t = (goal.at.loop-base-preserved c).After-pack in
    let l = (goal.at.loop-base-preserved c).At-loop-base in
    let a = (start l).args in (
      omega (arith, (turn t).loop-base-test.true),
      block-long t,
      t.pack.ensures.small,
      gram-more a.s.now a.cols l.loop-base.base _ l.loop-base.out _ t.pack.ensures l.loop-base.invariant.3 c.add_block.ensures,
    )

pub returns : goal.returns
returns c =
    let l = c.loop-base in
    let s = start (goal.at.returns c).At-loop-base in
    gram-all s.args.s.now s.args.cols s.args.m l.base l.out s.requires.0.long (omega arith) l.invariant.3

-- and after the last block
pub returns-2 : goal.returns-2
returns-2 c =
    let t = (goal.at.returns-2 c).After-pack in
    let l = (goal.at.returns-2 c).At-loop-base in
    let s = start l in
    let a = s.args in
    gram-all a.s.now a.cols a.m (l.loop-base.base + 32) _ s.requires.0.long (omega arith)
    (gram-more a.s.now a.cols l.loop-base.base _ l.loop-base.out _ t.pack.ensures l.loop-base.invariant.3 c.add_block.ensures)
