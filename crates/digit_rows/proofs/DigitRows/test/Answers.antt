-- `digit_rows::DigitRows::test` meets its contract: after i rows, what is left for each column and whether their digits are the rule's.
use mathlib.Core.Path.{◌≡◌, sym, ◌∙◌, ap, ap₂}
use mathlib.Core.Bool.{true, ◌&&◌}
use mathlib.Core.List.{List}
use Prim.Native.Nat.{ℕ, ◌+◌, ◌*◌, ◌-◌}
use native.Mathlib.Omega.{arith}
use lib.IntN.{ℤ}
use lib.ListN.{length, take, drop, replicate, get_or-replicate}
use lib.Seq.{length-take-le}
use Rattle.integers.specs.Tests.{all}
use Rattle.lova.proofs.Numbers.{gives-number, gives_later, gives_none}
use Rattle.digit_entries.specs.Entries.{follow_rule}
use Rattle.digit_rows.specs.Rows.{digits_at, taken, short_columns, ruled_entries}
use Rattle.digit_rows.proofs.Blocks.{part-is}
use Rattle.digit_rows.proofs.Rows.{LeftFor, left-none, left-part, left-all, row_ruled, part-taken, row-above, ruled_none, ruled_more}
use Rattle.digit_rows.proofs.DigitRows.test.Goals as goal
use Rattle.digit_rows.proofs.DigitRows.test.Goals.{After-loop-i, After-take_row, Start}

pub loop-i-init : goal.loop-i-init
loop-i-init c =
    let s = c.args.self.now in (
      left-none s.b s.k s.wide s.digits.now s.m c.args.bound (replicate 32 c.args.bound) (λ j h. get_or-replicate 32 j c.args.bound 0 (omega arith)),
      ruled_none s.b s.k s.wide s.digits.now s.m c.args.bound,
    )

-- a row that was taken: what is read of the digits, and what was lent of `left`
module _ (t : After-take_row) where
  abbrev i : ℕ
  i = t.loop-i.i

  abbrev columns : ℕ
  columns = t.args.self.now.wide * t.args.self.now.k

  abbrev lent : List ℕ
  lent = take t.args.self.now.wide t.loop-i.left

  lent-long : length lent ≡ t.args.self.now.wide
  lent-long = length-take-le t.args.self.now.wide t.loop-i.left (omega arith)

  read : take (i * columns + columns - i * columns) (drop (i * columns) t.args.self.now.digits.now) ≡ digits_at columns t.args.self.now.digits.now (i * columns)
  read = part-is columns (i * columns) t.args.self.now.digits.now

  so_far : LeftFor t.args.self.now.b t.args.self.now.k t.args.self.now.wide t.args.self.now.digits.now t.args.self.now.m t.args.bound i lent
  so_far = left-part t.args.self.now.b t.args.self.now.k t.args.self.now.wide t.args.self.now.digits.now t.args.self.now.m t.args.bound i t.loop-i.left t.loop-i.invariant.0

pub returns-in_default : goal.returns-in_default
returns-in_default c =
    let t = (goal.at.returns-in_default c).After-take_row in
    let s = c.args.self.now in
    let e = c.in_default.ensures in
    gives-number _ 8 _ (row-above s.b s.k s.wide s.digits.now s.m c.args.bound c.ranges.bound.fits s.sized.0 c.loop-i.i c.loop-i-test.true (lent t) (lent-long t) (so_far t)
    e.0 (omega (arith, lent-long t, e.1)) (ap (λ (xs : List ℤ). taken s.b s.k xs (lent t) e.0) (sym (read t)) ∙ e.2))

pub loop-i-preserved : goal.loop-i-preserved
loop-i-preserved c =
    let t = (goal.at.loop-i-preserved c).After-take_row in
    let s = c.args.self.now in
    let e = c.in-Some.ensures in
    let i = c.loop-i.i in
    let hi = c.loop-i-test.true in
    let few = c.ranges.bound.fits in (
      part-taken s.b s.k s.wide s.digits.now s.m c.args.bound few s.sized.0 i hi (lent t) (lent-long t) (so_far t) c.take_row.new.left (drop s.wide c.loop-i.left)
          (c.take_row.auto.left ∙ lent-long t)
          (λ j h. ap (λ (xs : List ℤ). taken s.b s.k xs (lent t) j) (sym (read t)) ∙ e.0 j (omega (arith, lent-long t))),
      c.both-ruled.ensures ∙ ap₂ ◌&&◌ c.loop-i.invariant.1
          (e.1 ∙ ap (λ (xs : List ℤ). all (length (lent t)) (λ j. follow_rule s.b (digits_at s.k xs (j * s.k)))) (read t) ∙ row_ruled s.b s.k s.wide s.digits.now s.m c.args.bound few s.sized.0 i hi (lent t) (lent-long t) (so_far t))
          ∙ sym (ruled_more s.b s.k s.wide s.digits.now s.m c.args.bound i),
    )

-- each column is short once all rows are taken, and `ruled` says whether their digits are the rule's
short : (c : After-loop-i) → let s = c.args.self.now in short_columns s.b s.k s.wide s.digits.now s.m c.args.bound ≡ true
short c =
    let s = c.args.self.now in
    left-all s.b s.k s.wide s.digits.now s.m c.args.bound c.loop-i.i c.loop-i.left (omega arith) c.loop-i.invariant.0

ruled_is : (c : After-loop-i) → let s = c.args.self.now in c.loop-i.ruled ≡ ruled_entries s.b s.k s.wide s.digits.now s.m
ruled_is c =
    let s = c.args.self.now in
    let end : c.loop-i.i ≡ s.m = omega arith in
    c.loop-i.invariant.1 ∙ ap (ruled_entries s.b s.k s.wide s.digits.now) end

pub returns-then-ruled : goal.returns-then-ruled
returns-then-ruled c =
    let l = (goal.at.returns-then-ruled c).After-loop-i in
    gives_later _ 8 _ 0 (short l) (gives_later _ 16 _ 0 (sym (ruled_is l) ∙ c.if-ruled.true) gives_none)

pub returns-else-ruled : goal.returns-else-ruled
returns-else-ruled c =
    let l = (goal.at.returns-else-ruled c).After-loop-i in
    gives_later _ 8 _ 16 (short l) (gives-number _ 16 _ (sym (ruled_is l) ∙ c.if-ruled.false))
