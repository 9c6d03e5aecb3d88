-- `digit_rows::DigitRows::write_columns` meets its contract: the first i rows are written.
use mathlib.Core.Path.{◌≡◌, ◌∙◌, ap}
use Prim.Native.Nat.{ℕ, ◌+◌, ◌*◌, ◌≤◌}
use native.Mathlib.Omega.{arith}
use native.Mathlib.Nat.{add-mul, mul-le-mul_right}
use lib.IntN.{ℤ, pos}
use lib.ListN.{length}
use Rattle.integers.specs.Lists.{build}
use Rattle.matrices.proofs.Tables.{row_within, row-long, table-part-of, table-all}
use Rattle.digit_rows.specs.Rows.{read_at, place}
use Rattle.digit_rows.proofs.DigitRows.write_columns.Goals as goal
use Rattle.digit_rows.proofs.DigitRows.write_columns.Goals.{In-loop-i, Start}

-- the entry at (i, j) of what is written
abbrev entry : Start → ℕ → ℕ → ℤ
entry s i j =
    let a = s.args in
    read_at a.self.now.b a.self.now.k a.self.now.digits.now (place a.self.now.k a.self.now.wide i (a.from + j))

same_place : (x from j k : ℕ) → x + from * k + j * k ≡ x + (from + j) * k
same_place x from j k = omega (arith, add-mul from j k)

digits-inside : (c : In-loop-i) →
    let a = c.args in
    c.loop-i.i * (a.self.now.wide * a.self.now.k) + a.from * a.self.now.k + a.cols * a.self.now.k ≤ length a.self.now.digits.now
digits-inside c =
    let s = c in
    let a = s.args in
    omega (arith, a.self.now.sized.0, row_within a.self.now.m (a.self.now.wide * a.self.now.k) c.loop-i.i c.loop-i-test.true, mul-le-mul_right a.self.now.k s.requires.1, add-mul a.from a.cols a.self.now.k)

pub write_row-requires : goal.write_row-requires
write_row-requires c =
    let l = c in
    let s = c in
    let a = s.args in
    rw (row-long a.self.now.m a.cols l.loop-i.i l.loop-i.out l.loop-i.invariant.long c.loop-i-test.true) (omega (arith, digits-inside (goal.at.write_row-requires c).In-loop-i))

pub loop-i-preserved : goal.loop-i-preserved
loop-i-preserved c =
    let w = c in
    let l = c in
    let s = (goal.at.loop-i-preserved c).Start in
    let a = s.args in
    table-part-of (pos 0) a.self.now.m a.cols (entry s) l.loop-i.out l.loop-i.i _ (λ j. read_at a.self.now.b a.self.now.k a.self.now.digits.now (l.loop-i.i * (a.self.now.wide * a.self.now.k) + a.from * a.self.now.k + j * a.self.now.k)) w.loop-i-test.true
    (w.write_row.ensures ∙ ap (λ (n : ℕ). build n (λ j. read_at a.self.now.b a.self.now.k a.self.now.digits.now (l.loop-i.i * (a.self.now.wide * a.self.now.k) + a.from * a.self.now.k + j * a.self.now.k))) (row-long a.self.now.m a.cols l.loop-i.i l.loop-i.out l.loop-i.invariant.long w.loop-i-test.true))
    (λ j h. ap (read_at a.self.now.b a.self.now.k a.self.now.digits.now) (same_place (l.loop-i.i * (a.self.now.wide * a.self.now.k)) a.from j a.self.now.k)) l.loop-i.invariant

pub returns : goal.returns
returns c =
    let l = c in
    let s = (goal.at.returns c).Start in
    table-all (pos 0) s.args.self.now.m s.args.cols (entry s) l.loop-i.out l.loop-i.i (omega arith) l.loop-i.invariant
