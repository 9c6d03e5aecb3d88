-- `cross_products::write_products` meets its contract: the first i rows of `out` are written.
use mathlib.Core.Path.{◌≡◌, sym, ◌∙◌, ap}
use Prim.Native.Nat.{ℕ, ◌<◌, ◌+◌, ◌-◌, ◌*◌, ◌≤◌}
use native.Mathlib.Omega.{arith}
use native.Mathlib.Nat.{zero-mul}
use lib.IntN.{ℤ, pos, ◌*ℤ◌}
use lib.ListN.{length, get_or, take, drop}
use mir.Syntax.{w64}
use mir.Val.{to_z, of_z}
use mir.ValLaws.{to_z-of_z}
use Rattle.integers.specs.Lists.{build}
use Rattle.matrices.specs.Matrices.{Matrix}
use Rattle.matrices.proofs.Tables.{row_within, row-long, table_none, table-part-of, table-all}
use Rattle.cross_products.specs.Rows.{outer}
use Rattle.cross_products.proofs.write_products.Goals as goal
use Rattle.cross_products.proofs.write_products.Goals.{After-write_multiple-arg-1, In-loop-i, Start}

-- what is written
abbrev written : Start → Matrix
written c = outer c.args.x.now c.args.y.now

pub loop-i-init : goal.loop-i-init
loop-i-init c = table_none _ _ _ (written c) _ _ (zero-mul c.args.cols) c.requires.x_len.2

-- a turn's number is one of them
below : (c : In-loop-i) → c.loop-i.i < c.args.rows
below c = omega (arith, c.loop-i-test.true, c.requires.x_len.0)

-- row i lies within `out`
row : (c : In-loop-i) →
    let a = c.args in
    c.loop-i.i * a.cols + a.cols ≤ a.rows * a.cols
row c = let a = c.args in row_within a.rows a.cols c.loop-i.i (below c)

-- what stands at number i of x is read
read : (c : After-write_multiple-arg-1) →
    let l = c in
    let x = get_or l.args.x.now l.loop-i.i (pos 0) in
    to_z w64 (of_z w64 x) ≡ x
read c =
    let l = c in
    to_z-of_z w64 (get_or l.args.x.now l.loop-i.i (pos 0)) (record { sfits = c.write_multiple-arg-1.given })

-- a row of `out`, when it is lent
long : (c : In-loop-i) →
    let a = c.args in
    let l = c.loop-i in
    length (take (l.i * a.cols + a.cols - l.i * a.cols) (drop (l.i * a.cols) l.out)) ≡ a.cols
long c =
    let a = c.args in
    let l = c.loop-i in
    row-long a.rows a.cols l.i l.out l.invariant.long (below c)

pub write_multiple-requires : goal.write_multiple-requires
write_multiple-requires c =
    let t = (goal.at.write_multiple-requires c).In-loop-i in
    let l = c in
    let s = c in record {
      y_len = s.requires.x_len.1 ∙ sym (long t);
      small = λ j h. rw (read (goal.at.write_multiple-requires c).After-write_multiple-arg-1) (s.requires.by_index l.loop-i.i (below t) j (omega (arith, long t)));
    }

pub loop-i-preserved : goal.loop-i-preserved
loop-i-preserved c =
    let t = (goal.at.loop-i-preserved c).In-loop-i in
    let l = c in
    let a = l.args in
    let r = c.write_multiple in
    let f : ℕ → ℤ = λ j. to_z w64 (of_z w64 (get_or a.x.now l.loop-i.i (pos 0))) *ℤ get_or a.y.now j (pos 0) in
    table-part-of (pos 0) a.rows a.cols (written (goal.at.loop-i-preserved c).Start) l.loop-i.out l.loop-i.i r.new.row f
    (below t) (r.ensures ∙ ap (λ (n : ℕ). build n f) (long t))
    (λ j h. ap (λ (z : ℤ). z *ℤ get_or a.y.now j (pos 0)) (read (goal.at.loop-i-preserved c).After-write_multiple-arg-1)) l.loop-i.invariant

pub returns : goal.returns
returns c = table-all _ _ _ (written (goal.at.returns c).Start) _ c.loop-i.i (omega arith) c.loop-i.invariant
