-- `fold_gram::left_row` meets its contract: the first k numbers of e are those of the first k rows of C and the triangle.
use mathlib.Core.Path.{◌≡◌, sym, ◌∙◌, ap}
use Prim.Native.Nat.{◌+◌, ◌-◌, ◌*◌, ◌^◌, ◌<◌}
use native.Mathlib.Omega.{arith}
use lib.IntN.{ℤ, pos, ◌*ℤ◌}
use lib.ListN.{length, get_or, take, drop, length-drop}
use lib.Seq.{length-take-le}
use mir.Syntax.{w16, w64}
use mir.Val.{to_z, of_z}
use Rattle.integers.proofs.Lists.{filled-all}
use Rattle.integers.proofs.Words.{Held, read_back}
use Rattle.matrices.specs.Elements.{exactly}
use Rattle.matrices.proofs.Elements.{added-same}
use Rattle.matrices.proofs.Triangles.{triangular-more, cell_within}
use Rattle.small_rows.specs.Columns.{by_columns}
use Rattle.small_rows.proofs.Small.{within-part}
use Rattle.fold_gram.proofs.Factors.{scaled}
use Rattle.fold_gram.proofs.Folds.{left, left-more, left-size}
use Rattle.fold_gram.proofs.left_row.Goals as goal
use Rattle.fold_gram.proofs.left_row.Goals.{After-e-1, In-loop-k, Start}

-- the diagonal's entry of row k lies within d
on : (c : In-loop-k) → c.loop-k.from + c.loop-k.k < length c.args.d.now
on c =
    let l = c.loop-k in
    let s = c in
    omega (arith, l.invariant.0, s.requires.0, cell_within s.args.n l.k l.k c.loop-k-test.true (omega arith))

-- the first k numbers of e
front : (c : In-loop-k) → let l = c.loop-k in length (take l.k l.e) ≡ l.k
front c = let l = c.loop-k in length-take-le l.k l.e (omega (arith, l.invariant.1.long, c.loop-k-test.true))

-- the factor, and its product with the diagonal's entry
factor : (c : In-loop-k) →
    let v = by_columns c.args.q.now c.loop-k.k c.args.i in
    to_z w16 (of_z w16 v) ≡ v
factor c =
    let l = c.loop-k in
    let s = c in
    read_back w16 (by_columns s.args.q.now l.k s.args.i) (omega (arith, s.requires.2 (s.args.i * 512 + l.k)))

product-held : (c : In-loop-k) →
    let l = c.loop-k in
    let a = c.args in
    let v = by_columns a.q.now l.k a.i in
    let y = get_or a.d.now (l.from + l.k) (pos 0) in
    Held w64 (to_z w64 (of_z w64 (to_z w16 (of_z w16 v))) *ℤ to_z w64 (of_z w64 y)) (v *ℤ y)
product-held c =
    let l = c.loop-k in
    let s = c in
    let a = s.args in
    scaled (get_or a.d.now (l.from + l.k) (pos 0)) (s.requires.1 (l.from + l.k)) (by_columns a.q.now l.k a.i) (s.requires.2 (a.i * 512 + l.k))

pub add_row-requires : goal.add_row-requires
add_row-requires c =
    let t = (goal.at.add_row-requires c).In-loop-k in
    let l = t.loop-k in
    let s = c in
    let a = s.args in (
      length-take-le (l.from + l.k - l.from) (drop l.from a.d.now) (rw (length-drop l.from a.d.now) (omega (arith, on t))) ∙ omega arith ∙ sym (front t),
      within-part (2 ^ 31) l.from (l.from + l.k - l.from) a.d.now s.requires.1,
      left-size a.d.now a.q.now a.n a.i s.requires.3 s.requires.1 s.requires.2 l.k l.e l.invariant.1,
      rw (factor t) (s.requires.2 (a.i * 512 + l.k)),
    )

-- the turn, seen from after the row was added
abbrev turn : After-e-1 → In-loop-k
turn c = (goal.at.After-e-1 c).In-loop-k

pub bounds-d-to : goal.bounds-d-to
bounds-d-to c = on (turn c)

pub overflow_mul-e : goal.overflow_mul-e
overflow_mul-e c = (product-held (turn (goal.at.overflow_mul-e c).After-e-1)).fits

pub loop-k-preserved : goal.loop-k-preserved
loop-k-preserved c =
    let t = turn (goal.at.loop-k-preserved c).After-e-1 in
    let l = t.loop-k in
    let a = t.args in
    let part = take (l.from + l.k - l.from) (drop l.from a.d.now) in (
      omega (arith, l.invariant.0, triangular-more l.k),
      left-more a.d.now a.q.now a.n a.i l.k l.from l.e _ _ t.loop-k-test.true l.invariant.0 l.invariant.1
          (added-same exactly _ (λ x. by_columns a.q.now l.k a.i *ℤ (pos 2 *ℤ get_or part x (pos 0))) _ _ _ _
          (λ x h. ap (λ (z : ℤ). z *ℤ (pos 2 *ℤ get_or part x (pos 0))) (factor t)) c.add_row.ensures)
          (product-held t).read,
    )

pub returns : goal.returns
returns c =
    let l = c.loop-k in
    let a = c.args in
    let e : l.k ≡ a.n = omega (arith, l.invariant.1.within) in
    filled-all a.n (left a.d.now a.q.now a.i a.n) (pos 0) a.n l.e (omega arith) (rw e at l.invariant.1)
