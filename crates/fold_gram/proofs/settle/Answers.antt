-- `fold_gram::settle` meets its contract: the first j pairs are at their means.
use mathlib.Core.Path.{◌≡◌, ◌∙◌, ap₂}
use Prim.Native.Nat.{◌+◌, ◌*◌, ◌^◌, ◌<◌, ◌≤◌}
use native.Mathlib.Omega.{arith}
use lib.Arith.{digits_lt}
use lib.IntN.{pos, nat_abs, ◌+ℤ◌}
use lib.ListN.{length}
use lib.Signed.{quot_z}
use mir.Syntax.{w64}
use mir.Val.{to_z, of_z}
use Rattle.integers.proofs.Sizes.{nat_abs-+}
use Rattle.integers.proofs.Words.{Held, read_back, plus}
use Rattle.matrices.specs.Tables.{signed}
use Rattle.fold_gram.specs.Halves.{mean}
use Rattle.fold_gram.proofs.Factors.{halved}
use Rattle.fold_gram.proofs.Settling.{settled-more, settled-all}
use Rattle.fold_gram.proofs.settle.Goals as goal
use Rattle.fold_gram.proofs.settle.Goals.{In-loop-j}

-- the two places of a pair
places : (c : In-loop-j) →
    let a = c.args in
    let l = c.loop-j in
    (a.i * a.t + l.j < length l.out) × (l.j * a.t + a.i < length l.out)
places c =
    let s = c in
    let a = s.args in
    let j = c.loop-j.j in
    let h = c.loop-j.invariant.long ∙ s.requires.1 in (
      omega (arith, h, digits_lt {q = a.i} {m = a.i + 1} {r = j} {c = a.t} (omega arith) (omega (arith, s.requires.0, c.loop-j-test.true))),
      omega (arith, h, digits_lt {q = j} {m = a.i + 1} {r = a.i} {c = a.t} (omega (arith, c.loop-j-test.true)) s.requires.0),
    )

-- the two numbers of a pair, as they were and as the machine has their sum and its half
low : (c : In-loop-j) →
    let a = c.args in
    signed a.t c.loop-j.out a.i c.loop-j.j ≡ signed a.t a.out.now a.i c.loop-j.j
low c =
    let s = c in
    c.loop-j.invariant.others s.args.i c.loop-j.j (omega (arith, s.requires.0, c.loop-j-test.true)) (λ e. omega arith) (λ e. omega arith)

high : (c : In-loop-j) →
    let a = c.args in
    signed a.t c.loop-j.out c.loop-j.j a.i ≡ signed a.t a.out.now c.loop-j.j a.i
high c =
    let s = c in
    c.loop-j.invariant.others c.loop-j.j s.args.i s.requires.0 (λ e. omega arith) (λ e. omega arith)

sum-held : (c : In-loop-j) →
    let a = c.args in
    let x = signed a.t c.loop-j.out a.i c.loop-j.j in
    let y = signed a.t c.loop-j.out c.loop-j.j a.i in
    Held w64 (to_z w64 (of_z w64 x) +ℤ to_z w64 (of_z w64 y)) (x +ℤ y)
sum-held c =
    let s = c in
    let a = s.args in
    let j = c.loop-j.j in
    let x = signed a.t c.loop-j.out a.i j in
    let y = signed a.t c.loop-j.out j a.i in
    let hx : nat_abs x ≤ 2 ^ 60 = rw (low c) (s.requires.2 (a.i * a.t + j)) in
    let hy : nat_abs y ≤ 2 ^ 60 = rw (high c) (s.requires.2 (j * a.t + a.i)) in
    plus x y (read_back w64 x (omega arith)) (read_back w64 y (omega arith)) (omega arith) (omega arith)

mean-held : (c : In-loop-j) →
    let a = c.args in
    let x = signed a.t c.loop-j.out a.i c.loop-j.j in
    let y = signed a.t c.loop-j.out c.loop-j.j a.i in
    Held w64 (quot_z (to_z w64 (of_z w64 (to_z w64 (of_z w64 x) +ℤ to_z w64 (of_z w64 y)))) (pos 2)) (mean (signed a.t a.out.now) a.i c.loop-j.j)
mean-held c =
    let s = c in
    let a = s.args in
    let j = c.loop-j.j in
    let x = signed a.t a.out.now a.i j in
    let y = signed a.t a.out.now j a.i in
    halved (x +ℤ y) ((sum-held c).read ∙ ap₂ ◌+ℤ◌ (low c) (high c))
    (omega (arith, nat_abs-+ x y, s.requires.2 (a.i * a.t + j), s.requires.2 (j * a.t + a.i)))

pub loop-j-preserved : goal.loop-j-preserved
loop-j-preserved c =
    let t = (goal.at.loop-j-preserved c).In-loop-j in
    let s = c in
    let a = s.args in
    settled-more a.t a.i a.out.now s.requires.1 s.requires.0 t.loop-j.j t.loop-j.out _ t.loop-j-test.true (mean-held t).read t.loop-j.invariant

pub returns : goal.returns
returns c =
    let s = c in
    settled-all s.args.t s.args.i s.args.out.now s.requires.1 s.requires.0 c.loop-j.j c.loop-j.out c.loop-j-test.false c.loop-j.invariant

-- and after the last pair
pub returns-2 : goal.returns-2
returns-2 c =
    let t = (goal.at.returns-2 c).In-loop-j in
    let s = c in
    let a = s.args in
    settled-all a.t a.i a.out.now s.requires.1 s.requires.0 (t.loop-j.j + 1) _ (omega arith)
    (settled-more a.t a.i a.out.now s.requires.1 s.requires.0 t.loop-j.j t.loop-j.out _ (omega arith) (mean-held t).read t.loop-j.invariant)
