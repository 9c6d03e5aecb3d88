-- `Challenge::decode` meets its contract: the first j columns of the challenge stand in q.
use Rattle.std.proofs.Common.{◌≡◌, ℕ, ◌+◌, ◌*◌, ◌≤◌, nat_abs, length, arith}
use Rattle.challenges.specs.Challenges.{rows_of, folded}
use Rattle.challenges.proofs.Columns.{column-more}
use Rattle.challenges.proofs.Sums.{sums-size}
use Rattle.challenges.proofs.Challenge.decode.Goals as goal

pub loop-j-init : goal.loop-j-init
loop-j-init c = (λ i j hi hj. absurd (omega arith), c.requires.2)

pub loop-j-preserved : goal.loop-j-preserved
loop-j-preserved c =
    let a = c.args.self in
    let j = c.loop-j.j in
    let room : j * 512 + 512 ≤ length c.loop-j.q = omega (arith, c.loop-j-test.true, c.requires.1, c.loop-j.auto.q) in
    let small : (k : ℕ) → nat_abs (folded a k j) ≤ 16 = λ k. omega (arith, a.few, sums-size a.left a.block a.columns j a.bytes.now a.copies k a.some) in
    column-more (rows_of a) j (folded a) c.loop-j.q _ c.requires.0 room c.decode_column.ensures small c.loop-j.invariant.0 c.loop-j.invariant.1

pub returns : goal.returns
returns c =
    let e : c.loop-j.j ≡ c.args.self.columns = omega arith in
    rw e at c.loop-j.invariant
