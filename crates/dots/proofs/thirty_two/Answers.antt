-- `dots::thirty_two` meets its contract: `sum` is that of the first k products.
use Rattle.std.proofs.Common.{◌+◌, sym, ◌+ℤ◌, to_z, of_z, w32, arith}
use Rattle.integers.proofs.Sums.{sum-none_yet}
use Rattle.integers.proofs.Words.{Held}
use Rattle.dots.specs.Dots.{dots}
use Rattle.dots.proofs.Trees.{one_at, dots-next}
use Rattle.dots.proofs.thirty_two.Goals as goal
use Rattle.dots.proofs.thirty_two.Goals.{After-product-sum}

pub loop-k-init : goal.loop-k-init
loop-k-init c = sym (sum-none_yet _)

-- the sum after a turn
turn : (c : After-product-sum) →
    let a = c.args in
    Held w32 (to_z w32 c.loop-k.sum-bits +ℤ to_z w32 (of_z w32 c.product-sum.result)) (dots a.p.now a.q.now a.x a.y (c.loop-k.k + 1))
turn c =
    let a = c.args in
    let k = c.loop-k.k in
    dots-next a.p.now a.q.now a.x a.y 32 k c.loop-k-test.true c.requires.fits c.loop-k.invariant
    (one_at a.p.now a.q.now (a.x + k) (a.y + k) (record { sfits = c.product-arg-1.given }) (record { sfits = c.product-arg-in-loop-k-1.given }) c.product-sum.ensures (omega arith) (omega arith))

pub overflow_add-sum : goal.overflow_add-sum
overflow_add-sum c = (turn c).fits

pub loop-k-preserved : goal.loop-k-preserved
loop-k-preserved c = (turn c).read
