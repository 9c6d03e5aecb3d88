-- `endings::test` meets its contract: what it tests stands at the beginning of the arrays.
use native.Mathlib.Omega.{arith}
use Rattle.chain.proofs.Small.{sizes-in}
use Rattle.driver.proofs.endings.test.Goals as goal

pub overflow_mul-size_a : goal.overflow_mul-size_a
overflow_mul-size_a c = omega (arith, (sizes-in c.args.small).A-high)

pub overflow_mul-size_t : goal.overflow_mul-size_t
overflow_mul-size_t c = omega (arith, (sizes-in c.args.small).T-high)

pub overflow_mul-size_d : goal.overflow_mul-size_d
overflow_mul-size_d c = omega (arith, (sizes-in c.args.small).D-high)

pub overflow_mul-size_s : goal.overflow_mul-size_s
overflow_mul-size_s c = omega (arith, (sizes-in c.args.small).S-high)

pub shared_ref_as_front-test_relation : goal.shared_ref_as_front-test_relation
shared_ref_as_front-test_relation c = (sizes-in c.args.small).A-high

pub shared_ref_as_front-test_relation-2 : goal.shared_ref_as_front-test_relation-2
shared_ref_as_front-test_relation-2 c = (sizes-in c.args.small).T-high

pub shared_ref_as_front-test_relation-3 : goal.shared_ref_as_front-test_relation-3
shared_ref_as_front-test_relation-3 c = (sizes-in c.args.small).D-high

pub shared_ref_as_front-test_relation-4 : goal.shared_ref_as_front-test_relation-4
shared_ref_as_front-test_relation-4 c = (sizes-in c.args.small).S-high
