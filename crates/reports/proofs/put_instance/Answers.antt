-- `reports::put_instance` meets its contract: T, then D, then the leaf count, then the line feed.
use mathlib.Core.Path.{◌∙◌}
use native.Mathlib.Omega.{arith}
use lib.ListN.{length-set}
use Rattle.reports.proofs.Instances.{instance-put}
use Rattle.reports.proofs.put_instance.Goals as goal

pub shape_of-out : goal.shape_of-out
shape_of-out c =
    let p = c.put_u64s-after_t in
    let q = c.put_i64s-after_d in
    let r = c.put_number-after_leaves in
    length-set r.new.buf r.result 10 ∙ r.auto.buf ∙ q.auto.buf ∙ p.auto.buf

pub returns : goal.returns
returns c =
    let s = c in
    let p = c.put_u64s-after_t in
    let q = c.put_i64s-after_d in
    let r = c.put_number-after_leaves in
    let a = s.args in
    let put = instance-put a.t.now a.d.now a.leaves a.out.now p.new.buf q.new.buf r.new.buf a.at p.result q.result r.result
    (omega (arith, s.requires, p.ensures.0, p.ensures.2, q.ensures.0, q.ensures.2, r.ensures.0, r.ensures.2))
    p.ensures.0 p.ensures.1 q.ensures.0 q.ensures.1 r.ensures.0 r.ensures.1 in
    (put.0, put.1, omega (arith, p.ensures.2, q.ensures.2, r.ensures.2))
