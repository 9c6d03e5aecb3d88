-- `public_matrices::take` meets its contract: unread, or A copied from what was read.
use mathlib.Core.Path.{sym, ◌∙◌, ap}
use mathlib.Core.List.{List}
use Prim.Native.Nat.{ℕ, ◌*◌}
use native.Mathlib.Omega.{arith}
use lib.ListN.{length}
use lib.Seq.{take_at}
use Rattle.text.specs.Fields.{record_of, read_u64}
use Rattle.text.proofs.Fields.{answer_yes, answer_no}
use Rattle.chain.specs.Small.{numbers_in}
use Rattle.chain.specs.Chain.{a_word, first, next, refuse, take_due}
use Rattle.chain.proofs.Small.{sizes-in}
use Rattle.copies.proofs.Blanks.{blank-long, back}
use Rattle.states.specs.Held.{stage_of, counts_of}
use Rattle.runs.proofs.Matrices.{matrix-unread, matrix-taken}
use Rattle.runs.proofs.public_matrices.take.Goals as goal

pub overflow_mul-size : goal.overflow_mul-size
overflow_mul-size c = omega (arith, (sizes-in c.args.small).A-high)

pub slice_bounds-read-end : goal.slice_bounds-read-end
slice_bounds-read-end c = (sizes-in c.args.small).A-high

pub slice_bounds-read_u64s-end-2 : goal.slice_bounds-read_u64s-end-2
slice_bounds-read_u64s-end-2 c = sym (blank-long _ 128 0 (sizes-in c.args.small).A-high)

pub slice_bounds-copy_from_slice-end : goal.slice_bounds-copy_from_slice-end
slice_bounds-copy_from_slice-end c = omega (arith, (sizes-in c.args.small).A-high)

pub returns-then-not-read_u64s-clause-whatever : goal.returns-then-not-read_u64s-clause-whatever
unfolding stage_of take_due
returns-then-not-read_u64s-clause-whatever c =
    let p = numbers_in c.args.small in
    let said = c.read_u64s.ensures ∙ ap (λ (n : ℕ). record_of read_u64 a_word n c.args.line.now) (blank-long (p.n * p.m) 128 0 (sizes-in c.args.small).A-high) in
    λ m. c.refuse.ensures.whatever _ ∙ ap (refuse (counts_of c.args.run.now)) c.number.ensures ∙ sym (matrix-unread (counts_of c.args.run.now) p _ (answer_no _ _ _ said c.if-not-read_u64s.true))

pub returns-clause-whatever : goal.returns-clause-whatever
unfolding stage_of take_due
returns-clause-whatever c =
    let p = numbers_in c.args.small in
    let high = (sizes-in c.args.small).A-high in
    let read = c.read_u64s in
    let said = read.ensures ∙ ap (λ (n : ℕ). record_of read_u64 a_word n c.args.line.now) (blank-long (p.n * p.m) 128 0 high) in
    let copied = c.copy_from_slice.ensures.after ∙ (back _ 128 0 _ high read.auto.out).same in
    let long = ap length copied ∙ read.auto.out ∙ blank-long _ 128 0 high in
    let same = take_at c.copy_from_slice.new.self _ (p.n * p.m) long ∙ copied in
    λ m. ap (λ (A : List ℕ). next (counts_of c.args.run.now) (first p A)) same ∙ sym (matrix-taken _ p _ _ (answer_yes _ _ _ said c.if-not-read_u64s.false))
