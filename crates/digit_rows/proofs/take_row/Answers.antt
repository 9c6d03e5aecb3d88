-- `digit_rows::take_row` meets its contract: the squares of the first j entries are taken, and their digits tested.
use mathlib.Core.Path.{◌≡◌, refl, sym, ◌∙◌, ap, ap₂, subst}
use mathlib.Core.Bool.{Bool, not, ◌&&◌}
use mathlib.Core.List.{List}
use Prim.Native.Nat.{ℕ, ◌*◌, ◌<◌}
use native.Mathlib.Omega.{arith}
use borrow.Author.Count.{below_more}
use lib.Dec.{T}
use lib.IntN.{ℤ}
use lib.ListN.{length}
use lib.Seq.{get_or-set_other, get_or-set_same}
use Rattle.std.specs.Prelude.{is_some}
use Rattle.integers.specs.Tests.{all}
use Rattle.integers.proofs.Tests.{all_none, all_more, all_elim, all-fails}
use Rattle.matrices.specs.Lengths.{less_square}
use Rattle.digit_entries.specs.Entries.{entry_of, limit, clamped, follow_rule}
use Rattle.digit_entries.proofs.Clamped.{read-clamped}
use Rattle.digit_rows.specs.Rows.{digits_at, taken}
use Rattle.digit_rows.proofs.Blocks.{part-is}
use Rattle.digit_rows.proofs.Rows.{rest_of, was_within, was_above}
use Rattle.digit_rows.proofs.take_row.Goals as goal

pub loop-j-init : goal.loop-j-init
loop-j-init c = record { squares = λ i h. absurd (omega arith); others = λ i h. refl; short = sym (all_none _); rule = sym (all_none _) }

pub loop-j-preserved : goal.loop-j-preserved
loop-j-preserved c =
    let a = c.args in
    let l = c.loop-j in
    let j = l.j in
    let within : j < length l.left = omega arith in
    let read = read-clamped _ c.entry-x.result c.entry-x.ensures ∙ ap (λ (ds : List ℤ). clamped limit (entry_of a.b ds)) (part-is a.k (j * a.k) a.row.now) in
    let taken-is : c.take_square-next.result ≡ taken a.b a.k a.row.now a.left.now j =
    c.take_square-next.ensures ∙ ap₂ less_square (l.invariant.others j (omega arith)) read in record {
      squares = below_more _ _
          (λ i h. get_or-set_other l.left j i _ 0 (λ e. omega arith) ∙ l.invariant.squares i h)
          (get_or-set_same l.left j _ 0 within ∙ c.unwrap_or.ensures ∙ ap rest_of taken-is);
      others = λ i h. get_or-set_other l.left j i _ 0 (λ e. omega arith) ∙ l.invariant.others i (omega arith);
      short = c.both-within.ensures ∙ ap₂ ◌&&◌ l.invariant.short (c.is_some-short.ensures ∙ ap is_some taken-is) ∙ sym (all_more j (λ i. is_some (taken a.b a.k a.row.now a.left.now i)));
      rule = c.both-ruled.ensures ∙ ap₂ ◌&&◌ l.invariant.rule (c.follow_rule.ensures ∙ ap (follow_rule a.b) (part-is a.k (j * a.k) a.row.now)) ∙ sym (all_more j (λ i. follow_rule a.b (digits_at a.k a.row.now (i * a.k))));
    }

pub returns-then-within : goal.returns-then-within
returns-then-within c =
    let a = c.args in
    let l = c.loop-j in
    let test = λ (i : ℕ). is_some (taken a.b a.k a.row.now a.left.now i) in
    let end : l.j ≡ length a.left.now = omega arith in
    let each = all_elim l.j test (subst T (sym c.if-within.true ∙ l.invariant.short) tt) in (
      (λ j h. was_within (taken a.b a.k a.row.now a.left.now j) _ (each j (omega arith)) (l.invariant.squares j (omega arith))),
      l.invariant.rule ∙ ap (λ (n : ℕ). all n (λ i. follow_rule a.b (digits_at a.k a.row.now (i * a.k)))) end,
    )

pub returns-else-within : goal.returns-else-within
returns-else-within c =
    let a = c.args in
    let l = c.loop-j in
    let test = λ (i : ℕ). is_some (taken a.b a.k a.row.now a.left.now i) in
    let one = all-fails l.j test (subst (λ (b : Bool). T (not b)) (sym c.if-within.false ∙ l.invariant.short) tt) in
    (one.0, omega (arith, one.1), was_above (taken a.b a.k a.row.now a.left.now one.0) one.2)
