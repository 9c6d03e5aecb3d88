-- `turns::next_fold` meets its contract: what was found, with the counts after its answer.
use mathlib.Core.Path.{◌≡◌, refl, sym, ap, ◌∙◌}
use mathlib.Core.List.{List}
use Prim.Native.Nat.{ℕ}
use Rattle.std.specs.Prelude.{Option, Some, None, Result, Ok, Err}
use Rattle.settings.specs.declared.refused.Refusal.{Refusal}
use Rattle.settings.specs.Refusals.{numbered}
use Rattle.turns.specs.Turns.{Found, found, one_less, counts_after}
use Rattle.turns.proofs.Finding.{found-named, counted}
use Rattle.turns.proofs.next_fold.Goals as goal
use Rattle.turns.proofs.next_fold.Goals.{In-Ok-Some}

-- the counts after the code's answer, by its case
after-some : (W : List ℕ) (n : Result (Option ℕ) Refusal) (g : ℕ) → n ≡ Ok (Some g) → one_less W g ≡ counts_after (numbered n) W
unfolding counts_after
after-some W n g e = rw e refl

after-none : (W : List ℕ) (n : Result (Option ℕ) Refusal) → n ≡ Ok None → W ≡ counts_after (numbered n) W
unfolding counts_after
after-none W n e = rw e refl

after-refused : (W : List ℕ) (n : Result (Option ℕ) Refusal) (r : Refusal) → n ≡ Err r → W ≡ counts_after (numbered n) W
unfolding counts_after
after-refused W n r e = rw e refl

some-is : (c : In-Ok-Some) → c.find_next-next.result.next ≡ Ok (Some c.in-Ok-Some.group)
some-is c =
    let s : c.in-Ok-Some.field-0 ≡ Some c.in-Ok-Some.group = rw c.in-Ok-Some.is at c.in-Ok-Some.field-0-is in
    c.in-Ok-Some.is ∙ ap Ok s

pub one_less-left-requires : goal.one_less-left-requires
one_less-left-requires c =
    let f : (found c.args.weights c.args.waiting c.args.turn).answer ≡ Ok (Some c.in-Ok-Some.group) =
    sym (ap (λ (x : Found). x.answer) c.find_next-next.ensures) ∙ ap numbered (some-is (goal.at.one_less-left-requires c).In-Ok-Some) in
    let n = found-named c.args.weights c.args.waiting c.args.turn c.in-Ok-Some.group f in
    (n.group, n.waiting)

pub returns-in-Ok-Some : goal.returns-in-Ok-Some
returns-in-Ok-Some c =
    counted c.args.weights c.args.waiting c.args.turn _ _ _ c.find_next-next.ensures
    (c.one_less-left.ensures ∙ after-some c.args.waiting _ _ (some-is (goal.at.returns-in-Ok-Some c).In-Ok-Some))

pub returns-in-Ok-None : goal.returns-in-Ok-None
returns-in-Ok-None c =
    let s : c.in-Ok-None.field-0 ≡ None = rw c.in-Ok-None.is at c.in-Ok-None.field-0-is in
    counted c.args.weights c.args.waiting c.args.turn _ _ _ c.find_next-next.ensures (after-none c.args.waiting _ (c.in-Ok-None.is ∙ ap Ok s))

pub returns-in-Err : goal.returns-in-Err
returns-in-Err c = counted c.args.weights c.args.waiting c.args.turn _ _ _ c.find_next-next.ensures (after-refused c.args.waiting _ _ c.in-Err.is)
