-- What comes of a part of a chunk, from where it was cut.
use borrow.Author.Tests.{not-true, not-false}
use mathlib.Core.Path.{◌≡◌, refl, sym, ◌∙◌, ap, subst}
use mathlib.Core.Bool.{Bool, not, true, false, cond}
use mathlib.Core.List.{List, [], ◌∷◌}
use Prim.Native.Nat.{ℕ, ◌-◌}
use native.Mathlib.Omega.{arith}
use lib.ListN.{length, take, drop, length-drop, take-append-drop}
use lib.Seq.{take_all}
use Rattle.line_machines.specs.Machines.{Feeding, Fed, ended, feed_all, feed_output}
use Rattle.line_machines.specs.Cuts.{cut_to, cut_of}
use Rattle.line_machines.specs.declared.Cut.{Cut}
use Rattle.line_machines.proofs.Bytes.{feed_append}
use Rattle.line_machines.proofs.Cutting.{Feeds, cut_feeds}
use Rattle.chain.specs.Chain.{State, Step, take_line, chain_machine}

abbrev feeding : State → List ℕ → Feeding State
feeding s line = record { state = s; pending = line }

module _ (s : State) (before line chunk : List ℕ) (r : Cut) (e : cut_to r.used (take r.length line) r.ended ≡ cut_of before chunk) where
  -- the bytes up to the cut
  fed : Feeds chain_machine s before chunk (cut_to r.used (take r.length line) r.ended)
  fed = subst (Feeds chain_machine s before chunk) (sym e) (cut_feeds chain_machine s chunk before)

  -- what comes of the cut, by whether the line has ended
  abbrev after : Bool → Fed State
  after b = cond b (ended (take_line s (take r.length line))) (record { feeding = feeding s (take r.length line); output = [] })

  -- the line goes on
  module _ (h : not r.ended ≡ true) where
    pub goes_on : feeding s (take r.length line) ≡ feed_all chain_machine (feeding s before) (take r.used chunk)
    goes_on = sym (fed.0 ∙ ap (λ (b : Bool). (after b).feeding) (not-true r.ended h))

    pub no_output : ◌≡◌ {A = List ℕ} [] (feed_output chain_machine (feeding s before) (take r.used chunk))
    no_output = sym (fed.1 ∙ ap (λ (b : Bool). (after b).output) (not-true r.ended h))

  -- the line has ended and is taken
  module _ (h : not r.ended ≡ false) (t : Step) (q : t ≡ take_line s (take r.length line)) where
    pub line-ends : feeding t.state [] ≡ feed_all chain_machine (feeding s before) (take r.used chunk)
    line-ends = ap (λ (s : Step). (ended s).feeding) q ∙ sym (fed.0 ∙ ap (λ (b : Bool). (after b).feeding) (not-false r.ended h))

    pub line-output : t.output ≡ feed_output chain_machine (feeding s before) (take r.used chunk)
    line-output = ap (λ (s : Step). s.output) q ∙ sym (fed.1 ∙ ap (λ (b : Bool). (after b).output) (not-false r.ended h))

-- what is left of a chunk after n bytes, as the code has it
module _ (n : ℕ) (chunk : List ℕ) where
  pub rest-is : take (length chunk - n) (drop n chunk) ≡ drop n chunk
  rest-is = take_all (length chunk - n) (drop n chunk) (rw length-drop (omega arith))

  pub rest-long : length (take (length chunk - n) (drop n chunk)) ≡ length chunk - n
  rest-long = ap length rest-is ∙ rw length-drop refl

-- no byte is left
pub rest_done : (f : Feeding State) (chunk : List ℕ) → length chunk ≡ 0 → f ≡ feed_all chain_machine f chunk
unfolding feed_all
rest_done f [] e = refl
rest_done f (x ∷ chunk) e = absurd (omega arith)

-- a part of a chunk, and then the rest of it
pub part_and_rest : (f g : Feeding State) (n : ℕ) (chunk : List ℕ) → g ≡ feed_all chain_machine f (take n chunk)
    → feed_all chain_machine g (drop n chunk) ≡ feed_all chain_machine f chunk
part_and_rest f g n chunk e =
    ap (λ (x : Feeding State). feed_all chain_machine x (drop n chunk)) e
    ∙ sym (feed_append chain_machine f (take n chunk) (drop n chunk))
    ∙ ap (feed_all chain_machine f) (take-append-drop n chunk)
