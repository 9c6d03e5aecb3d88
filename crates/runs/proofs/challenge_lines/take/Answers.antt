-- `challenge_lines::take` meets its contract: refused because the line is no such record, refused by the fold, or taken.
use mathlib.Core.Path.{◌≡◌, sym, ◌∙◌, ap}
use mathlib.Core.List.{List, ◌++◌}
use Rattle.std.specs.Prelude.{Some}
use Prim.Native.Nat.{ℕ, ◌+◌, ◌*◌, ◌≤◌}
use native.Mathlib.Omega.{arith}
use lib.ListN.{length, take, drop, replicate}
use Rattle.text.specs.Fields.{record_of, read_ternary}
use Rattle.text.proofs.Fields.{answer_yes, answer_no}
use Rattle.lova.specs.Stored.{size_C}
use Rattle.lova.proofs.Rebuilding.{N-is}
use Rattle.chain.specs.declared.small_settings.SmallSetting.{SmallSetting}
use Rattle.chain.specs.Small.{numbers_in}
use Rattle.chain.specs.Nodes.{Node}
use Rattle.chain.specs.Chain.{Counts, leaf, tally, step, refuse, on_challenge, take_due, c_word}
use Rattle.chain.proofs.Small.{rebuilt-in, sizes-in}
use Rattle.copies.proofs.Blanks.{blank-long, back}
use Rattle.states.specs.Held.{part_A, node_in, counts_of, stage_of}
use Rattle.runs.proofs.FoldLines.{challenge-unread}
use Rattle.runs.proofs.challenge_lines.take.Goals as goal
use Rattle.runs.proofs.challenge_lines.take.Goals.{Else-not-read_ternary}

-- how many entries C has, as the code has it
module _ (s : SmallSetting) where
  abbrev size : ℕ
  size = s.accepted.setting.columns * s.accepted.setting.t

  size_is : size ≡ size_C (numbers_in s)
  size_is = ap (λ (x : ℕ). x * s.accepted.setting.t) (N-is s.accepted.setting (rebuilt-in s))

  C-high : size ≤ 64
  C-high = omega (arith, size_is, (sizes-in s).C-high)

  -- as many are lent
  C-long : length {A = ℕ} (take size (replicate 64 0)) ≡ size_C (numbers_in s)
  C-long = blank-long size 64 0 C-high ∙ size_is

pub overflow_mul-size : goal.overflow_mul-size
overflow_mul-size c = omega (arith, C-high c.args.small)

pub slice_bounds-c-end : goal.slice_bounds-c-end
slice_bounds-c-end c = C-high c.args.small

pub slice_bounds-read_ternary-end-2 : goal.slice_bounds-read_ternary-end-2
slice_bounds-read_ternary-end-2 c = sym (blank-long _ 64 0 (C-high c.args.small))

pub returns-then-not-read_ternary-clause-taken : goal.returns-then-not-read_ternary-clause-taken
unfolding stage_of take_due
returns-then-not-read_ternary-clause-taken c =
    let said = c.read_ternary.ensures ∙ ap (λ (n : ℕ). record_of read_ternary c_word n c.args.line.now) (C-long c.args.small) in
    c.refuse.ensures.whatever _ ∙ ap (refuse (counts_of c.args.run.now)) c.number.ensures ∙ sym (challenge-unread _ _ _ _ _ _ (answer_no _ _ _ said c.if-not-read_ternary.true))

pub slice_bounds-c-end-2 : goal.slice_bounds-c-end-2
slice_bounds-c-end-2 c = (back _ 64 0 _ (C-high c.args.small) c.read_ternary.auto.out).fits

pub slice_bounds-fold-end : goal.slice_bounds-fold-end
slice_bounds-fold-end c = sym (back _ 64 0 _ (C-high c.args.small) c.read_ternary.auto.out).long

-- the challenge that was read, as it is lent
module _ (c : Else-not-read_ternary) where
  abbrev C : List ℕ
  C = take (size c.args.small) (c.read_ternary.new.out ++ drop {A = ℕ} (size c.args.small) (replicate 64 0))

  found : record_of read_ternary c_word (size_C (numbers_in c.args.small)) c.args.line.now ≡ Some C
  found =
      ap (λ (n : ℕ). record_of read_ternary c_word n c.args.line.now) (sym (C-long c.args.small))
      ∙ answer_yes _ _ _ c.read_ternary.ensures c.if-not-read_ternary.false
      ∙ ap Some (sym (back _ 64 0 _ (C-high c.args.small) c.read_ternary.auto.out).same)

  -- so the line comes to what the challenge comes to
  on_found : (n : Counts) (A : List ℕ) (left right : Node) → let p = numbers_in c.args.small in
      on_challenge n p A left right (Some C) ≡ on_challenge n p A left right (record_of read_ternary c_word (size_C p) c.args.line.now)
  on_found n A left right = ap (on_challenge n (numbers_in c.args.small) A left right) (sym found)

pub returns-in-Err-clause-taken : goal.returns-in-Err-clause-taken
unfolding stage_of take_due
returns-in-Err-clause-taken c =
    let at = (goal.at.returns-in-Err-clause-taken c).Else-not-read_ternary in
    c.refuse-in-Err.ensures.whatever _ ∙ ap (refuse (counts_of c.args.run.now)) c.number-in-Err.ensures ∙ sym (c.in-Err.ensures (counts_of c.args.run.now)) ∙ on_found at _ _ _ _

pub returns-in-Ok-clause-taken : goal.returns-in-Ok-clause-taken
unfolding stage_of take_due
returns-in-Ok-clause-taken c =
    let p = numbers_in c.args.small in
    let r = c.args.run.now in
    let at = (goal.at.returns-in-Ok-clause-taken c).Else-not-read_ternary in
    let z = node_in p c.in-Ok.made.slot c.in-Ok.made.count in
    ap (λ (o : List ℕ). step (tally (r.line + 1) r.leaves (r.folds + 1)) (leaf p (part_A p c.args.store.now.a) z) o) c.put.ensures.1
    ∙ sym (c.in-Ok.ensures (counts_of r)) ∙ on_found at _ _ _ _
