-- What is still to come after each line.
use mathlib.Core.Path.{◌≡◌, refl, sym, ◌∙◌, ap}
use mathlib.Core.List.{List, ◌++◌, append_assoc, append-nil}
use Prim.Native.Nat.{ℕ, suc, ◌+◌, ◌-◌, ◌≤◌, ◌<◌}
use native.Mathlib.Omega.{arith}
use lib.ListN.{length, take, length-append}
use lib.Seq.{length-take-le, take-append-le, take-append-add}
use Rattle.text.specs.Lines.{tabbed, joined, line_of}
use Rattle.chain.specs.Reports.{refused_line}
use Rattle.loads.specs.Files.{param_text, matrix_text, witness_text, challenge_text, pairs_text, chain_file, after_A, after_S, after_C}
use Rattle.load_texts.specs.Texts.{parameters_for, longest_text}
use Rattle.load_files.specs.Pending.{to_come, Puts}
use Rattle.load_files.specs.declared.Load.{Load}
use Rattle.load_files.specs.declared.Pending.{Pending}
use Rattle.load_files.specs.declared.Pending.TheVariants as Dues

-- a text is written from `at` on, and r is still to come then
module _ (q r : Pending) (at to : ℕ) (d e text : List ℕ) where
  text-put : take to e ≡ take at d ++ text → at < to → to ≤ length e → to_come q ≡ text ++ to_come r → Puts q r at to d e
  text-put put more room comes = record {
    bytes = rw (put, comes) (append_assoc (take at d) text (to_come r));
    within = room;
    further = λ o. more;
  }

  -- it is a line of a file
  pub line_put : at + longest_text ≤ length d → length e ≡ length d → take to e ≡ take at d ++ text → (at < to) × (to ≤ at + longest_text)
      → to_come q ≡ text ++ to_come r → Puts q r at to d e
  line_put room kept put short = text-put put short.0 (omega (arith, room, kept, short))

-- ---- what comes, from each line on: its text, and what comes after it

module _ (q : Pending) (l : Load) where
  abbrev after : ℕ → Load
  after s = record { setting = l.setting; left = l.left; state = s }

  pub param-comes : q ≡ Dues.Param l → to_come q ≡ param_text (parameters_for l.setting) ++ to_come (Dues.Matrix l)
  unfolding to_come chain_file
  param-comes is = let e : suc l.left - 1 ≡ l.left = omega arith in rw (is, e) refl

  -- s is the state after its draws
  module _ (s : ℕ) where
    pub matrix-comes : q ≡ Dues.Matrix l → s ≡ after_A (parameters_for l.setting) l.state
        → to_come q ≡ matrix_text (parameters_for l.setting) l.state ++ to_come (Dues.First (after s))
    unfolding to_come
    matrix-comes is e = rw (is, e) refl

    pub leaf-comes : q ≡ Dues.Leaf l → s ≡ after_S (parameters_for l.setting) l.state
        → to_come q ≡ witness_text (parameters_for l.setting) l.state ++ to_come (Dues.Challenge (after s))
    unfolding to_come pairs_text
    leaf-comes is e = rw (is, e) refl

    -- pairs come after it
    module _ (r : Pending) (pairs : to_come r ≡ pairs_text (parameters_for l.setting) l.left s) where
      pub first-comes : q ≡ Dues.First l → s ≡ after_S (parameters_for l.setting) l.state
          → to_come q ≡ witness_text (parameters_for l.setting) l.state ++ to_come r
      unfolding to_come
      first-comes is e = rw (is, pairs, e) refl

      pub challenge-comes : q ≡ Dues.Challenge l → s ≡ after_C (parameters_for l.setting) l.state
          → to_come q ≡ challenge_text (parameters_for l.setting) l.state ++ to_come r
      unfolding to_come
      challenge-comes is e = rw (is, pairs, e) refl

-- ---- a refusal, which is written to the part of the buffer from `at` on

refusal-some : (line number : ℕ) → 0 < length (refused_line line number)
unfolding refused_line line_of joined tabbed
refusal-some line number = simp length-append (omega arith)

pub refusal-put : (q : Pending) (d ys rest : List ℕ) (line number at r : ℕ) → q ≡ Dues.Refusal line number → at ≤ length d
    → (r ≤ length ys) × (take r ys ≡ refused_line line number) → Puts q Dues.Nothing at (at + r) d (take at d ++ (ys ++ rest))
unfolding to_come
refusal-put q d ys rest line number at r is low written =
    text-put q Dues.Nothing at (at + r) d (take at d ++ (ys ++ rest)) (refused_line line number)
    (ap (λ (k : ℕ). take (k + r) (take at d ++ (ys ++ rest))) (sym begun)
    ∙ take-append-add (take at d) (ys ++ rest) r
    ∙ ap (λ (s : List ℕ). take at d ++ s) (take-append-le r ys rest written.0 ∙ written.1))
    (omega (arith, long, refusal-some line number))
    (rw (length-append, length-append) (omega (arith, begun, written.0)))
    (rw is (sym (append-nil (refused_line line number))))
  where
    begun : length (take at d) ≡ at
    begun = length-take-le at d low

    long : r ≡ length (refused_line line number)
    long = sym (length-take-le r ys written.0) ∙ ap length written.1
