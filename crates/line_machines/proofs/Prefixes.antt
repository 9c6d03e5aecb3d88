-- A program that stops after n lines at the latest looks at no more bytes than n lines and one byte have.
use mathlib.Core.Path.{◌≡◌, refl, sym, ◌∙◌, ap}
use mathlib.Core.Bool.{true}
use mathlib.Core.List.{List, [], ◌∷◌, ◌++◌}
use Prim.Native.Nat.{ℕ, zero, suc, ◌+◌, ◌*◌, ◌≤◌, ◌<◌}
use native.Mathlib.Omega.{arith}
use native.Mathlib.Nat.{suc-mul}
use lib.ListN.{length, drop, length-drop}
use lib.Seq.{drop-append-le}
use Rattle.line_machines.specs.Machines.{Step, Machine, Stops, longest_line, line_step, bytewise}
use Rattle.line_machines.specs.Cuts.{cut_of}
use Rattle.line_machines.proofs.Bytes.{any_input}
use Rattle.line_machines.proofs.Cutting.{cut-same, cut-ends, line-cut}

-- every line comes to the same, and stops the program
pub record Halts {S : Type 0} (M : Machine S) (s : S) : Type 0 where
  pub step : Step S
  pub same_line : (line : List ℕ) → M.on_line s line ≡ step
  pub same_bad : M.on_bad s ≡ step
  pub stopped : M.stopped step.state ≡ true

-- after n lines, whatever they are, every further line does
abbrev pub HaltsAfter : {S : Type 0} (M : Machine S) → ℕ → S → Type 0
HaltsAfter M zero s = Halts M s
HaltsAfter M (suc n) s = (line : List ℕ) → HaltsAfter M n (line_step M s line).state

module _ {S : Type 0} (M : Machine S) (stops : Stops M) where
  -- bytes that are enough for n lines and one byte decide what is printed
  pub enough : (n : ℕ) (s : S) → HaltsAfter M n s → (xs ys : List ℕ) → n * (longest_line + 1) < length xs
      → bytewise M (record { state = s; pending = [] }) (xs ++ ys) ≡ bytewise M (record { state = s; pending = [] }) xs
  enough zero s h [] ys l = absurd (omega arith)
  enough zero s h (x ∷ xs) ys l =
      any_input M stops s h.step h.same_line h.same_bad h.stopped x (xs ++ ys)
      ∙ sym (any_input M stops s h.step h.same_line h.same_bad h.stopped x xs)
  enough (suc n) s h xs ys l =
      let more : suc n * (longest_line + 1) ≡ n * (longest_line + 1) + (longest_line + 1) = suc-mul n (longest_line + 1) in
      let c = cut_of [] xs in
      let e = cut-ends xs [] (omega arith) (omega (arith, l, more)) in
      let used : c.used ≤ longest_line + 1 = omega (arith, e.1) in
      let within : c.used ≤ length xs = omega (arith, l, more, used) in
      let left : n * (longest_line + 1) < length (drop c.used xs) = rw length-drop (omega (arith, l, more, used)) in
      line-cut M s (xs ++ ys) c (sym (cut-same [] xs ys e.0)) e.0
      ∙ ap (λ (rest : List ℕ). (line_step M s c.pending).output ++ bytewise M (record { state = (line_step M s c.pending).state; pending = [] }) rest) (drop-append-le c.used xs ys within)
      ∙ ap (λ (o : List ℕ). (line_step M s c.pending).output ++ o) (enough n (line_step M s c.pending).state (h c.pending) (drop c.used xs) ys left)
      ∙ sym (line-cut M s xs c refl e.0)
