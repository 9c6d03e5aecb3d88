-- What a line comes to, by what is due.
use mathlib.Core.Path.{◌≡◌, refl, sym, ◌∙◌, ap}
use mathlib.Core.List.{List, []}
use Prim.Native.Nat.{ℕ, ◌≤◌, ◌<◌}
use borrow.Author.Tests.{le-leb, lt-leb}
use lib.ListN.{length}
use Rattle.line_machines.specs.Machines.{line_step}
use Rattle.chain.specs.Chain.{State, Step, take_due, take_line, bad_line}
use Rattle.states.specs.Held.{stage_of, state_of, step_of, line_due}
use Rattle.states.specs.declared.Due.{Due}
use Rattle.states.specs.declared.Due.TheVariants as Dues
use Rattle.states.specs.declared.runs.Run.{Run}
use Rattle.states.specs.declared.stores.Store.{Store}

module _ (s : State) (line : List ℕ) where
  line-short : length line ≤ 4095 → take_line s line ≡ take_due s.counts s.stage line
  unfolding line_step
  line-short h = rw (le-leb (length line) 4095 h) refl

  pub line_bad : 4095 < length line → take_line s line ≡ bad_line s.counts s.stage
  unfolding line_step
  line_bad h = rw (lt-leb (length line) 4095 h) refl

module _ (r : Run) (m : Store) (line : List ℕ) (short : length line ≤ 4095) where
  -- a line of the record that is due
  pub take-due : (due : Due) → r.due ≡ due → (s : Step) → s ≡ line_due due r m line → s ≡ take_line (state_of r m) line
  take-due due e s come = come ∙ ap (λ (d : Due). line_due d r m line) (sym e) ∙ sym (line-short (state_of r m) line short)

  nothing-due : r.due ≡ Dues.Nothing → step_of r m [] ≡ line_due r.due r m line
  unfolding stage_of take_due
  nothing-due e = rw e refl

  pub take-nothing : r.due ≡ Dues.Nothing → step_of r m [] ≡ take_line (state_of r m) line
  take-nothing e = take-due r.due refl _ (nothing-due e)
