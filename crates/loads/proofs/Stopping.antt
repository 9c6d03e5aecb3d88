-- The load program as one that reads lines: a bad line stops it, and then it takes and prints nothing more.
use mathlib.Core.Path.{◌≡◌, refl, sym}
use mathlib.Core.Bool.{Bool, true, false, cond, true≢false}
use mathlib.Core.List.{List, []}
use Prim.Native.Nat.{ℕ}
use Rattle.line_machines.specs.Machines.{Stops}
use Rattle.loads.specs.Loads.{Stage, param, load, end, stopped, step, refuse, take_due, is_stopped, bad_line, end_due, load_machine}

-- a bad line stops the run
bad_stops : (line : ℕ) (s : Stage) → is_stopped (bad_line line s).state.stage ≡ true
unfolding bad_line is_stopped
bad_stops line s = by (is_stopped s)
  where
    by : (c : Bool) → is_stopped (cond c (step line stopped []) (refuse line 13)).state.stage ≡ true
    by true = refl
    by false = refl

-- only one that has stopped says so
pub is-stopped : (s : Stage) → is_stopped s ≡ true → s ≡ stopped
unfolding is_stopped
is-stopped param e = absurd (true≢false (sym e))
is-stopped (load p) e = absurd (true≢false (sym e))
is-stopped (end p count seed) e = absurd (true≢false (sym e))
is-stopped stopped e = refl

module _ (line : ℕ) (s : Stage) (e : s ≡ stopped) where
  no_line : (text : List ℕ) → take_due line s text ≡ step line s []
  unfolding take_due
  no_line text = rw e refl

  no_bad : bad_line line s ≡ step line s []
  unfolding bad_line is_stopped
  no_bad = rw e refl

  no_end : end_due line s ≡ []
  unfolding end_due
  no_end = rw e refl

pub load-stops : Stops load_machine
load-stops = record {
  by_bad = λ s. bad_stops s.line s.stage;
  no_line = λ s text e. no_line s.line s.stage (is-stopped s.stage e) text;
  no_bad = λ s e. no_bad s.line s.stage (is-stopped s.stage e);
  no_end = λ s e. no_end s.line s.stage (is-stopped s.stage e);
}
