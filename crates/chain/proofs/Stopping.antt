-- The chain program as one that reads lines: a bad line stops it, and then it takes and prints nothing more.
use mathlib.Core.Path.{◌≡◌, refl, sym}
use mathlib.Core.Bool.{Bool, true, false, cond, true≢false}
use mathlib.Core.List.{List, []}
use Prim.Native.Nat.{ℕ}
use Rattle.line_machines.specs.Machines.{Stops}
use Rattle.chain.specs.Chain.{Counts, Stage, param, matrix, first, leaf, challenge, stopped, step, refuse, take_due, is_stopped, bad_line, end_due, chain_machine}

-- a bad line stops the run
bad_stops : (n : Counts) (s : Stage) → is_stopped (bad_line n s).state.stage ≡ true
unfolding bad_line is_stopped
bad_stops n s = by (is_stopped s)
  where
    by : (c : Bool) → is_stopped (cond c (step n stopped []) (refuse n 13)).state.stage ≡ true
    by true = refl
    by false = refl

-- only one that has stopped says so
pub is-stopped : (s : Stage) → is_stopped s ≡ true → s ≡ stopped
unfolding is_stopped
is-stopped param e = absurd (true≢false (sym e))
is-stopped (matrix p) e = absurd (true≢false (sym e))
is-stopped (first p A) e = absurd (true≢false (sym e))
is-stopped (leaf p A node) e = absurd (true≢false (sym e))
is-stopped (challenge p A node new) e = absurd (true≢false (sym e))
is-stopped stopped e = refl

module _ (n : Counts) (s : Stage) (e : s ≡ stopped) where
  no_line : (line : List ℕ) → take_due n s line ≡ step n s []
  unfolding take_due
  no_line line = rw e refl

  no_bad : bad_line n s ≡ step n s []
  unfolding bad_line is_stopped
  no_bad = rw e refl

  no_end : end_due n s ≡ []
  unfolding end_due
  no_end = rw e refl

pub chain_stops : Stops chain_machine
chain_stops = record {
  by_bad = λ s. bad_stops s.counts s.stage;
  no_line = λ s line e. no_line s.counts s.stage (is-stopped s.stage e) line;
  no_bad = λ s e. no_bad s.counts s.stage (is-stopped s.stage e);
  no_end = λ s e. no_end s.counts s.stage (is-stopped s.stage e);
}
