-- What a line that is refused comes to.
use mathlib.Core.Path.{◌≡◌, refl}
use mathlib.Core.Bool.{false}
use mathlib.Core.List.{[]}
use Prim.Native.Nat.{ℕ}
use Rattle.chain.specs.Chain.{Counts, Stage, refuse, is_stopped, bad_line}
use Rattle.states.specs.Held.{Whatever, stage_of, counts_of, state_of, step_of}
use Rattle.states.specs.declared.Due.{Due}
use Rattle.states.specs.declared.Due.TheVariants as Dues
use Rattle.states.specs.declared.runs.Run.{Run}
use Rattle.states.specs.declared.stores.Store.{Store}

-- a run that has something due has not stopped
pub not_stopped : (d : Due) (under : ℕ) (m : Store) → (d ≡ Dues.Nothing → ⊥) → is_stopped (stage_of d under m) ≡ false
unfolding stage_of is_stopped
not_stopped Dues.Param under m h = refl
not_stopped (Dues.Matrix s) under m h = refl
not_stopped (Dues.First s) under m h = refl
not_stopped (Dues.Leaf s) under m h = refl
not_stopped (Dues.Challenge s) under m h = refl
not_stopped Dues.Nothing under m h = absurd (h refl)

-- where a run has not stopped, a line that is no record is 13
pub bad_refused : (n : Counts) (s : Stage) → is_stopped s ≡ false → bad_line n s ≡ refuse n 13
unfolding bad_line
bad_refused n s e = rw e refl

pub bad_stopped : (r : Run) → r.due ≡ Dues.Nothing → Whatever (λ m. step_of r m [] ≡ bad_line (counts_of r) (state_of r m).stage)
unfolding stage_of is_stopped bad_line
bad_stopped r e m = rw e refl
