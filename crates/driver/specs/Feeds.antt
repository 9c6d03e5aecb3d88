-- What a feed stands for.
use Rattle.std.specs.Prelude.{◌≡◌, ℕ, ◌+◌, ◌≤◌, ◌<◌, take}
use Rattle.line_machines.specs.Machines.{Feeding, unfed}
use Rattle.chain.specs.Chain.{State, chain_machine}
use Rattle.states.specs.Held.{state_of}
use Rattle.driver.specs.declared.feeds.Feed.{Feed}
use Rattle.driver.specs.declared.feeds.Taken.{Taken}

-- the run state, and the beginning of the line buffer
abbrev pub feeding_of : Feed → Feeding State
feeding_of f = record { state = state_of f.run f.store; pending = take f.pending f.line }

-- a feed that has read nothing
abbrev pub Unfed : Feed → Type 0
Unfed f = (f.run.line ≡ 0) × (f.pending ≡ 0) × (feeding_of f ≡ unfed chain_machine)

-- what a feed keeps when it has taken a part of a chunk
pub record TakenWithin (r : Taken) (before after : Feed) (size : ℕ) : Type 0 where
  pub used : r.used ≤ size
  pub moves : 0 < size → 0 < r.used
  pub lines : after.run.line ≤ before.run.line + 1
  pub printed : r.printed ≤ 512
