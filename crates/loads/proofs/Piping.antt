-- The load program's output as the chain program's input.
use mathlib.Core.Path.{◌≡◌, ◌∙◌, ap}
use mathlib.Core.Logic.{◌⊎◌, inl, inr}
use mathlib.Core.List.{List}
use Prim.Native.Nat.{ℕ}
use Rattle.chain.specs.Program.{program}
use Rattle.loads.specs.Loads.{load_program}
use Rattle.loads.specs.Outputs.{file_output}
use Rattle.loads.proofs.Taking.{load-is-taken}
use Rattle.loads.proofs.Deciding.{Refused, Loaded, load_decided}

pub piped : (input : List ℕ) → (Refused (load_program input) → ⊥) → (r : Loaded input (load_program input)) × (program (load_program input) ≡ file_output r.setting r.count r.seed)
piped input taken = by (load_decided input)
  where
    by : Refused (load_program input) ⊎ Loaded input (load_program input) → (r : Loaded input (load_program input)) × (program (load_program input) ≡ file_output r.setting r.count r.seed)
    by (inl r) = absurd (taken r)
    by (inr r) = (r, ap program r.prints ∙ load-is-taken r.setting r.accepted r.count r.seed r.ranges.low r.ranges.high)
