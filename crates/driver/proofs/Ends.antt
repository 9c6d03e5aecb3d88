-- What the end of the input comes to.
use mathlib.Core.Path.{◌≡◌, refl}
use mathlib.Core.List.{List, [], ◌∷◌}
use Prim.Native.Nat.{ℕ, ◌+◌, ◌≤◌, ◌<◌}
use native.Mathlib.Omega.{arith}
use lib.ListN.{length, take}
use lib.Seq.{length-take-le}
use Rattle.line_machines.specs.Machines.{last_output}
use Rattle.chain.specs.Reports.{refused_line}
use Rattle.chain.specs.Chain.{Counts, State, bad_line, end_due, at_end}
use Rattle.states.specs.Held.{stage_of}
use Rattle.states.specs.declared.Due.{Due}
use Rattle.states.specs.declared.Due.TheVariants as Dues
use Rattle.states.specs.declared.stores.Store.{Store}

-- where neither a leaf nor nothing is due a line is missing: the end of the input is 13 there
pub end_missing : (n : Counts) (d : Due) (under : ℕ) (m : Store) → ((s : _) → d ≡ Dues.Leaf s → ⊥) → (d ≡ Dues.Nothing → ⊥)
    → end_due n (stage_of d under m) ≡ refused_line (n.line + 1) 13
unfolding stage_of end_due
end_missing n Dues.Param under m h k = refl
end_missing n (Dues.Matrix s) under m h k = refl
end_missing n (Dues.First s) under m h k = refl
end_missing n (Dues.Challenge s) under m h k = refl
end_missing n (Dues.Leaf s) under m h k = absurd (h s refl)
end_missing n Dues.Nothing under m h k = absurd (k refl)

-- a line that is under way at the end is bad
pub end_bad : (s : State) (line : List ℕ) (k : ℕ) → 0 < k → k ≤ length line → at_end s (take k line) ≡ (bad_line s.counts s.stage).output
unfolding last_output
end_bad s line k h l = go (take k line) (length-take-le k line l)
  where
    go : (rest : List ℕ) → length rest ≡ k → at_end s rest ≡ (bad_line s.counts s.stage).output
    go [] e = absurd (omega arith)
    go (x ∷ rest) e = refl

-- and where none is, the end is that of what is due
pub end-due : (s : State) (line : List ℕ) (k : ℕ) → k ≤ 0 → at_end s (take k line) ≡ end_due s.counts s.stage
unfolding last_output
end-due s line k h = let none : k ≡ 0 = omega arith in rw none refl
