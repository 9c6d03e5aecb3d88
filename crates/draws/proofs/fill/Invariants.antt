-- `draws::fill` meets its contract: as many entries are made as the loop has run.
use Rattle.std.proofs.Common.{◌≡◌, ℕ, ◌<◌, ◌^◌, take}
use Rattle.draws.specs.Draws.{after, drawn}
use Rattle.draws.proofs.fill.Given as goal

abbrev pub invariant-loop-place : goal.invariant-loop-place
invariant-loop-place g l =
    goal.E-IsAlwaysCallable g l.entry × (l.state ≡ after l.place-index l.s)
    × ((of : ℕ → g.row.T.Denot) → ((x : ℕ) (v : g.row.T.Denot) → x < 2 ^ 64 → goal.E-post g l.entry x v → v ≡ of x) → take l.place-index l.out ≡ drawn of l.place-index l.s)
