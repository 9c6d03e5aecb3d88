-- `draws::radius_of` meets its contract: with 32 - k bits left the rest of the search gives the answer.
use Rattle.std.proofs.Common.{◌≡◌, ◌+◌, ◌-◌, ◌/◌, ◌^◌, ◌≤◌}
use Rattle.draws.specs.Draws.{radius_from, radius}
use Rattle.draws.proofs.radius_of.Given as goal

abbrev pub invariant-loop-k : goal.invariant-loop-k
invariant-loop-k l = (l.step ≡ 2 ^ (32 - l.k)) × (l.r + l.step ≤ 2 ^ 32) × (l.most ≡ l.bound / l.m) × (radius l.m l.bound ≡ radius_from (32 - l.k) l.m l.bound l.r)
