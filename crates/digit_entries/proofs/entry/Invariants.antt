-- `digit_entries::entry` meets its contract: `sum` is what the digits from place q on stand for.
use mathlib.Core.Path.{◌≡◌}
use Prim.Native.Nat.{◌<◌, ◌≤◌}
use lib.IntN.{nat_abs}
use lib.ListN.{length}
use Rattle.digit_entries.specs.Entries.{limit}
use Rattle.digit_entries.proofs.Sums.{top_of}
use Rattle.digit_entries.proofs.entry.Given as goal

abbrev pub invariant-loop-q : goal.invariant-loop-q
invariant-loop-q l = (l.q ≤ length l.digits) × (nat_abs (top_of l.b l.digits l.q) < limit) × (l.sum ≡ top_of l.b l.digits l.q)
