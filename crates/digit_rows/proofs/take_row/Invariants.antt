-- `digit_rows::take_row` meets its contract: the squares of the first j entries are taken, and their digits tested.
use mathlib.Core.Path.{◌≡◌}
use Prim.Native.Nat.{ℕ, ◌*◌, ◌<◌, ◌≤◌}
use lib.ListN.{get_or}
use Rattle.std.specs.Prelude.{is_some}
use Rattle.integers.specs.Tests.{all}
use Rattle.digit_entries.specs.Entries.{follow_rule}
use Rattle.digit_rows.specs.Rows.{digits_at, taken}
use Rattle.digit_rows.proofs.Rows.{rest_of}
use Rattle.digit_rows.proofs.take_row.Given as goal

abbrev pub invariant-loop-j : goal.invariant-loop-j
invariant-loop-j l = record {
  squares : (i : ℕ) → i < l.j → get_or l.left i 0 ≡ rest_of (taken l.b l.k l.row l.initial.left i);
  others : (i : ℕ) → l.j ≤ i → get_or l.left i 0 ≡ get_or l.initial.left i 0;
  short : l.within ≡ all l.j (λ i. is_some (taken l.b l.k l.row l.initial.left i));
  rule : l.ruled ≡ all l.j (λ i. follow_rule l.b (digits_at l.k l.row (i * l.k)));
}
