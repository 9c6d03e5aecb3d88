-- When two leaf counts can be joined, by the tests of the code.
use borrow.Author.Tests.{le-leb, lt-leb}
use mathlib.Core.Path.{◌≡◌, refl}
use mathlib.Core.Logic.{◌≢◌}
use mathlib.Core.Bool.{false}
use Prim.Native.Nat.{ℕ, zero, suc, ◌+◌, ◌<◌}
use native.Mathlib.Omega.{arith}
use lib.Dec.{leb}
use Rattle.std.specs.Prelude.{Option, Some, None}
use Rattle.std.specs.Option.{SomeIff, is_some}
use Rattle.lova.specs.Stored.{most_leaves}
use Rattle.lova.specs.Tests.{counts_join}

pub first_none : (a b : ℕ) → a ≡ 0 → false ≡ counts_join a b
unfolding counts_join
first_none a b e = rw e refl

pub second_none : (a b : ℕ) → a ≢ 0 → b ≡ 0 → false ≡ counts_join a b
unfolding counts_join
second_none zero b some e = absurd (some refl)
second_none (suc a) b some e = rw (e, le-leb 1 (suc a) (omega arith)) refl

-- what the test of a sum that is taken where it cannot wrap says
is_sum : (a b : ℕ) (o : Option ℕ) → SomeIff o (a + b < 4294967296) (a + b) → is_some o ≡ leb (a + b) most_leaves
is_sum a b None h = rw (lt-leb (a + b) most_leaves (omega (arith, h))) refl
is_sum a b (Some n) h = rw (le-leb (a + b) most_leaves (omega (arith, h.0))) refl

pub by_sum : (a b : ℕ) (o : Option ℕ) → 0 < a → 0 < b → SomeIff o (a + b < 4294967296) (a + b) → is_some o ≡ counts_join a b
unfolding counts_join
by_sum a b o some other h = rw (le-leb 1 a (omega arith), le-leb 1 b (omega arith)) (is_sum a b o h)
