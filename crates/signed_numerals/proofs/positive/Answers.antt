-- `signed_numerals::positive` meets its contract.
use Rattle.std.proofs.Common.{◌≡◌, ℕ, ◌^◌, ◌≤◌, ◌<◌, pos, arith, w64, to_z}
use Rattle.std.specs.Prelude.{Some, None}
use borrow.Author.Tests.{lt-ltb, le-ltb}
use Rattle.numerals.specs.Numerals.{fit_signed}
use Rattle.signed_numerals.proofs.positive.Goals as goal

positive_fits : (n : ℕ) → n < 2 ^ 63 → Some (to_z w64 n) ≡ fit_signed (Some (pos n))
unfolding fit_signed
positive_fits n h = rw (lt-ltb n (2 ^ 63) h)

positive_large : (n : ℕ) → 2 ^ 63 ≤ n → None ≡ fit_signed (Some (pos n))
unfolding fit_signed
positive_large n h = rw (le-ltb n (2 ^ 63) h)

pub returns-then-n-le-LARGEST : goal.returns-then-n-le-LARGEST
returns-then-n-le-LARGEST c = positive_fits c.args.n (omega arith)

pub returns-else-n-le-LARGEST : goal.returns-else-n-le-LARGEST
returns-else-n-le-LARGEST c = positive_large c.args.n (omega arith)
