-- `numerals::parse_u64` meets its contract: the answer is that of the bytes from the index on, after digits of value n.
use mathlib.Core.Path.{◌≡◌}
use Prim.Native.Nat.{◌^◌, ◌<◌}
use lib.ListN.{drop}
use Rattle.numerals.specs.Numerals.{read_unsigned, fit_unsigned, natural_from}
use Rattle.numerals.proofs.parse_u64.Given as goal

abbrev pub invariant-loop-byte : goal.invariant-loop-byte
invariant-loop-byte l = (l.n < 2 ^ 64) × (read_unsigned l.s ≡ fit_unsigned (natural_from l.n (drop l.byte-index l.s)))
