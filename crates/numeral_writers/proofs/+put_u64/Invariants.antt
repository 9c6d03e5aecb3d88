-- `numeral_writers::put_u64` ends: its inner call is of n / 10, which is below n.
use Rattle.numeral_writers.proofs.+put_u64.Given as goal

abbrev pub decreases-put_u64 : goal.decreases-put_u64
decreases-put_u64 l = l.n
