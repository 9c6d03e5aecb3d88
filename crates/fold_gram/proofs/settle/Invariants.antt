-- `fold_gram::settle` meets its contract: the first j pairs are at their means.
use Rattle.fold_gram.proofs.Settling.{Settled}
use Rattle.fold_gram.proofs.settle.Given as goal

abbrev pub invariant-loop-j : goal.invariant-loop-j
invariant-loop-j l = Settled l.t l.i l.initial.out l.j l.out
