-- `quadratic_forms::zeros_with` ends: its inner calls are for one coordinate less.
use Rattle.quadratic_forms.proofs.+zeros_with.Given as goal

abbrev pub decreases-zeros_with : goal.decreases-zeros_with
decreases-zeros_with l = l.i
