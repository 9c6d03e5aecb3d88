-- `digits::Base::new` meets its contract.
use native.Mathlib.Omega.{arith}
use native.Mathlib.Nat.{div-le_self}
use Rattle.digits.specs.Bases.{scale}
use Rattle.digits.proofs.Base.new.Goals as goal

pub overflow_add-result : goal.overflow_add-result
overflow_add-result c = omega (arith, div-le_self scale c.args.b)
