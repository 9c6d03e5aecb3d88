-- `equations::Parts::joined_t` meets its contract: column j is one of the first part's, or column j - t of the second's.
use mathlib.Core.Path.{◌≡◌, sym, ◌∙◌, ap}
use Prim.Native.Nat.{ℕ}
use native.Mathlib.Omega.{arith}
use Rattle.matrices.specs.Matrices.{Matrix}
use Rattle.matrices.specs.Tables.{unsigned}
use Rattle.lova.specs.Fold.{beside}
use Rattle.lova.proofs.Blocks.{beside-left, beside-right}
use Rattle.equations.specs.declared.parts.Parts.{Parts}
use Rattle.equations.specs.Parts.{joined_T}
use Rattle.equations.proofs.parts.Parts.joined_t.Goals as goal

-- the parts of the joined matrix, of which the second has so many columns
module _ (x : Parts) where
  abbrev A : Matrix
  A = unsigned x.accepted.now.setting.t x.first.t.now

  abbrev B : ℕ → Matrix
  B right = unsigned right x.second.t.now

  same : (i j : ℕ) → beside x.accepted.now.setting.t A (B x.right) i j ≡ joined_T x i j
  same i j = ap (λ (right : ℕ). beside x.accepted.now.setting.t A (B right) i j) x.right_is

pub returns-then-j-t : goal.returns-then-j-t
returns-then-j-t c = let x = c.args.self.now in sym (beside-left x.accepted.now.setting.t (A x) (B x x.right) c.args.i c.args.j (omega arith)) ∙ same x c.args.i c.args.j

pub returns-else-j-t : goal.returns-else-j-t
returns-else-j-t c = let x = c.args.self.now in sym (beside-right x.accepted.now.setting.t (A x) (B x x.right) c.args.i c.args.j (omega arith)) ∙ same x c.args.i c.args.j
