-- `equations::Parts::joined_d` meets its contract: each branch reads its part of the joined matrix.
use mathlib.Core.Path.{◌≡◌, sym, ◌∙◌, ap}
use Prim.Native.Nat.{ℕ}
use native.Mathlib.Omega.{arith}
use mir.Syntax.{w64}
use mir.ValLaws.{to_z-of_z}
use Rattle.matrices.specs.Matrices.{Matrix}
use Rattle.matrices.specs.Tables.{signed}
use Rattle.lova.specs.Fold.{blocks}
use Rattle.lova.proofs.Blocks.{upper-left, upper-right, lower-left, lower-right}
use Rattle.equations.specs.declared.parts.Parts.{Parts}
use Rattle.equations.specs.Parts.{joined_D}
use Rattle.equations.proofs.parts.Parts.joined_d.Goals as goal

-- the parts of the joined matrix, of which the second have so many columns
module _ (x : Parts) where
  abbrev A : Matrix
  A = signed x.accepted.now.setting.t x.first.d.now

  abbrev B : ℕ → Matrix
  B right = signed right x.message.v.now

  abbrev C : ℕ → Matrix
  C right = signed right x.second.d.now

  same : (i j : ℕ) → blocks x.accepted.now.setting.t A (B x.right) (C x.right) i j ≡ joined_D x i j
  same i j = ap (λ (right : ℕ). blocks x.accepted.now.setting.t A (B right) (C right) i j) x.right_is

pub returns-then-j-t : goal.returns-then-j-t
returns-then-j-t c =
    let x = c.args.self.now in
    to_z-of_z w64 c.at.result (record { sfits = c.at.type_inv }) ∙ c.at.ensures
    ∙ sym (upper-left x.accepted.now.setting.t (A x) (B x x.right) (C x x.right) c.args.i c.args.j (omega arith) (omega arith)) ∙ same x c.args.i c.args.j

pub returns-else-j-t : goal.returns-else-j-t
returns-else-j-t c =
    let x = c.args.self.now in
    to_z-of_z w64 c.at-else-j-t.result (record { sfits = c.at-else-j-t.type_inv }) ∙ c.at-else-j-t.ensures
    ∙ sym (upper-right x.accepted.now.setting.t (A x) (B x x.right) (C x x.right) c.args.i c.args.j (omega arith) (omega arith)) ∙ same x c.args.i c.args.j

pub returns-then-j-t-2 : goal.returns-then-j-t-2
returns-then-j-t-2 c =
    let x = c.args.self.now in
    to_z-of_z w64 c.at-then-j-t-2.result (record { sfits = c.at-then-j-t-2.type_inv }) ∙ c.at-then-j-t-2.ensures
    ∙ sym (lower-left x.accepted.now.setting.t (A x) (B x x.right) (C x x.right) c.args.i c.args.j (omega arith) (omega arith)) ∙ same x c.args.i c.args.j

pub returns-else-j-t-2 : goal.returns-else-j-t-2
returns-else-j-t-2 c =
    let x = c.args.self.now in
    to_z-of_z w64 c.at-else-j-t-2.result (record { sfits = c.at-else-j-t-2.type_inv }) ∙ c.at-else-j-t-2.ensures
    ∙ sym (lower-right x.accepted.now.setting.t (A x) (B x x.right) (C x x.right) c.args.i c.args.j (omega arith) (omega arith)) ∙ same x c.args.i c.args.j
