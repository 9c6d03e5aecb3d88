-- `digit_witnesses::write_both` meets its contract: the two parts of the row are the two rows' digits.
use mathlib.Core.Path.{◌≡◌, ◌∙◌, ap, ap₂}
use mathlib.Core.List.{◌++◌}
use Prim.Native.Nat.{◌*◌}
use lib.ListN.{length}
use Rattle.integers.proofs.Lists.{two-parts}
use Rattle.digits.specs.Digits.{row_digits}
use Rattle.digits.proofs.Rows.{length-row_digits, row_digits_append}
use Rattle.digit_witnesses.proofs.write_both.Goals as goal

pub returns : goal.returns
returns c =
    let a = c.args in
    let ys = c.write_row.new.row in
    let zs = c.write_row-2.new.row in
    let left : ys ≡ row_digits a.base.b a.k a.left.now = c.write_row.ensures in
    two-parts (length a.left.now * a.k) a.row.now ys zs (ap length left ∙ length-row_digits a.base.b a.k a.left.now)
    ∙ ap₂ ◌++◌ left c.write_row-2.ensures
    ∙ row_digits_append a.base.b a.k a.left.now a.right.now
