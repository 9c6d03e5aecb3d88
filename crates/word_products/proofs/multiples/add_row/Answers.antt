-- `word_products::multiples::add_row` meets its contract: the first j words have had their products added.
use mathlib.Core.Path.{◌≡◌}
use mathlib.Core.List.{List}
use Prim.Native.Nat.{ℕ, ◌+◌, ◌-◌, ◌*◌, ◌<◌}
use native.Mathlib.Omega.{arith}
use lib.IntN.{ℤ, pos, ◌+ℤ◌, ◌*ℤ◌}
use lib.ListN.{length, get_or, set}
use mir.Syntax.{w64}
use mir.Val.{SFits, to_z, of_z}
use Rattle.integers.specs.Residues.{word}
use Rattle.matrices.specs.Elements.{modulo, Added}
use Rattle.matrices.proofs.Elements.{added_none, added-up}
use Rattle.word_rows.proofs.Rows.{read-on}
use Rattle.word_products.proofs.multiples.add_row.Invariants.{multiple}
use Rattle.word_products.proofs.multiples.add_row.Goals as goal

-- one word more
add-more : (x : ℕ) (y : List ℤ) (j : ℕ) {r : ℕ} (before row : List ℕ) → j < length before → SFits w64 (get_or y j (pos 0))
    → r ≡ word (pos (get_or row j 0) +ℤ pos x *ℤ to_z w64 (of_z w64 (get_or y j (pos 0))))
    → Added modulo (multiple x y) 0 j before row → Added modulo (multiple x y) 0 (j + 1) before (set row j r)
add-more x y j before row h fits e w =
    added-up modulo (multiple x y) 0 j before row _ w (omega (arith, w.long)) (read-on (get_or row j 0) x (get_or y j (pos 0)) fits e)

pub loop-pair-init : goal.loop-pair-init
loop-pair-init c = added_none modulo _ 0 _

pub loop-pair-preserved : goal.loop-pair-preserved
loop-pair-preserved c =
    let a = c.args in
    let j = 2 * c.loop-pair.pair in
    let one = add-more a.x a.y.now j a.row.now c.loop-pair.row (omega arith)
    (record { sfits = omega arith }) c.add_signed_product.ensures c.loop-pair.invariant in
    let two = add-more a.x a.y.now (j + 1) a.row.now _ (omega arith)
    (record { sfits = omega arith }) c.add_signed_product-in-loop-pair.ensures one in
    let next : 2 * (c.loop-pair.pair + 1) ≡ j + 1 + 1 = omega arith in
    rw next two

pub returns-then-n-eq1 : goal.returns-then-n-eq1
returns-then-n-eq1 c =
    let a = c.args in
    let n = length a.row.now in
    let end : 2 * c.loop-pair.pair ≡ n - 1 = omega arith in
    let last = add-more a.x a.y.now (n - 1) a.row.now c.loop-pair.row (omega arith)
    (record { sfits = omega arith }) c.add_signed_product-then-n-eq1.ensures (rw end at c.loop-pair.invariant) in
    let all : n - 1 + 1 ≡ n = omega arith in
    rw all at last

pub returns-else-n-eq1 : goal.returns-else-n-eq1
returns-else-n-eq1 c =
    let end : 2 * c.loop-pair.pair ≡ length c.args.row.now = omega arith in
    rw end at c.loop-pair.invariant
