-- `word_products::multiples::write_row` meets its contract: the first j words of `row` are those of x times y.
use mathlib.Core.Path.{◌≡◌, ◌∙◌, ap, refl}
use mathlib.Core.List.{List}
use Prim.Native.Nat.{ℕ, ◌+◌, ◌-◌, ◌*◌, ◌<◌}
use native.Mathlib.Omega.{arith}
use lib.IntN.{ℤ, pos, ◌+ℤ◌, ◌*ℤ◌, +ℤ_idl}
use lib.ListN.{length, get_or, set}
use mir.Syntax.{w64}
use mir.Val.{SFits, to_z, of_z}
use Rattle.integers.specs.Residues.{word}
use Rattle.integers.proofs.Lists.{Filled, filled_none, filled_more, filled-all}
use Rattle.word_rows.proofs.Rows.{read-on}
use Rattle.word_products.proofs.multiples.write_row.Invariants.{multiple}
use Rattle.word_products.proofs.multiples.write_row.Goals as goal

-- one word more, as the sum of 0 and a product
write-more : (x : ℕ) (y : List ℤ) (j : ℕ) {r : ℕ} (n : ℕ) (row : List ℕ) → j < n → SFits w64 (get_or y j (pos 0))
    → r ≡ word (pos 0 +ℤ pos x *ℤ to_z w64 (of_z w64 (get_or y j (pos 0))))
    → Filled n (multiple x y) 0 j row → Filled n (multiple x y) 0 (j + 1) (set row j r)
write-more x y j n row h fits e w =
    filled_more n (multiple x y) 0 j row _ h
    (read-on 0 x (get_or y j (pos 0)) fits e ∙ ap word (+ℤ_idl (pos x *ℤ get_or y j (pos 0)))) w

pub loop-pair-init : goal.loop-pair-init
loop-pair-init c = filled_none _ _ _ _ refl

pub loop-pair-preserved : goal.loop-pair-preserved
loop-pair-preserved c =
    let a = c.args in
    let j = 2 * c.loop-pair.pair in
    let n = length a.row.now in
    let one = write-more a.x a.y.now j n c.loop-pair.row (omega arith)
    (record { sfits = omega arith }) c.add_signed_product.ensures c.loop-pair.invariant in
    let two = write-more a.x a.y.now (j + 1) n _ (omega arith)
    (record { sfits = omega arith }) c.add_signed_product-in-loop-pair.ensures one in
    let next : 2 * (c.loop-pair.pair + 1) ≡ j + 1 + 1 = omega arith in
    rw next two

pub returns-then-n-eq1 : goal.returns-then-n-eq1
returns-then-n-eq1 c =
    let a = c.args in
    let n = length a.row.now in
    let end : 2 * c.loop-pair.pair ≡ n - 1 = omega arith in
    let last = write-more a.x a.y.now (n - 1) n c.loop-pair.row (omega arith)
    (record { sfits = omega arith }) c.add_signed_product-then-n-eq1.ensures (rw end at c.loop-pair.invariant) in
    filled-all n (multiple a.x a.y.now) 0 (n - 1 + 1) _ (omega arith) last

pub returns-else-n-eq1 : goal.returns-else-n-eq1
returns-else-n-eq1 c =
    let a = c.args in
    filled-all (length a.row.now) (multiple a.x a.y.now) 0 (2 * c.loop-pair.pair) c.loop-pair.row (omega arith) c.loop-pair.invariant
