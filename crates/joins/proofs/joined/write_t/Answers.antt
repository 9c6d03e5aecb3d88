-- `joins::joined::write_t` meets its contract: the words of the parts are their own residues.
use mathlib.Core.Path.{◌≡◌, sym, ◌∙◌}
use mathlib.Core.List.{List}
use mathlib.Core.Bool.{Bool, true, false, cond}
use Prim.Native.Nat.{ℕ, ◌+◌, ◌-◌, ◌*◌, ◌^◌, ◌<◌}
use native.Mathlib.Omega.{arith}
use lib.IntN.{pos}
use lib.ListN.{get_or}
use lib.Dec.{ltb}
use Rattle.integers.specs.Residues.{word}
use Rattle.integers.proofs.Residues.{residue-small}
use Rattle.matrices.specs.Tables.{unsigned, entry}
use Rattle.matrices.proofs.Tables.{table_cong}
use Rattle.lova.specs.Stored.{right_for}
use Rattle.lova.specs.Fold.{beside}
use Rattle.joins.specs.Columns.{column_of, spread, halves}
use Rattle.joins.proofs.joined.write_t.Goals as goal

-- a word of a part is its own residue
own : (xs : List ℕ) (n : ℕ) → get_or xs n 0 < 2 ^ 64 → get_or xs n 0 ≡ word (pos (get_or xs n 0))
own xs n h = sym (residue-small (2 ^ 64) (get_or xs n 0) h)

-- a choice of two words is its own residue
chosen : (b : Bool) (x y : ℕ) → x ≡ word (pos x) → y ≡ word (pos y) → cond b x y ≡ word (cond b (pos x) (pos y))
chosen true x y h k = h
chosen false x y h k = k

pub returns : goal.returns
unfolding beside
returns c =
    let a = c.args in
    let right = right_for a.cols a.profile in
    c.write_beside.ensures 0
    ∙ table_cong 0 a.rows (2 * a.cols) (halves a.profile a.cols (entry 0 a.cols a.t1.now) (entry 0 right a.t2.now))
    (λ i j. word (beside a.cols (unsigned a.cols a.t1.now) (spread a.profile (unsigned right a.t2.now)) i j))
    (λ i j hi hj.
    let second = i * right + column_of a.profile (j - a.cols) in
    chosen (ltb j a.cols) _ _ (own a.t1.now (i * a.cols + j) (omega (arith, c.type_inv.t1 (i * a.cols + j)))) (own a.t2.now second (omega (arith, c.type_inv.t2 second))))
