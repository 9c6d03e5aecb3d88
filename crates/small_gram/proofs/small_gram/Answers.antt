-- `small_gram::small_gram` meets its contract: both ways make the same products.
use Prim.Native.Nat.{◌+◌, ◌*◌}
use native.Mathlib.Omega.{arith}
use native.Mathlib.Nat.{mul-le-mul_right}
use Rattle.matrices.specs.Matrices.{transposed}
use Rattle.matrices.specs.Tables.{signed}
use Rattle.matrices.proofs.Bounds.{sizes-bound}
use Rattle.small_gram.proofs.small_gram.Goals as goal

pub lower_products-requires : goal.lower_products-requires
lower_products-requires c =
    let s = c in
    let a = s.args in
    let h = s.requires.0 in
    let x = signed a.cols a.s.now in record {
      m_nonzero = (omega arith, h.long, s.requires.3);
      by_index = λ i j hi hj. omega (
        arith,
        mul-le-mul_right (32767 * 32767) s.requires.2,
        sizes-bound a.m 32767 32767 (transposed x) x i j (λ k l. h.small (k * a.cols + i)) (λ k l. h.small (k * a.cols + j)),
      );
    }
