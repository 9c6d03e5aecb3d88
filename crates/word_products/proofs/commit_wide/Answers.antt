-- `word_products::commit_wide` meets its contract: `out` holds the product of the first `base` columns of a and rows of s.
use mathlib.Core.Path.{◌≡◌, sym, ◌∙◌, ap}
use Prim.Native.Nat.{ℕ}
use native.Mathlib.Omega.{arith}
use lib.ListN.{length}
use Rattle.integers.specs.Lists.{build}
use Rattle.integers.specs.Residues.{word}
use Rattle.matrices.specs.Matrices.{product}
use Rattle.matrices.specs.Tables.{table, unsigned, signed}
use Rattle.matrices.proofs.Tables.{length-table}
use Rattle.word_products.proofs.Blocks.{product-none}
use Rattle.word_products.proofs.commit_wide.Goals as goal
use Rattle.word_products.proofs.commit_wide.Goals.{At-loop-base, Start}

pub loop-base-init : goal.loop-base-init
loop-base-init c =
    let a = c.args in (
      omega arith,
      c.clear_row.ensures ∙ ap (λ (n : ℕ). build n (λ x. 0)) c.requires.2
          ∙ product-none a.n a.cols (unsigned a.m a.a.now) (signed a.cols a.s.now),
    )

-- the function's entry, seen from the loop
abbrev entry : At-loop-base → Start
entry c = (goal.at.At-loop-base c).Start

pub add_block-requires : goal.add_block-requires
add_block-requires c = record {
  a_len = (c.requires.0, c.requires.1, omega (arith, c.min.ensures));
  out_value = c.loop-base.invariant.1;
}

pub loop-base-preserved : goal.loop-base-preserved
loop-base-preserved c =
    let whole : c.min.result ≡ 128 = omega (arith, c.min.ensures, c.if-m-base-gt128.true) in
    (omega (arith, c.if-m-base-gt128.true), rw whole at c.add_block.ensures)

pub shape_of-out : goal.shape_of-out
shape_of-out c =
    let a = (entry (goal.at.shape_of-out c).At-loop-base).args in
    ap length c.loop-base.invariant.1 ∙ length-table a.n a.cols _ ∙ sym (entry (goal.at.shape_of-out c).At-loop-base).requires.2

pub returns : goal.returns
returns c =
    let a = (entry (goal.at.returns c).At-loop-base).args in
    let e : c.loop-base.base ≡ a.m = omega arith in
    c.loop-base.invariant.1 ∙ ap (λ (p : ℕ). table a.n a.cols (λ i j. word (product p (unsigned a.m a.a.now) (signed a.cols a.s.now) i j))) e
