-- `equations::recomposition::weighted_words` meets its contract: `sum` is that of the first q terms, modulo 2^64.
use borrow.Author.Rules.{rules}
use mathlib.Core.Path.{◌≡◌, sym, ◌∙◌, ap}
use Prim.Native.Nat.{ℕ, ◌^◌}
use native.Mathlib.Omega.{arith}
use Rattle.integers.specs.Sums as Sums
use Rattle.integers.specs.Residues.{word}
use Rattle.integers.proofs.Sums.{sum-none_yet}
use Rattle.integers.proofs.Residues.{residue-small}
use Rattle.matrices.specs.Elements.{modulo}
use Rattle.matrices.proofs.Elements.{modulo-sums, sum-on}
use Rattle.equations.proofs.recomposition.weighted_words.Invariants.{term}
use Rattle.equations.proofs.recomposition.weighted_words.Goals as goal

pub loop-q-init : goal.loop-q-init
loop-q-init c = (search rules, sym (ap word (sum-none_yet _) ∙ residue-small (2 ^ 64) 0 (omega arith)))

pub loop-q-preserved : goal.loop-q-preserved
loop-q-preserved c =
    let a = c.args in
    (omega arith, sum-on modulo modulo-sums c.loop-q.q (term a.x.now a.start a.powers.now) c.loop-q.invariant.1 c.add_word_product-sum.ensures)

pub returns : goal.returns
returns c =
    let a = c.args in
    let e : c.loop-q.q ≡ a.k = omega arith in
    c.loop-q.invariant.1 ∙ ap (λ (n : ℕ). word (Sums.sum n (term a.x.now a.start a.powers.now))) e
