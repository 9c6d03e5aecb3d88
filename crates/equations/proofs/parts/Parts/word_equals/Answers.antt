-- `equations::Parts::word_equals` meets its contract: the words sum up to their entry of T~ G, modulo 2^64.
use mathlib.Core.Path.{sym, ◌∙◌, ap, ap₂}
use Prim.Native.Nat.{◌+◌, ◌*◌, ◌^◌, ◌≤◌}
use native.Mathlib.Omega.{arith}
use lib.Dec.{eqb}
use lib.ListN.{length}
use Rattle.integers.specs.Residues.{word}
use Rattle.integers.proofs.Residues.{residue-small}
use Rattle.equations.specs.Parts.{across}
use Rattle.equations.proofs.Recomposed.{handed, few, powers_long, block_within, block-sum}
use Rattle.equations.proofs.parts.Parts.word_equals.Goals as goal
use Rattle.equations.proofs.parts.Parts.word_equals.Goals.{Start}

-- the words that are summed up lie within T~
within : (s : Start) →
    let x = s.args.self.now in
    let k = x.accepted.now.setting.k in
    s.args.i * (across x * k) + s.args.j * k + k ≤ length x.message.tt.now
within s =
    let x = s.args.self.now in
    rw s.requires.0.2 (block_within (handed x) x.accepted.now.setting.n s.args.i s.args.j s.requires.1 s.requires.2)

pub overflow_mul-columns : goal.overflow_mul-columns
overflow_mul-columns c = omega (arith, few c.args.self.now)

pub overflow_mul-start : goal.overflow_mul-start
overflow_mul-start c = omega (arith, within (goal.at.overflow_mul-start c).Start)

pub overflow_mul-start-2 : goal.overflow_mul-start-2
overflow_mul-start-2 c = omega (arith, within (goal.at.overflow_mul-start-2 c).Start)

pub overflow_add-start : goal.overflow_add-start
overflow_add-start c = omega (arith, within (goal.at.overflow_add-start c).Start)

pub weighted_words-requires : goal.weighted_words-requires
weighted_words-requires c = (within (goal.at.weighted_words-requires c).Start, powers_long (handed c.args.self.now))

pub returns : goal.returns
returns c =
    let x = c.args.self.now in
    let y = c.joined_t in
    ap₂ eqb
    (c.weighted_words.ensures ∙ ap word (block-sum (handed x) x.message.tt.now c.args.i c.args.j c.requires.2))
    (sym (residue-small (2 ^ 64) y.result y.type_inv) ∙ ap word y.ensures)
