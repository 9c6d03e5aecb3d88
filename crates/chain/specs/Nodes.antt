-- The nodes of a chain: a leaf by commit, a fold by message, folded witness and verdict.
use Rattle.std.specs.Prelude.{cond, List, ℕ, ℤ, pos, replicate}
use Rattle.settings.specs.Settings.{Parameters}
use Rattle.lova.specs.Answers.{Meaning, Outcome, ends, refuses, count_after}
use Rattle.lova.specs.declared.Profile.{Profile}
use Rattle.lova.specs.declared.Profile.TheVariants.{General}
use Rattle.lova.specs.Stored.{Instance, Counted, counted, Prepared, matrix_T, matrix_S, matrix_D, right_T, right_D, sent_V, sent_S~, sent_T~, sent_D~}
use Rattle.lova.specs.Calls.{Fits}
use Rattle.lova.specs.Commit.{commit}
use Rattle.lova.specs.Message.{message}
use Rattle.lova.specs.Verdict.{verdict}
use Rattle.lova.specs.Witness.{witness}

-- a node: its instance with the leaves under it, and its witness
pub record Node : Type 0 where
  pub instance : Counted
  pub witness : List ℤ

abbrev pub node_of : List ℕ → List ℤ → ℕ → List ℤ → Node
node_of T D leaves S = record { instance = counted (record { T = T; D = D }) leaves; witness = S }

-- its matrices have the stated lengths
abbrev pub FitsNode : Parameters → Node → Type 0
FitsNode p z = Fits (matrix_T p) z.instance.instance.T × Fits (matrix_D p) z.instance.instance.D × Fits (matrix_S p) z.witness

-- outputs of the stated lengths that hold zeros, as every call of a chain finds them; a chain has general calls alone
abbrev pub blank_right : Parameters → Profile → Instance
blank_right p f = record { T = replicate (right_T p f).size 0; D = replicate (right_D p f).size (pos 0) }

abbrev pub blank_instance : Parameters → Instance
blank_instance p = blank_right p General

abbrev pub blank_prepared_in : Parameters → Profile → Prepared
blank_prepared_in p f = record {
  message = record { «V» = replicate (sent_V p f).size (pos 0); T~ = replicate (sent_T~ p f).size 0; D~ = replicate (sent_D~ p f).size (pos 0) };
  S~ = replicate (sent_S~ p f).size (pos 0);
}

abbrev pub blank_prepared : Parameters → Prepared
blank_prepared p = blank_prepared_in p General

abbrev pub blank_witness : Parameters → List ℤ
blank_witness p = replicate (matrix_S p).size (pos 0)

abbrev pub blank_node : Parameters → Node
blank_node p = record { instance = counted (blank_instance p) 0; witness = blank_witness p }

-- what is kept after an answer: a refusal changes nothing
unfoldable pub unless_refusing : Meaning → Node → Node → Outcome Node
unless_refusing answer before after = cond (refuses answer) (ends answer before) (ends answer after)

-- a leaf with the witness S, in place of a node
unfoldable pub leaf_of : Parameters → List ℕ → List ℤ → Node → Outcome Node
leaf_of p A S before =
    let made = commit p A S (blank_instance p) in
    unless_refusing made.answer before (record { instance = made.outputs; witness = S })

-- the answer of a fold: the first of message's, folded witness's and the verdict's that refuses, else the verdict's
unfoldable pub fold_answer : Meaning → Meaning → Meaning → Meaning
fold_answer said folded judged = cond (refuses said) said (cond (refuses folded) folded judged)

-- the calls of a fold, with what the outputs of folded witness and verdict held before; a refusal leaves no count
unfoldable pub calls_of : Parameters → List ℕ → Node → Node → List ℕ → Node → Outcome Node
calls_of p A left right C before =
    let said = message p A left.witness right.witness (blank_prepared p) in
    let folded = witness p said.outputs.S~ C before.witness in
    let judged = verdict p left.instance right.instance said.outputs.message C before.instance.instance in
    let answer = fold_answer said.answer folded.answer judged.answer in
    let leaves = count_after answer judged.outputs.leaves 0 in
    ends answer (record { instance = counted judged.outputs.instance leaves; witness = folded.outputs })

-- the fold of two nodes with the challenge C, in place of the left one
unfoldable pub fold_of : Parameters → List ℕ → Node → Node → List ℕ → Outcome Node
fold_of p A left right C =
    let made = calls_of p A left right C (blank_node p) in
    unless_refusing made.answer left made.outputs
