-- `Pending::put_line` meets its contract: each line is written where it is due.
use Prim.Native.Nat.{◌-◌}
use native.Mathlib.Omega.{arith}
use lib.ListN.{length, drop}
use Rattle.loads.specs.Files.{param_text, matrix_text, witness_text, challenge_text}
use Rattle.load_texts.specs.Texts.{parameters_for}
use Rattle.load_files.proofs.Comings.{line_put, param-comes, matrix-comes, first-comes, leaf-comes, challenge-comes, refusal-put}
use Rattle.load_files.proofs.Pending.put_line.Goals as goal

pub returns-in-Refusal : goal.returns-in-Refusal
returns-in-Refusal c =
    let a = c.args in
    let d = a.out.now in
    refusal-put a.self.now d c.put_refused.new.out (drop (length d - a.at) (drop a.at d)) c.in-Refusal.line c.in-Refusal.number a.at c.put_refused.result
    c.in-Refusal.is (omega (arith, c.requires)) c.put_refused.ensures

pub returns-in-Param : goal.returns-in-Param
returns-in-Param c =
    let w = c.put_param in
    let l = c.in-Param.load in
    line_put _ _ _ _ _ _ (param_text (parameters_for l.setting)) c.requires w.auto.out w.ensures.out_after w.ensures.lower_bound
    (param-comes _ l c.in-Param.is)

pub returns-in-Matrix : goal.returns-in-Matrix
returns-in-Matrix c =
    let w = c.put_matrix-end in
    let l = c.in-Matrix.load in
    line_put _ _ _ _ _ _ (matrix_text (parameters_for l.setting) l.state) c.requires w.auto.out w.ensures.out_after.0 w.ensures.at_lt_at
    (matrix-comes _ l w.new.state c.in-Matrix.is w.ensures.out_after.1)

pub returns-in-First : goal.returns-in-First
returns-in-First c =
    let w = c.put_witness-end in
    let l = c.in-First.load in
    line_put _ _ _ _ _ _ (witness_text (parameters_for l.setting) l.state) c.requires w.auto.out w.ensures.out_after.0 w.ensures.at_lt_at
    (first-comes _ l w.new.state c.next_pair.result c.next_pair.ensures c.in-First.is w.ensures.out_after.1)

pub returns-in-Leaf : goal.returns-in-Leaf
returns-in-Leaf c =
    let w = c.put_witness-end-in-Leaf in
    let l = c.in-Leaf.load in
    line_put _ _ _ _ _ _ (witness_text (parameters_for l.setting) l.state) c.requires w.auto.out w.ensures.out_after.0 w.ensures.at_lt_at
    (leaf-comes _ l w.new.state c.in-Leaf.is w.ensures.out_after.1)

pub returns-in-Challenge : goal.returns-in-Challenge
returns-in-Challenge c =
    let w = c.put_challenge-end in
    let l = c.in-Challenge.load in
    let next = c.next_pair-in-Challenge in
    line_put _ _ _ _ _ _ (challenge_text (parameters_for l.setting) l.state) c.requires w.auto.out w.ensures.out_after.0 w.ensures.at_lt_at
    (challenge-comes _ l w.new.state next.result next.ensures c.in-Challenge.is w.ensures.out_after.1)
