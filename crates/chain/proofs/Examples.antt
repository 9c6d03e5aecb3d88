-- The definitions, computed: the example that document 01 prints, and a refusal of each kind.
use mathlib.Core.Path.{◌≡◌, refl}
use mathlib.Core.List.{List, [], ◌∷◌}
use Prim.Native.Nat.{ℕ}
use lib.IntN.{pos, negsuc}
use Rattle.integers.specs.Lists.{build}
use Rattle.integers.specs.Sums.{sum, sum_ℕ}
use Rattle.integers.specs.Residues.{residue}
use Rattle.integers.specs.Tests.{all}
use Rattle.matrices.specs.Tables.{table, ternary}
use Rattle.matrices.specs.Triangles.{lower, mirrored}
use Rattle.settings.specs.Rules.{first_of}
use Rattle.settings.specs.Settings.{k_of, greatest, LOf, repunit}
use Rattle.settings.specs.HouseList.{parameters}
use Rattle.digits.specs.Digits.{step_of, rest_of, digit_of}
use Rattle.line_machines.specs.Machines.{line_step, last_output, printed, output_of}
use Rattle.lova.specs.Answers.{unless_refused, refusal, refuses}
use Rattle.lova.specs.Tests.{every, eq_Z, short_right, diagonal_within, are_ternary, counts_join}
use Rattle.lova.specs.Fold.{beside, above, digit_witness, gadget}
use Rattle.lova.specs.Commit.{commit_rules, instance_in, commit_in}
use Rattle.lova.specs.Relation.{relation_rules, products_hold, commitment_holds, member_word, relation}
use Rattle.lova.specs.Message.{message_rules, prepared_as, message_in}
use Rattle.lova.specs.Verdict.{verdict_rules_as, diagonals_hold, first_holds, second_holds, folded_instance, verdict_by, judged, verdict_as, verdict_in}
use Rattle.lova.specs.Witness.{witness_rules, folded_witness, witness_in}
use Rattle.numerals.specs.Numerals.{is_digit, are_digits, is_plain, value_from, natural_from, natural, without_minus, with_minus, integer, fit_unsigned, fit_signed, read_unsigned, read_signed, decimal_in, decimal, decimal_Z}
use Rattle.text.specs.Fields.{onto, cut_at, same, push, exactly, after_word, record_of, read_ternary}
use Rattle.text.specs.Lines.{tabbed, joined, line_of}
use Rattle.chain.specs.Limits.{program_limits, largest, small, program_rules}
use Rattle.chain.specs.Params.{param_setting, param_refusal}
use Rattle.chain.specs.Nodes.{node_of, unless_refusing, fold_answer, calls_of, fold_of}
use Rattle.chain.specs.Reports.{word_of, numbers_of, leaf_text, fold_text, end_line, refused_line}
use Rattle.chain.specs.Chain.{State, challenge, tally, number_of, on_setting, on_param, on_matrix, on_leaf, on_challenge, take_due, is_stopped, bad_line, take_line, end_due}
use Rattle.chain.specs.Program.{program}

-- the printed example
abbrev example : Type 0
example = program (112 ∷ 97 ∷ 114 ∷ 97 ∷ 109 ∷ 9 ∷ 49 ∷ 9 ∷ 49 ∷ 9 ∷ 49 ∷ 9 ∷ 50 ∷ 9 ∷ 49 ∷ 48 ∷ 48 ∷ 10 ∷ 97 ∷ 9 ∷ 51 ∷ 10 ∷ 108 ∷ 101 ∷ 97 ∷ 102 ∷ 9 ∷ 55 ∷ 10 ∷ 108 ∷ 101 ∷ 97 ∷ 102 ∷ 9 ∷ 45 ∷ 53 ∷ 10 ∷ 99 ∷ 9 ∷ 49 ∷ 9 ∷ 49 ∷ 9 ∷ 49 ∷ 9 ∷ 48 ∷ 9 ∷ 48 ∷ 9 ∷ 45 ∷ 49 ∷ 9 ∷ 48 ∷ 9 ∷ 45 ∷ 49 ∷ 9 ∷ 48 ∷ 9 ∷ 48 ∷ 10 ∷ []) ≡ (108 ∷ 101 ∷ 97 ∷ 102 ∷ 9 ∷ 49 ∷ 9 ∷ 50 ∷ 49 ∷ 9 ∷ 52 ∷ 57 ∷ 9 ∷ 49 ∷ 10 ∷ 108 ∷ 101 ∷ 97 ∷ 102 ∷ 9 ∷ 50 ∷ 9 ∷ 49 ∷ 56 ∷ 52 ∷ 52 ∷ 54 ∷ 55 ∷ 52 ∷ 52 ∷ 48 ∷ 55 ∷ 51 ∷ 55 ∷ 48 ∷ 57 ∷ 53 ∷ 53 ∷ 49 ∷ 54 ∷ 48 ∷ 49 ∷ 9 ∷ 50 ∷ 53 ∷ 9 ∷ 49 ∷ 10 ∷ 102 ∷ 111 ∷ 108 ∷ 100 ∷ 9 ∷ 49 ∷ 9 ∷ 121 ∷ 101 ∷ 115 ∷ 9 ∷ 49 ∷ 53 ∷ 9 ∷ 50 ∷ 53 ∷ 9 ∷ 50 ∷ 10 ∷ 101 ∷ 110 ∷ 100 ∷ 9 ∷ 49 ∷ 9 ∷ 109 ∷ 101 ∷ 109 ∷ 98 ∷ 101 ∷ 114 ∷ 10 ∷ [])

-- one leaf ends with no fold
abbrev one-leaf : Type 0
one-leaf = program (112 ∷ 97 ∷ 114 ∷ 97 ∷ 109 ∷ 9 ∷ 49 ∷ 9 ∷ 49 ∷ 9 ∷ 49 ∷ 9 ∷ 50 ∷ 9 ∷ 49 ∷ 48 ∷ 48 ∷ 10 ∷ 97 ∷ 9 ∷ 51 ∷ 10 ∷ 108 ∷ 101 ∷ 97 ∷ 102 ∷ 9 ∷ 55 ∷ 10 ∷ []) ≡ (108 ∷ 101 ∷ 97 ∷ 102 ∷ 9 ∷ 49 ∷ 9 ∷ 50 ∷ 49 ∷ 9 ∷ 52 ∷ 57 ∷ 9 ∷ 49 ∷ 10 ∷ 101 ∷ 110 ∷ 100 ∷ 9 ∷ 48 ∷ 9 ∷ 109 ∷ 101 ∷ 109 ∷ 98 ∷ 101 ∷ 114 ∷ 10 ∷ [])

-- a missing line has the number after the last
abbrev empty : Type 0
empty = program [] ≡ (114 ∷ 101 ∷ 102 ∷ 117 ∷ 115 ∷ 101 ∷ 100 ∷ 9 ∷ 49 ∷ 9 ∷ 49 ∷ 51 ∷ 10 ∷ [])

-- what was printed stays
abbrev challenge_missing : Type 0
challenge_missing = program (112 ∷ 97 ∷ 114 ∷ 97 ∷ 109 ∷ 9 ∷ 49 ∷ 9 ∷ 49 ∷ 9 ∷ 49 ∷ 9 ∷ 50 ∷ 9 ∷ 49 ∷ 48 ∷ 48 ∷ 10 ∷ 97 ∷ 9 ∷ 51 ∷ 10 ∷ 108 ∷ 101 ∷ 97 ∷ 102 ∷ 9 ∷ 55 ∷ 10 ∷ 108 ∷ 101 ∷ 97 ∷ 102 ∷ 9 ∷ 45 ∷ 53 ∷ 10 ∷ []) ≡ (108 ∷ 101 ∷ 97 ∷ 102 ∷ 9 ∷ 49 ∷ 9 ∷ 50 ∷ 49 ∷ 9 ∷ 52 ∷ 57 ∷ 9 ∷ 49 ∷ 10 ∷ 108 ∷ 101 ∷ 97 ∷ 102 ∷ 9 ∷ 50 ∷ 9 ∷ 49 ∷ 56 ∷ 52 ∷ 52 ∷ 54 ∷ 55 ∷ 52 ∷ 52 ∷ 48 ∷ 55 ∷ 51 ∷ 55 ∷ 48 ∷ 57 ∷ 53 ∷ 53 ∷ 49 ∷ 54 ∷ 48 ∷ 49 ∷ 9 ∷ 50 ∷ 53 ∷ 9 ∷ 49 ∷ 10 ∷ 114 ∷ 101 ∷ 102 ∷ 117 ∷ 115 ∷ 101 ∷ 100 ∷ 9 ∷ 53 ∷ 9 ∷ 49 ∷ 51 ∷ 10 ∷ [])

-- a last line without its line feed is bad, whatever it says
abbrev no_line_feed : Type 0
no_line_feed = program (112 ∷ 97 ∷ 114 ∷ 97 ∷ 109 ∷ 9 ∷ 49 ∷ 9 ∷ 49 ∷ 9 ∷ 49 ∷ 9 ∷ 50 ∷ 9 ∷ 57 ∷ 57 ∷ []) ≡ (114 ∷ 101 ∷ 102 ∷ 117 ∷ 115 ∷ 101 ∷ 100 ∷ 9 ∷ 49 ∷ 9 ∷ 49 ∷ 51 ∷ 10 ∷ [])

-- a setting that growth refuses
abbrev growth : Type 0
growth = program (112 ∷ 97 ∷ 114 ∷ 97 ∷ 109 ∷ 9 ∷ 49 ∷ 9 ∷ 49 ∷ 9 ∷ 49 ∷ 9 ∷ 50 ∷ 9 ∷ 57 ∷ 57 ∷ 10 ∷ []) ≡ (114 ∷ 101 ∷ 102 ∷ 117 ∷ 115 ∷ 101 ∷ 100 ∷ 9 ∷ 49 ∷ 9 ∷ 53 ∷ 10 ∷ [])

-- 1 to 6 come before 14
abbrev growth-first : Type 0
growth-first = program (112 ∷ 97 ∷ 114 ∷ 97 ∷ 109 ∷ 9 ∷ 57 ∷ 9 ∷ 49 ∷ 9 ∷ 49 ∷ 9 ∷ 50 ∷ 9 ∷ 57 ∷ 57 ∷ 10 ∷ []) ≡ (114 ∷ 101 ∷ 102 ∷ 117 ∷ 115 ∷ 101 ∷ 100 ∷ 9 ∷ 49 ∷ 9 ∷ 53 ∷ 10 ∷ [])

-- a setting that is too large for the program
abbrev too_large : Type 0
too_large = program (112 ∷ 97 ∷ 114 ∷ 97 ∷ 109 ∷ 9 ∷ 57 ∷ 9 ∷ 49 ∷ 9 ∷ 49 ∷ 9 ∷ 50 ∷ 9 ∷ 49 ∷ 48 ∷ 48 ∷ 10 ∷ []) ≡ (114 ∷ 101 ∷ 102 ∷ 117 ∷ 115 ∷ 101 ∷ 100 ∷ 9 ∷ 49 ∷ 9 ∷ 49 ∷ 52 ∷ 10 ∷ [])

-- a column above B
abbrev too_long : Type 0
too_long = program (112 ∷ 97 ∷ 114 ∷ 97 ∷ 109 ∷ 9 ∷ 49 ∷ 9 ∷ 49 ∷ 9 ∷ 49 ∷ 9 ∷ 50 ∷ 9 ∷ 49 ∷ 48 ∷ 48 ∷ 10 ∷ 97 ∷ 9 ∷ 51 ∷ 10 ∷ 108 ∷ 101 ∷ 97 ∷ 102 ∷ 9 ∷ 49 ∷ 49 ∷ 10 ∷ []) ≡ (114 ∷ 101 ∷ 102 ∷ 117 ∷ 115 ∷ 101 ∷ 100 ∷ 9 ∷ 51 ∷ 9 ∷ 56 ∷ 10 ∷ [])

-- a line that is not due
abbrev not-due : Type 0
not-due = program (112 ∷ 97 ∷ 114 ∷ 97 ∷ 109 ∷ 9 ∷ 49 ∷ 9 ∷ 49 ∷ 9 ∷ 49 ∷ 9 ∷ 50 ∷ 9 ∷ 49 ∷ 48 ∷ 48 ∷ 10 ∷ 108 ∷ 101 ∷ 97 ∷ 102 ∷ 9 ∷ 55 ∷ 10 ∷ []) ≡ (114 ∷ 101 ∷ 102 ∷ 117 ∷ 115 ∷ 101 ∷ 100 ∷ 9 ∷ 50 ∷ 9 ∷ 49 ∷ 51 ∷ 10 ∷ [])

-- the printed example's run state before its `c` line, but with so many leaves under the accumulated node, and that line
abbrev due : ℕ → State
due leaves = record {
  counts = tally 4 2 0;
  stage = challenge (parameters 1 1 1 2 100) (3 ∷ []) (node_of (21 ∷ []) (pos 49 ∷ []) leaves (pos 7 ∷ [])) (node_of (18446744073709551601 ∷ []) (pos 25 ∷ []) 1 (negsuc 4 ∷ []));
}

abbrev c-line : List ℕ
c-line = 99 ∷ 9 ∷ 49 ∷ 9 ∷ 49 ∷ 9 ∷ 49 ∷ 9 ∷ 48 ∷ 9 ∷ 48 ∷ 9 ∷ 45 ∷ 49 ∷ 9 ∷ 48 ∷ 9 ∷ 45 ∷ 49 ∷ 9 ∷ 48 ∷ 9 ∷ 48 ∷ []

-- a fold may have 2^32 − 1 leaves
abbrev most-leaves : Type 0
most-leaves = (take_line (due 4294967294) c-line).output ≡ (102 ∷ 111 ∷ 108 ∷ 100 ∷ 9 ∷ 49 ∷ 9 ∷ 121 ∷ 101 ∷ 115 ∷ 9 ∷ 49 ∷ 53 ∷ 9 ∷ 50 ∷ 53 ∷ 9 ∷ 52 ∷ 50 ∷ 57 ∷ 52 ∷ 57 ∷ 54 ∷ 55 ∷ 50 ∷ 57 ∷ 53 ∷ 10 ∷ [])

-- and no more
abbrev too_many_leaves : Type 0
too_many_leaves = (take_line (due 4294967295) c-line).output ≡ (114 ∷ 101 ∷ 102 ∷ 117 ∷ 115 ∷ 101 ∷ 100 ∷ 9 ∷ 53 ∷ 9 ∷ 49 ∷ 53 ∷ 10 ∷ [])

pub examples : example × one-leaf × empty × challenge_missing × no_line_feed × growth × growth-first × too_large × too_long × not-due × most-leaves × too_many_leaves
unfolding build sum sum_ℕ residue table lower mirrored ternary first_of greatest LOf repunit step_of rest_of digit_of unless_refused all every eq_Z short_right diagonal_within are_ternary counts_join beside above digit_witness gadget commit_rules instance_in commit_in relation_rules products_hold commitment_holds member_word relation message_rules prepared_as message_in verdict_rules_as diagonals_hold first_holds second_holds folded_instance verdict_by judged verdict_in verdict_as witness_rules folded_witness witness_in is_digit are_digits is_plain value_from natural_from natural without_minus with_minus integer fit_unsigned fit_signed read_unsigned read_signed decimal_in decimal decimal_Z onto cut_at same push exactly after_word record_of read_ternary tabbed joined line_of small refusal refuses unless_refusing fold_answer calls_of fold_of word_of numbers_of leaf_text fold_text end_line refused_line number_of on_setting param_setting param_refusal on_param on_matrix on_leaf on_challenge take_due is_stopped bad_line line_step end_due last_output printed output_of
examples = (refl, refl, refl, refl, refl, refl, refl, refl, refl, refl, refl, refl)

-- the setting with the largest matrices is taken, and its k is the most
pub largest-is-taken : (first_of (program_rules largest) ≡ 0) × (k_of largest ≡ program_limits.k)
unfolding first_of greatest LOf repunit small
largest-is-taken = (refl, refl)
