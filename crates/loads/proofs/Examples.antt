-- The definitions, computed: the file of a small load, and refusals.
use mathlib.Core.Path.{◌≡◌, refl}
use mathlib.Core.List.{[], ◌∷◌}
use Rattle.integers.specs.Lists.{build}
use Rattle.settings.specs.Rules.{first_of}
use Rattle.settings.specs.Settings.{greatest, LOf, repunit}
use Rattle.settings.specs.HouseList.{parameters}
use Rattle.numerals.specs.Numerals.{is_digit, are_digits, is_plain, value_from, natural_from, natural, fit_unsigned, read_unsigned, decimal_in, decimal, decimal_Z}
use Rattle.text.specs.Fields.{onto, cut_at, same, push, exactly, after_word, record_of, read_u64}
use Rattle.text.specs.Lines.{tabbed, joined, line_of, ternary_numeral}
use Rattle.line_machines.specs.Machines.{line_step, last_output, printed, output_of}
use Rattle.chain.specs.Limits.{small}
use Rattle.chain.specs.Params.{param_setting, param_refusal}
use Rattle.chain.specs.Reports.{refused_line}
use Rattle.draws.specs.Draws.{next, after, drawn, radius_from, radius}
use Rattle.loads.specs.Files.{drawn_A, drawn_S, drawn_c, param_text, matrix_text, witness_text, challenge_text, pairs_text, chain_file}
use Rattle.loads.specs.Loads.{on_setting, on_param, on_load, take_due, is_stopped, bad_line, end_due, load_program}

-- r at the house list's setting 1
pub radius_ten : radius 1 100 ≡ 10
unfolding radius_from
radius_ten = refl

-- the file of two leaves and the seed 1
abbrev seed-one : Type 0
seed-one = chain_file (parameters 1 1 1 2 100) 2 1 ≡ (112 ∷ 97 ∷ 114 ∷ 97 ∷ 109 ∷ 9 ∷ 49 ∷ 9 ∷ 49 ∷ 9 ∷ 49 ∷ 9 ∷ 50 ∷ 9 ∷ 49 ∷ 48 ∷ 48 ∷ 10 ∷ 97 ∷ 9 ∷ 55 ∷ 56 ∷ 48 ∷ 54 ∷ 56 ∷ 51 ∷ 49 ∷ 50 ∷ 54 ∷ 52 ∷ 55 ∷ 51 ∷ 53 ∷ 55 ∷ 53 ∷ 54 ∷ 52 ∷ 49 ∷ 50 ∷ 10 ∷ 108 ∷ 101 ∷ 97 ∷ 102 ∷ 9 ∷ 48 ∷ 10 ∷ 108 ∷ 101 ∷ 97 ∷ 102 ∷ 9 ∷ 48 ∷ 10 ∷ 99 ∷ 9 ∷ 49 ∷ 9 ∷ 48 ∷ 9 ∷ 49 ∷ 9 ∷ 49 ∷ 9 ∷ 48 ∷ 9 ∷ 48 ∷ 9 ∷ 48 ∷ 9 ∷ 48 ∷ 9 ∷ 45 ∷ 49 ∷ 9 ∷ 49 ∷ 10 ∷ [])

-- its two lines print it
abbrev load_one : Type 0
load_one = load_program (112 ∷ 97 ∷ 114 ∷ 97 ∷ 109 ∷ 9 ∷ 49 ∷ 9 ∷ 49 ∷ 9 ∷ 49 ∷ 9 ∷ 50 ∷ 9 ∷ 49 ∷ 48 ∷ 48 ∷ 10 ∷ 108 ∷ 111 ∷ 97 ∷ 100 ∷ 9 ∷ 50 ∷ 9 ∷ 49 ∷ 10 ∷ []) ≡ (112 ∷ 97 ∷ 114 ∷ 97 ∷ 109 ∷ 9 ∷ 49 ∷ 9 ∷ 49 ∷ 9 ∷ 49 ∷ 9 ∷ 50 ∷ 9 ∷ 49 ∷ 48 ∷ 48 ∷ 10 ∷ 97 ∷ 9 ∷ 55 ∷ 56 ∷ 48 ∷ 54 ∷ 56 ∷ 51 ∷ 49 ∷ 50 ∷ 54 ∷ 52 ∷ 55 ∷ 51 ∷ 53 ∷ 55 ∷ 53 ∷ 54 ∷ 52 ∷ 49 ∷ 50 ∷ 10 ∷ 108 ∷ 101 ∷ 97 ∷ 102 ∷ 9 ∷ 48 ∷ 10 ∷ 108 ∷ 101 ∷ 97 ∷ 102 ∷ 9 ∷ 48 ∷ 10 ∷ 99 ∷ 9 ∷ 49 ∷ 9 ∷ 48 ∷ 9 ∷ 49 ∷ 9 ∷ 49 ∷ 9 ∷ 48 ∷ 9 ∷ 48 ∷ 9 ∷ 48 ∷ 9 ∷ 48 ∷ 9 ∷ 45 ∷ 49 ∷ 9 ∷ 49 ∷ 10 ∷ [])

-- the greatest seed
abbrev greatest-seed : Type 0
greatest-seed = load_program (112 ∷ 97 ∷ 114 ∷ 97 ∷ 109 ∷ 9 ∷ 49 ∷ 9 ∷ 49 ∷ 9 ∷ 49 ∷ 9 ∷ 50 ∷ 9 ∷ 49 ∷ 48 ∷ 48 ∷ 10 ∷ 108 ∷ 111 ∷ 97 ∷ 100 ∷ 9 ∷ 50 ∷ 9 ∷ 49 ∷ 56 ∷ 52 ∷ 52 ∷ 54 ∷ 55 ∷ 52 ∷ 52 ∷ 48 ∷ 55 ∷ 51 ∷ 55 ∷ 48 ∷ 57 ∷ 53 ∷ 53 ∷ 49 ∷ 54 ∷ 49 ∷ 53 ∷ 10 ∷ []) ≡ (112 ∷ 97 ∷ 114 ∷ 97 ∷ 109 ∷ 9 ∷ 49 ∷ 9 ∷ 49 ∷ 9 ∷ 49 ∷ 9 ∷ 50 ∷ 9 ∷ 49 ∷ 48 ∷ 48 ∷ 10 ∷ 97 ∷ 9 ∷ 49 ∷ 51 ∷ 53 ∷ 50 ∷ 53 ∷ 51 ∷ 48 ∷ 50 ∷ 56 ∷ 57 ∷ 48 ∷ 55 ∷ 53 ∷ 49 ∷ 55 ∷ 50 ∷ 50 ∷ 48 ∷ 49 ∷ 56 ∷ 10 ∷ 108 ∷ 101 ∷ 97 ∷ 102 ∷ 9 ∷ 52 ∷ 10 ∷ 108 ∷ 101 ∷ 97 ∷ 102 ∷ 9 ∷ 45 ∷ 49 ∷ 48 ∷ 10 ∷ 99 ∷ 9 ∷ 45 ∷ 49 ∷ 9 ∷ 48 ∷ 9 ∷ 49 ∷ 9 ∷ 49 ∷ 9 ∷ 45 ∷ 49 ∷ 9 ∷ 48 ∷ 9 ∷ 49 ∷ 9 ∷ 49 ∷ 9 ∷ 49 ∷ 9 ∷ 45 ∷ 49 ∷ 10 ∷ [])

-- a third line, though it is empty
abbrev third-line : Type 0
third-line = load_program (112 ∷ 97 ∷ 114 ∷ 97 ∷ 109 ∷ 9 ∷ 49 ∷ 9 ∷ 49 ∷ 9 ∷ 49 ∷ 9 ∷ 50 ∷ 9 ∷ 49 ∷ 48 ∷ 48 ∷ 10 ∷ 108 ∷ 111 ∷ 97 ∷ 100 ∷ 9 ∷ 50 ∷ 9 ∷ 49 ∷ 10 ∷ 10 ∷ []) ≡ (114 ∷ 101 ∷ 102 ∷ 117 ∷ 115 ∷ 101 ∷ 100 ∷ 9 ∷ 51 ∷ 9 ∷ 49 ∷ 51 ∷ 10 ∷ [])

-- a byte after the second line
abbrev third_byte : Type 0
third_byte = load_program (112 ∷ 97 ∷ 114 ∷ 97 ∷ 109 ∷ 9 ∷ 49 ∷ 9 ∷ 49 ∷ 9 ∷ 49 ∷ 9 ∷ 50 ∷ 9 ∷ 49 ∷ 48 ∷ 48 ∷ 10 ∷ 108 ∷ 111 ∷ 97 ∷ 100 ∷ 9 ∷ 50 ∷ 9 ∷ 49 ∷ 10 ∷ 120 ∷ []) ≡ (114 ∷ 101 ∷ 102 ∷ 117 ∷ 115 ∷ 101 ∷ 100 ∷ 9 ∷ 51 ∷ 9 ∷ 49 ∷ 51 ∷ 10 ∷ [])

-- no leaf
abbrev no_leaves : Type 0
no_leaves = load_program (112 ∷ 97 ∷ 114 ∷ 97 ∷ 109 ∷ 9 ∷ 49 ∷ 9 ∷ 49 ∷ 9 ∷ 49 ∷ 9 ∷ 50 ∷ 9 ∷ 49 ∷ 48 ∷ 48 ∷ 10 ∷ 108 ∷ 111 ∷ 97 ∷ 100 ∷ 9 ∷ 48 ∷ 9 ∷ 49 ∷ 10 ∷ []) ≡ (114 ∷ 101 ∷ 102 ∷ 117 ∷ 115 ∷ 101 ∷ 100 ∷ 9 ∷ 50 ∷ 9 ∷ 49 ∷ 51 ∷ 10 ∷ [])

-- 1001 leaves
abbrev too_many_leaves : Type 0
too_many_leaves = load_program (112 ∷ 97 ∷ 114 ∷ 97 ∷ 109 ∷ 9 ∷ 49 ∷ 9 ∷ 49 ∷ 9 ∷ 49 ∷ 9 ∷ 50 ∷ 9 ∷ 49 ∷ 48 ∷ 48 ∷ 10 ∷ 108 ∷ 111 ∷ 97 ∷ 100 ∷ 9 ∷ 49 ∷ 48 ∷ 48 ∷ 49 ∷ 9 ∷ 49 ∷ 10 ∷ []) ≡ (114 ∷ 101 ∷ 102 ∷ 117 ∷ 115 ∷ 101 ∷ 100 ∷ 9 ∷ 50 ∷ 9 ∷ 49 ∷ 51 ∷ 10 ∷ [])

-- the second line is missing
abbrev load_missing : Type 0
load_missing = load_program (112 ∷ 97 ∷ 114 ∷ 97 ∷ 109 ∷ 9 ∷ 49 ∷ 9 ∷ 49 ∷ 9 ∷ 49 ∷ 9 ∷ 50 ∷ 9 ∷ 49 ∷ 48 ∷ 48 ∷ 10 ∷ []) ≡ (114 ∷ 101 ∷ 102 ∷ 117 ∷ 115 ∷ 101 ∷ 100 ∷ 9 ∷ 50 ∷ 9 ∷ 49 ∷ 51 ∷ 10 ∷ [])

-- a setting that growth refuses
abbrev growth : Type 0
growth = load_program (112 ∷ 97 ∷ 114 ∷ 97 ∷ 109 ∷ 9 ∷ 49 ∷ 9 ∷ 49 ∷ 9 ∷ 49 ∷ 9 ∷ 50 ∷ 9 ∷ 57 ∷ 57 ∷ 10 ∷ []) ≡ (114 ∷ 101 ∷ 102 ∷ 117 ∷ 115 ∷ 101 ∷ 100 ∷ 9 ∷ 49 ∷ 9 ∷ 53 ∷ 10 ∷ [])

-- no line at all
abbrev empty : Type 0
empty = load_program [] ≡ (114 ∷ 101 ∷ 102 ∷ 117 ∷ 115 ∷ 101 ∷ 100 ∷ 9 ∷ 49 ∷ 9 ∷ 49 ∷ 51 ∷ 10 ∷ [])

pub examples : seed-one × load_one × greatest-seed × third-line × third_byte × no_leaves × too_many_leaves × load_missing × growth × empty
unfolding build first_of greatest LOf repunit is_digit are_digits is_plain value_from natural_from natural fit_unsigned read_unsigned decimal_in decimal decimal_Z onto cut_at same push exactly after_word record_of tabbed joined line_of ternary_numeral line_step last_output printed output_of small param_setting param_refusal refused_line next after drawn radius_from drawn_A drawn_S drawn_c param_text matrix_text witness_text challenge_text pairs_text chain_file on_setting on_param on_load take_due is_stopped bad_line end_due
examples = (refl, refl, refl, refl, refl, refl, refl, refl, refl, refl)
