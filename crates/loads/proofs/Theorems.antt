-- What is proved of test loads, in one place: what is drawn, the chain file's lines, the chain program on the file, and the load
-- program.
use mathlib.Core.Path.{◌≡◌}
use mathlib.Core.Logic.{◌⊎◌}
use mathlib.Core.List.{List, ◌++◌}
use Prim.Native.Nat.{ℕ, ◌+◌, ◌*◌, ◌^◌, ◌≤◌, ◌<◌}
use lib.ListN.{take}
use mir.Syntax.{w64}
use mir.Val.{SFits}
use Rattle.settings.specs.Rules.{first_of}
use Rattle.settings.specs.Settings.{Parameters}
use Rattle.numerals.specs.Numerals.{decimal, decimal_Z}
use Rattle.text.specs.Fields.{read_u64, read_i64, read_ternary}
use Rattle.text.specs.Lines.{ternary_numeral}
use Rattle.text.proofs.Records.{Each}
use Rattle.line_machines.specs.Machines.{longest_line, unfed, bytewise, chunked, whole}
use Rattle.line_machines.proofs.Bytes as Bytes
use Rattle.lova.specs.Stored.{matrix_A, matrix_S, size_C}
use Rattle.lova.specs.Calls.{Fits, FitsC, Short, Ternary}
use Rattle.chain.specs.Limits.{program_rules}
use Rattle.chain.specs.Params.{param_word}
use Rattle.chain.specs.Reports.{leaf_word}
use Rattle.chain.specs.Chain.{a_word, c_word}
use Rattle.chain.specs.Program.{program}
use Rattle.loads.specs.Files.{radius_of, drawn_A, drawn_S, drawn_c, param_text, chain_file}
use Rattle.loads.specs.Loads.{most_loaded, load_machine, load_program}
use Rattle.loads.specs.Outputs.{file_output}
use Rattle.loads.proofs.Stopping.{load-stops}
use Rattle.loads.proofs.Settings.{usable}
use Rattle.loads.proofs.Drawn as Drawn
use Rattle.loads.proofs.Lines as Lines
use Rattle.loads.proofs.Lines.{ReadBack, five}
use Rattle.loads.proofs.Taking as Taking
use Rattle.loads.proofs.Asking.{load_text, InRange}
use Rattle.loads.proofs.CutLines as CutLines
use Rattle.loads.proofs.Deciding as Deciding
use Rattle.loads.proofs.Deciding.{Refused, Loaded}
use Rattle.loads.proofs.Printing as Printing
use Rattle.loads.proofs.Piping as Piping

-- ---- what is drawn, from every seed and every state

-- r² m ≤ B, and no greater number has it
pub radius-greatest : (p : Parameters) → 1 ≤ p.m → p.bound ≤ 2 ^ 62 → (radius_of p * radius_of p * p.m ≤ p.bound) × ((x : ℕ) → x * x * p.m ≤ p.bound → x ≤ radius_of p)
radius-greatest = Drawn.radius-greatest

-- leaves are never too long
pub leaves-short : (p : Parameters) → 1 ≤ p.m → p.bound ≤ 2 ^ 62 → (s : ℕ) → Short p (drawn_S p s)
leaves-short = Drawn.leaves-short

-- challenges are ternary
pub challenges_ternary : (p : Parameters) (s : ℕ) → Ternary p (drawn_c p s)
challenges_ternary = Drawn.challenges_ternary

-- each has the stated length
pub lengths_stated : (p : Parameters) (s : ℕ) → Fits (matrix_A p) (drawn_A p s) × Fits (matrix_S p) (drawn_S p s) × FitsC p (drawn_c p s)
lengths_stated p s = (Drawn.A-fits p s, Drawn.S-fits p s, Drawn.C-fits p s)

-- the entries of A are unsigned words, those of a witness signed ones
pub entries_fit : (p : Parameters) → 1 ≤ p.m → p.bound ≤ 2 ^ 62 → (s : ℕ) → Each (λ x. x < 2 ^ 64) (drawn_A p s) × Each (SFits w64) (drawn_S p s)
entries_fit p m-low B_high s = (Drawn.A-words p s, Drawn.S-words p m-low B_high s)

-- ---- the lines of the file: each is read back as what was drawn, it is not too long, and it has no line feed inside

pub param-back : (p : Parameters) → first_of (program_rules p) ≡ 0 → ReadBack read_u64 decimal param_word 5 (five p)
param-back p e = Lines.param-back p (usable p e)

pub matrix-back : (p : Parameters) → first_of (program_rules p) ≡ 0 → (s : ℕ) → ReadBack read_u64 decimal a_word (matrix_A p).size (drawn_A p s)
matrix-back p e = Lines.matrix-back p (usable p e)

pub witness-back : (p : Parameters) → first_of (program_rules p) ≡ 0 → (s : ℕ) → ReadBack read_i64 decimal_Z leaf_word (matrix_S p).size (drawn_S p s)
witness-back p e = Lines.witness-back p (usable p e)

pub challenge-back : (p : Parameters) → first_of (program_rules p) ≡ 0 → (s : ℕ) → ReadBack read_ternary ternary_numeral c_word (size_C p) (drawn_c p s)
challenge-back p e = Lines.challenge-back p (usable p e)

-- ---- the chain program on the file

-- it refuses no line, every fold says yes with the plain tree's instance and leaf count, and the end is member
pub load-is-taken : (p : Parameters) (count seed : ℕ) → first_of (program_rules p) ≡ 0 → 1 ≤ count → count ≤ most_loaded → program (chain_file p count seed) ≡ file_output p count seed
load-is-taken p count seed e low high = Taking.load-is-taken p e count seed low high

-- ---- the load program

-- byte by byte is line by line
pub by_bytes : (input : List ℕ) → bytewise load_machine (unfed load_machine) input ≡ load_program input
by_bytes = Bytes.by_bytes load_machine load-stops

-- in whatever chunks the input comes, the program prints the same
pub any_chunks : (cs : List (List ℕ)) → chunked load_machine (unfed load_machine) cs ≡ load_program (whole cs)
any_chunks = Bytes.any_chunks load_machine load-stops

-- the first two lines and one byte decide: a longer beginning of the input prints the same
pub prefix_decides : (n : ℕ) (input : List ℕ) → 2 * (longest_line + 1) < n → load_program (take n input) ≡ load_program input
prefix_decides = CutLines.prefix_decides

-- it prints one refusal, or the input is a `param` and a `load` line and it prints their chain file
pub load_decided : (input : List ℕ) → Refused (load_program input) ⊎ Loaded input (load_program input)
load_decided = Deciding.load_decided

-- and never both
pub never_both : (input output : List ℕ) → Refused output → Loaded input output → ⊥
never_both = Deciding.never_both

-- for every such two lines it does print the file
pub load-prints : (p : Parameters) → first_of (program_rules p) ≡ 0 → (count seed : ℕ) → InRange count seed → load_program (param_text p ++ load_text count seed) ≡ chain_file p count seed
load-prints = Printing.load-prints

-- what it prints without a refusal, the chain program takes
pub piped : (input : List ℕ) → (Refused (load_program input) → ⊥)
    → (r : Loaded input (load_program input)) × (program (load_program input) ≡ file_output r.setting r.count r.seed)
piped = Piping.piped
