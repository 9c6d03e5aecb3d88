-- What an input of the load program comes to, line by line as it is cut, and how much of it decides.
use mathlib.Core.Path.{◌≡◌, refl, sym, ◌∙◌, ap, subst}
use mathlib.Core.Logic.{◌⊎◌, inl, inr}
use mathlib.Core.Bool.{Bool, true, false, cond}
use mathlib.Core.List.{List, [], ◌∷◌, ◌++◌, append-nil}
use Rattle.std.specs.Prelude.{Option, Some, None}
use Prim.Native.Nat.{ℕ, zero, suc, ◌+◌, ◌*◌, ◌≤◌, ◌<◌}
use native.Mathlib.Omega.{arith}
use borrow.Author.Tests.{le-leb}
use lib.Dec.{leb}
use lib.ListN.{length, get_or, take, drop, take-append-drop}
use lib.Seq.{length-take-le, take_all}
use Rattle.integers.proofs.Tests.{le_or_lt}
use Rattle.integers.specs.Ranges.{◌to◌, within}
use Rattle.settings.specs.Settings.{Parameters}
use Rattle.text.specs.Fields.{record_of, read_u64}
use Rattle.line_machines.specs.Machines.{Step, longest_line, line_step, last_output, feed_all, feed_output, bytewise}
use Rattle.line_machines.specs.Cuts.{CutTo, cut_of}
use Rattle.line_machines.proofs.Bytes.{takes-nothing, too_long, feeds_nothing, any_input, by_bytes}
use Rattle.line_machines.proofs.Cutting.{line-cut, line_open}
use Rattle.line_machines.proofs.Prefixes.{Halts, HaltsAfter, enough}
use Rattle.chain.specs.Params.{param_word, param_setting, param_refusal}
use Rattle.chain.specs.Reports.{refused_line}
use Rattle.loads.specs.Files.{chain_file}
use Rattle.loads.specs.Loads.{Stage, param, load, end, stopped, State, next, refuse, load_word, most_loaded, on_setting, on_param, on_load, take_due, is_stopped, bad_line, end_due, load_machine, load_program}
use Rattle.loads.proofs.Stopping.{load-stops}

-- what is printed where so many lines were taken, this is due, and these bytes are still to come
abbrev from : ℕ → Stage → List ℕ → List ℕ
from line stage bytes = bytewise load_machine (record { state = record { line = line; stage = stage }; pending = [] }) bytes

-- from the first byte on
pub from_start : (input : List ℕ) → from 0 param input ≡ load_program input
from_start input = by_bytes load_machine load-stops input

-- ---- a line, by where the input was cut

module _ (line : ℕ) (stage : Stage) (input : List ℕ) (c : CutTo) (e : c ≡ cut_of [] input) where
  abbrev state : State
  state = record { line = line; stage = stage }

  -- a line that is refused: nothing more is printed
  pub line_refused : (number : ℕ) → c.ended ≡ true → line_step load_machine state c.pending ≡ refuse line number → from line stage input ≡ refused_line (line + 1) number
  unfolding is_stopped
  line_refused number o t =
      line-cut load_machine state input c e o
      ∙ ap (λ (u : Step State). u.output ++ bytewise load_machine (record { state = u.state; pending = [] }) (drop c.used input)) t
      ∙ ap (λ (r : List ℕ). refused_line (line + 1) number ++ r) (feeds_nothing load_machine load-stops (record { state = record { line = line + 1; stage = stopped }; pending = [] }) (drop c.used input) refl)
      ∙ append-nil (refused_line (line + 1) number)

  -- a line that has not ended, or is missing
  module _ (due : end_due line stage ≡ refused_line (line + 1) 13) (runs : is_stopped stage ≡ false) where
    bad_refused : bad_line line stage ≡ refuse line 13
    unfolding bad_line
    bad_refused = rw runs refl

    last-refused : (rest : List ℕ) → last_output load_machine state rest ≡ refused_line (line + 1) 13
    unfolding last_output
    last-refused [] = due
    last-refused (x ∷ rest) = ap (λ (t : Step State). t.output) bad_refused

    pub line_unended : c.ended ≡ false → from line stage input ≡ refused_line (line + 1) 13
    line_unended o = line_open load_machine state input c e o ∙ last-refused c.pending

    -- one that is too long
    pub line-long : c.ended ≡ true → longest_line < length c.pending → from line stage input ≡ refused_line (line + 1) 13
    line-long o h = line_refused 13 o (too_long load_machine load-stops state c.pending h ∙ bad_refused)

  -- a line that is taken: the bytes after it are still to come
  pub line_taken : (due : Stage) → c.ended ≡ true → line_step load_machine state c.pending ≡ next line due → from line stage input ≡ from (line + 1) due (drop c.used input)
  line_taken due o t =
      line-cut load_machine state input c e o
      ∙ ap (λ (u : Step State). u.output ++ bytewise load_machine (record { state = u.state; pending = [] }) (drop c.used input)) t

-- a line that is not too long is taken by what is due
pub line-short : (s : State) (text : List ℕ) → length text ≤ longest_line → line_step load_machine s text ≡ take_due s.line s.stage text
unfolding line_step
line-short s text h = rw (le-leb (length text) longest_line h) refl

-- a setting whose first refusal has this number
pub setting-refused : (line : ℕ) (p : Parameters) (r : ℕ) → (r ≡ 0 → ⊥) → on_setting line p r ≡ refuse line r
unfolding on_setting
setting-refused line p zero ne = absurd (ne refl)
setting-refused line p (suc r) ne = refl

-- ---- the end of the input, and a third line

pub file_printed : (line : ℕ) (p : Parameters) (count seed : ℕ) → from line (end p count seed) [] ≡ chain_file p count seed
unfolding feed_output feed_all last_output end_due
file_printed line p count seed = refl

module _ (line : ℕ) (p : Parameters) (count seed : ℕ) where
  -- in every line that comes then, bad or not, the number 13
  third_halts : Halts load_machine (record { line = line; stage = end p count seed })
  unfolding take_due bad_line is_stopped
  third_halts = record { step = refuse line 13; same_line = λ text. refl; same_bad = refl; stopped = refl }

  pub third-refused : (bytes : List ℕ) → 0 < length bytes → from line (end p count seed) bytes ≡ refused_line (line + 1) 13
  unfolding third_halts
  third-refused [] h = absurd (omega arith)
  third-refused (b ∷ bytes) h =
      let t = third_halts in
      any_input load_machine load-stops (record { line = line; stage = end p count seed }) t.step t.same_line t.same_bad t.stopped b bytes

-- ---- two lines and one byte decide

-- a run that has stopped
halts_stopped : (n : ℕ) (s : State) → is_stopped s.stage ≡ true → HaltsAfter load_machine n s
halts_stopped zero s h = record { step = record { state = s; output = [] }; same_line = λ text. load-stops.no_line s text h; same_bad = load-stops.no_bad s h; stopped = h }
halts_stopped (suc n) s h = λ text. subst (HaltsAfter load_machine n) (sym (ap (λ (t : Step State). t.state) (takes-nothing load_machine load-stops s text h))) (halts_stopped n s h)

halts_either : (n : ℕ) (c : Bool) (t u : Step State) → HaltsAfter load_machine n t.state → HaltsAfter load_machine n u.state → HaltsAfter load_machine n (cond c t u).state
halts_either n true t u h k = h
halts_either n false t u h k = k

on-load : (line : ℕ) (p : Parameters) (o : Option (List ℕ)) → HaltsAfter load_machine 0 (on_load line p o).state
unfolding on_load is_stopped
on-load line p None = halts_stopped 0 _ refl
on-load line p (Some xs) = halts_either 0 (within (1 to most_loaded) (get_or xs 0 0)) _ _ (third_halts (line + 1) p (get_or xs 0 0) (get_or xs 1 0)) (halts_stopped 0 _ refl)

-- after `load` every line halts, and after `param` every second one
after-load : (line : ℕ) (p : Parameters) → HaltsAfter load_machine 1 (record { line = line; stage = load p })
unfolding line_step take_due
after-load line p = λ text. halts_either 0 (leb (length text) longest_line) _ _ (on-load line p (record_of read_u64 load_word 2 text)) (halts_stopped 0 _ (load-stops.by_bad (record { line = line; stage = load p })))

on-setting : (line : ℕ) (p : Parameters) (r : ℕ) → HaltsAfter load_machine 1 (on_setting line p r).state
unfolding on_setting is_stopped
on-setting line p zero = after-load (line + 1) p
on-setting line p (suc r) = halts_stopped 1 _ refl

after-param : (line : ℕ) → HaltsAfter load_machine 2 (record { line = line; stage = param })
unfolding line_step take_due on_param
after-param line = λ text. halts_either 1 (leb (length text) longest_line) _ _
    (on-setting line (param_setting (record_of read_u64 param_word 5 text)) (param_refusal (record_of read_u64 param_word 5 text)))
    (halts_stopped 1 _ (load-stops.by_bad (record { line = line; stage = param })))

-- so the first two lines and one byte decide what is printed
pub prefix_decides : (n : ℕ) (input : List ℕ) → 2 * (longest_line + 1) < n → load_program (take n input) ≡ load_program input
prefix_decides n input h = by (le_or_lt (length input) n)
  where
    by : (length input ≤ n) ⊎ (n < length input) → load_program (take n input) ≡ load_program input
    by (inl l) = ap load_program (take_all n input l)
    by (inr l) =
        let long : length (take n input) ≡ n = length-take-le n input (omega arith) in
        sym (from_start (take n input))
        ∙ sym (enough load_machine load-stops 2 load_machine.start (after-param 0) (take n input) (drop n input) (omega (arith, long, h)))
        ∙ ap (from 0 param) (take-append-drop n input)
        ∙ from_start input
