-- What an input comes to, by its two lines.
use mathlib.Core.Path.{◌≡◌, refl, sym, ◌∙◌, ap}
use mathlib.Core.Bool.{Bool, true, false}
use mathlib.Core.List.{List, [], ◌++◌}
use Rattle.std.specs.Prelude.{Option, Some, None, Ok, Err}
use Rattle.std.proofs.Common.{inl, inr}
use Prim.Native.Nat.{ℕ, ◌+◌, ◌-◌, ◌≤◌, ◌<◌}
use native.Mathlib.Omega.{arith}
use lib.ListN.{length, take, drop, length-drop, drop_of_length-le}
use lib.Seq.{take_all, take-append_seam}
use Rattle.settings.specs.Settings.{Parameters, parameters_of}
use Rattle.settings.specs.declared.Setting.{Setting}
use Rattle.text.specs.Fields.{record_of, read_u64}
use Rattle.line_machines.specs.Machines.{line_step}
use Rattle.line_machines.specs.Cuts.{CutTo, cut_to, cut_of}
use Rattle.line_machines.specs.declared.Cut.{Cut}
use Rattle.chain.specs.Params.{param_word, param_setting, opened_of}
use Rattle.chain.specs.Reports.{refused_line}
use Rattle.param_lines.proofs.Opening.{opened-ok, opened-err}
use Rattle.loads.specs.Files.{chain_file}
use Rattle.loads.specs.Loads.{Stage, param, load, end, load_word, on_setting, on_param, take_due, is_stopped, end_due, load_machine, load_program}
use Rattle.loads.proofs.CutLines.{from_start, line_unended, line-long, line_refused, line_taken, line-short, setting-refused, file_printed, third-refused, prefix_decides}
use Rattle.load_runs.specs.Inputs.{enough_bytes, printed_from, NoLine, FirstLine, asked_of}
use Rattle.load_runs.proofs.Asking.{load_bad, load-taken}

-- what stands after the bytes that were used, as the part `&bytes[used..]` has it
pub rest-is : (bytes : List ℕ) (used : ℕ) → take (length bytes - used) (drop used bytes) ≡ drop used bytes
rest-is bytes used = take_all (length bytes - used) (drop used bytes) (rw length-drop (omega arith))

-- a full buffer has enough bytes to decide, whatever more would come
pub full-decides : (input more : List ℕ) (n : ℕ) → enough_bytes ≤ length input → n ≡ length input → load_program (input ++ more) ≡ load_program (take n input)
full-decides input more n h e =
    let all : take n input ≡ input = take_all n input (omega (arith, e)) in
    sym (prefix_decides (length input) (input ++ more) (omega arith)) ∙ ap load_program (take-append_seam input more ∙ sym all)

-- ---- no whole line comes: 13

module _ (bytes : List ℕ) (no : NoLine bytes) where
  missing : (line : ℕ) (stage : Stage) → end_due line stage ≡ refused_line (line + 1) 13 → is_stopped stage ≡ false
      → printed_from line stage bytes ≡ refused_line (line + 1) 13
  missing line stage due runs = go (cut_of [] bytes).ended refl no
    where
      open-line : (cut_of [] bytes).ended ≡ false → printed_from line stage bytes ≡ refused_line (line + 1) 13
      open-line = line_unended line stage bytes (cut_of [] bytes) refl due runs

      go : (e : Bool) → (cut_of [] bytes).ended ≡ e → NoLine bytes → printed_from line stage bytes ≡ refused_line (line + 1) 13
      go false e n = open-line e
      go true e (inl o) = open-line o
      go true e (inr l) = line-long line stage bytes (cut_of [] bytes) refl due runs e l

  pub first_missing : refused_line 1 13 ≡ load_program bytes
  unfolding end_due is_stopped
  first_missing = sym (sym (from_start bytes) ∙ missing 0 param refl refl)

  pub second-missing : (p : Parameters) → refused_line 2 13 ≡ printed_from 1 (load p) bytes
  unfolding end_due is_stopped
  second-missing p = sym (missing 1 (load p) refl refl)

-- ---- a whole line comes

module _ (bytes text : List ℕ) (k : Cut) (first : FirstLine bytes text k) where
  abbrev cut : CutTo
  cut = cut_to k.used text true

  step_is : (n : ℕ) (stage : Stage) → line_step load_machine (record { line = n; stage = stage }) text ≡ take_due n stage text
  step_is n stage = line-short (record { line = n; stage = stage }) text first.short

  -- the first line: 13, 1 to 6 or 14, or a setting
  abbrev five : Option (List ℕ)
  five = record_of read_u64 param_word 5 text

  pub first-refused : (number : ℕ) → Err number ≡ opened_of five → refused_line 1 number ≡ load_program bytes
  unfolding take_due on_param
  first-refused number is =
      let o = opened-err five number is in
      let refused = ap (on_setting 0 (param_setting five)) (sym o.1) ∙ setting-refused 0 (param_setting five) number (λ z. o.0 (sym o.1 ∙ z)) in
      sym (sym (from_start bytes) ∙ line_refused 0 param bytes cut first.is number refl (step_is 0 param ∙ refused))

  pub first_taken : (s : Setting) → Ok s ≡ opened_of five → printed_from 1 (load (parameters_of s)) (drop k.used bytes) ≡ load_program bytes
  unfolding take_due on_param on_setting
  first_taken s is =
      let o = opened-ok five s is in
      let taken = step_is 0 param ∙ ap (on_setting 0 (param_setting five)) o.0 in
      ap (λ (p : Parameters). printed_from 1 (load p) (drop k.used bytes)) o.1
      ∙ sym (sym (from_start bytes) ∙ line_taken 0 param bytes cut first.is (load (param_setting five)) refl taken)

  -- the second line: 13, or a leaf count and a seed
  module _ (p : Parameters) where
    abbrev two : Option (List ℕ)
    two = record_of read_u64 load_word 2 text

    pub second_bad : asked_of two ≡ None → refused_line 2 13 ≡ printed_from 1 (load p) bytes
    unfolding take_due
    second_bad bad = sym (line_refused 1 (load p) bytes cut first.is 13 refl (step_is 1 (load p) ∙ load_bad 1 p two bad))

    module _ (count seed : ℕ) (asked : asked_of two ≡ Some (count, seed)) where
      after : printed_from 1 (load p) bytes ≡ printed_from 2 (end p count seed) (drop k.used bytes)
      unfolding take_due
      after = line_taken 1 (load p) bytes cut first.is (end p count seed) refl (step_is 1 (load p) ∙ load-taken 1 p two count seed asked)

      -- something comes after it
      pub third-comes : k.used < length bytes → refused_line 3 13 ≡ printed_from 1 (load p) bytes
      third-comes more = sym (after ∙ third-refused 2 p count seed (drop k.used bytes) (rw length-drop (omega arith)))

      -- nothing does
      pub none-comes : length bytes ≤ k.used → chain_file p count seed ≡ printed_from 1 (load p) bytes
      none-comes all =
          sym (after ∙ ap (printed_from 2 (end p count seed)) (drop_of_length-le bytes all) ∙ file_printed 2 p count seed)
