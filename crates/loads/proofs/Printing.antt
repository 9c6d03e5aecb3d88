-- The load program prints the chain file that it is asked for.
use mathlib.Core.Path.{◌≡◌, refl, sym, ◌∙◌, ap}
use mathlib.Core.List.{List, [], ◌∷◌, ◌++◌, map, append-nil}
use Prim.Native.Nat.{ℕ}
use native.Mathlib.Omega.{arith}
use borrow.Author.Tests.{le-leb}
use Rattle.settings.specs.Rules.{first_of}
use Rattle.settings.specs.Settings.{Parameters}
use Rattle.numerals.specs.Bytes.{lacks}
use Rattle.numerals.specs.Numerals.{decimal}
use Rattle.text.specs.Fields.{cut_at, read_u64}
use Rattle.text.specs.Lines.{joined}
use Rattle.line_machines.specs.Machines.{lines, last_output, printed, output_of}
use Rattle.chain.specs.Limits.{program_rules}
use Rattle.chain.specs.Params.{param_word, param_setting, param_refusal}
use Rattle.loads.specs.Files.{param_text, chain_file}
use Rattle.loads.specs.Loads.{param, load, end, next, load_word, most_loaded, on_setting, on_param, on_load, take_due, end_due, load_machine, load_program}
use Rattle.loads.proofs.Stopping.{load-stops}
use Rattle.loads.proofs.Settings.{usable}
use Rattle.loads.proofs.Lines.{ReadBack, five, words_back, param-back}
use Rattle.loads.proofs.Inputs.{line_shown}
use Rattle.loads.proofs.Asking.{load_fields, load_text, InRange, at}

module _ (p : Parameters) (e : first_of (program_rules p) ≡ 0) (count seed : ℕ) (r : InRange count seed) where
  abbrev param_fields : List (List ℕ)
  param_fields = param_word ∷ map decimal (five p)

  -- the `param` line is taken
  takes-param : take_due 0 param (joined param_fields) ≡ next 0 (load p)
  unfolding take_due on_param on_setting param_setting param_refusal
  takes-param = rw ((param-back p (usable p e)).back, e) refl

  -- the `load` line is read back, and it is taken
  load-back : ReadBack read_u64 decimal load_word 2 (count ∷ seed ∷ [])
  unfolding lacks
  load-back = words_back load_word 2 (count ∷ seed ∷ []) (omega (arith, r.high), (r.word, tt)) refl (omega arith) refl refl

  takes-load : take_due 1 (load p) (joined (load_fields count seed)) ≡ next 1 (end p count seed)
  unfolding take_due on_load
  takes-load = rw (load-back.back, le-leb 1 count r.low, le-leb count most_loaded r.high) refl

  pub load-prints : load_program (param_text p ++ load_text count seed) ≡ chain_file p count seed
  unfolding output_of param_text cut_at printed last_output end_due
  load-prints =
      let first = param-back p (usable p e) in
      line_shown load_machine load-stops (at 0 param) param_fields (load_text count seed) first.one first.short
      ∙ rw takes-param
      (ap (λ (bs : List ℕ). printed load_machine (at 1 (load p)) (lines bs)) (sym (append-nil (load_text count seed)))
      ∙ line_shown load_machine load-stops (at 1 (load p)) (load_fields count seed) [] load-back.one load-back.short
      ∙ rw takes-load refl)
