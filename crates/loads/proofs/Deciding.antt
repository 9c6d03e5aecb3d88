-- What the load program prints for an input: one refusal, or the chain file that its two lines ask for.
use mathlib.Core.Path.{◌≡◌, refl, sym, ◌∙◌, ap, subst}
use mathlib.Core.Logic.{◌⊎◌, inl, inr}
use mathlib.Core.List.{List, [], ◌∷◌, ◌++◌, append_assoc, append-nil}
use Prim.Native.Nat.{ℕ, ◌+◌}
use native.Mathlib.Omega.{arith}
use lib.ListN.{get_or}
use Rattle.settings.specs.Rules.{first_of}
use Rattle.settings.specs.Settings.{Parameters}
use Rattle.text.specs.Lines.{joined, line_of}
use Rattle.line_machines.specs.Machines.{Step, lines, line_step, last_output, printed, output_of}
use Rattle.line_machines.proofs.Bytes.{prints-nothing}
use Rattle.chain.specs.Limits.{program_rules}
use Rattle.chain.specs.Reports.{refused_line}
use Rattle.loads.specs.Files.{param_text, chain_file}
use Rattle.loads.specs.Loads.{Stage, State, param, load, end, stopped, next, is_stopped, bad_line, end_due, load_machine, load_program}
use Rattle.loads.proofs.Inputs.{Begins, Unended, begins, begins_shown, unended_shown}
use Rattle.loads.proofs.Stopping.{load-stops}
use Rattle.loads.proofs.Asking.{load_text, InRange, at, Refuses, Opened, param_step, Asked, load_step, third-step}

-- one refusal is printed
pub record Refused (output : List ℕ) : Type 0 where
  pub line : ℕ
  pub number : ℕ
  pub prints : output ≡ refused_line line number

-- the input is a `param` line of a setting that the programs take and a `load` line with a count and a seed that are in range, and
-- the chain file of these is printed
pub record Loaded (input output : List ℕ) : Type 0 where
  pub setting : Parameters
  pub count : ℕ
  pub seed : ℕ
  pub accepted : first_of (program_rules setting) ≡ 0
  pub ranges : InRange count seed
  pub reads : input ≡ param_text setting ++ load_text count seed
  pub prints : output ≡ chain_file setting count seed

-- ---- from a run state on

abbrev shows : ℕ → Stage → List ℕ → List ℕ
shows n due bs = printed load_machine (at n due) (lines bs)

-- after a refusal nothing more is printed
refused_shown : (n : ℕ) (s : Step State) (rest : List ℕ) → Refuses n s → Refused (s.output ++ printed load_machine s.state (lines rest))
unfolding is_stopped
refused_shown n s rest r =
    let nothing : printed load_machine (at (n + 1) stopped) (lines rest) ≡ [] = prints-nothing load_machine load-stops (at (n + 1) stopped) (lines rest) refl in
    let one = refused_line (n + 1) r.0 in
    record {
      line = n + 1;
      number = r.0;
      prints = ap (λ (t : Step State). t.output ++ printed load_machine t.state (lines rest)) r.1 ∙ ap (λ (o : List ℕ). one ++ o) nothing ∙ append-nil one;
    }

-- where the run begins with a line that is refused
refused-line : (n : ℕ) (due : Stage) (bs : List ℕ) (b : Begins bs) → Refuses n (line_step load_machine (at n due) b.line) → Refused (shows n due bs)
refused-line n due bs b r = subst Refused (sym (begins_shown load_machine load-stops (at n due) bs b)) (refused_shown n (line_step load_machine (at n due) b.line) b.rest r)

-- a line that is taken, and then what comes after it
taken_shown : (n : ℕ) (due after : Stage) (bs : List ℕ) (b : Begins bs) → line_step load_machine (at n due) b.line ≡ next n after → shows n due bs ≡ shows (n + 1) after b.rest
taken_shown n due after bs b e = begins_shown load_machine load-stops (at n due) bs b ∙ ap (λ (t : Step State). t.output ++ printed load_machine t.state (lines b.rest)) e

-- the input ends where a line is due
missing_line : (n : ℕ) (due : Stage) (bs : List ℕ) → Unended bs → last_output load_machine (at n due) bs ≡ refused_line (n + 1) 13 → Refused (shows n due bs)
missing_line n due bs h e = record { line = n + 1; number = 13; prints = unended_shown load_machine load-stops (at n due) bs h ∙ e }

-- the end of the input is due
abbrev AtEnd : Parameters → ℕ → ℕ → List ℕ → List ℕ → Type 0
AtEnd p count seed bs output = Refused output ⊎ ((bs ≡ []) × (output ≡ chain_file p count seed))

at-end : (n : ℕ) (p : Parameters) (count seed : ℕ) (bs : List ℕ) → AtEnd p count seed bs (shows n (end p count seed) bs)
unfolding last_output bad_line is_stopped end_due
at-end n p count seed bs = go bs (begins bs)
  where
    go : (bs : List ℕ) → Begins bs ⊎ Unended bs → AtEnd p count seed bs (shows n (end p count seed) bs)
    go bs (inl b) = inl (refused-line n (end p count seed) bs b (third-step n p count seed b.line))
    go [] (inr h) = inr (refl, unended_shown load_machine load-stops (at n (end p count seed)) [] h)
    go (x ∷ bs) (inr h) = inl (missing_line n (end p count seed) (x ∷ bs) h refl)

-- `load` is due: the rest of the input is a `load` line
record Further (p : Parameters) (bs output : List ℕ) : Type 0 where
  count : ℕ
  seed : ℕ
  ranges : InRange count seed
  reads : bs ≡ load_text count seed
  prints : output ≡ chain_file p count seed

-- the text of a first line, and of what comes after it
both_texts : (bs : List ℕ) (b : Begins bs) (text more : List ℕ) → b.line ++ (10 ∷ []) ≡ text → b.rest ≡ more → bs ≡ text ++ more
both_texts bs b text more e h =
    b.is ∙ ap (λ (r : List ℕ). b.line ++ (10 ∷ r)) h ∙ sym (append_assoc b.line (10 ∷ []) more) ∙ ap (λ (t : List ℕ). t ++ more) e

abbrev AtLoad : ℕ → Parameters → List ℕ → Type 0
AtLoad n p bs = Refused (shows n (load p) bs) ⊎ Further p bs (shows n (load p) bs)

at_load : (n : ℕ) (p : Parameters) (bs : List ℕ) → AtLoad n p bs
unfolding last_output bad_line is_stopped end_due
at_load n p bs = go bs (begins bs)
  where
    -- the line is taken: what comes after it decides
    asked : (bs : List ℕ) (b : Begins bs) (a : Asked n p b.line (line_step load_machine (at n (load p)) b.line))
        → AtEnd p a.count a.seed b.rest (shows (n + 1) (end p a.count a.seed) b.rest) → AtLoad n p bs
    asked bs b a (inl r) = inl (subst Refused (sym (taken_shown n (load p) (end p a.count a.seed) bs b a.made)) r)
    asked bs b a (inr r) =
        let text = load_text a.count a.seed in
        inr (record {
          count = a.count;
          seed = a.seed;
          ranges = a.ranges;
          reads = both_texts bs b text [] a.reads r.0 ∙ append-nil text;
          prints = taken_shown n (load p) (end p a.count a.seed) bs b a.made ∙ r.1;
        })

    by-line : (bs : List ℕ) (b : Begins bs) → let s = line_step load_machine (at n (load p)) b.line in Refuses n s ⊎ Asked n p b.line s → AtLoad n p bs
    by-line bs b (inl r) = inl (refused-line n (load p) bs b r)
    by-line bs b (inr a) = asked bs b a (at-end (n + 1) p a.count a.seed b.rest)

    go : (bs : List ℕ) → Begins bs ⊎ Unended bs → AtLoad n p bs
    go bs (inl b) = by-line bs b (load_step n p b.line)
    go [] (inr h) = inl (missing_line n (load p) [] h refl)
    go (x ∷ bs) (inr h) = inl (missing_line n (load p) (x ∷ bs) h refl)

-- `param` is due
abbrev AtParam : ℕ → List ℕ → Type 0
AtParam n bs = Refused (shows n param bs) ⊎ Loaded bs (shows n param bs)

at-param : (n : ℕ) (bs : List ℕ) → AtParam n bs
unfolding last_output bad_line is_stopped end_due
at-param n bs = go bs (begins bs)
  where
    -- the line is taken: what comes after it decides
    opened : (bs : List ℕ) (b : Begins bs) (a : Opened n b.line (line_step load_machine (at n param) b.line)) → AtLoad (n + 1) a.p b.rest → AtParam n bs
    opened bs b a (inl r) = inl (subst Refused (sym (taken_shown n param (load a.p) bs b a.made)) r)
    opened bs b a (inr r) = inr (record {
      setting = a.p;
      count = r.count;
      seed = r.seed;
      accepted = a.accepted;
      ranges = r.ranges;
      reads = both_texts bs b (param_text a.p) (load_text r.count r.seed) a.reads r.reads;
      prints = taken_shown n param (load a.p) bs b a.made ∙ r.prints;
    })

    by-line : (bs : List ℕ) (b : Begins bs) → let s = line_step load_machine (at n param) b.line in Refuses n s ⊎ Opened n b.line s → AtParam n bs
    by-line bs b (inl r) = inl (refused-line n param bs b r)
    by-line bs b (inr a) = opened bs b a (at_load (n + 1) a.p b.rest)

    go : (bs : List ℕ) → Begins bs ⊎ Unended bs → AtParam n bs
    go bs (inl b) = by-line bs b (param_step n b.line)
    go [] (inr h) = inl (missing_line n param [] h refl)
    go (x ∷ bs) (inr h) = inl (missing_line n param (x ∷ bs) h refl)

pub load_decided : (input : List ℕ) → Refused (load_program input) ⊎ Loaded input (load_program input)
unfolding output_of
load_decided input = at-param 0 input

-- not both: a refusal and a chain file begin with different bytes
pub never_both : (input output : List ℕ) → Refused output → Loaded input output → ⊥
unfolding chain_file param_text line_of joined refused_line
never_both input output r l =
    let z : ◌≡◌ {A = ℕ} 114 112 = ap (λ (o : List ℕ). get_or o 0 0) (sym r.prints ∙ l.prints) in
    omega (arith, z)
