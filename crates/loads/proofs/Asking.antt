-- One line of the load program: it is refused, or it is the `param` line or the `load` line that is due.
use borrow.Author.Tests.{ltb-true}
use mathlib.Core.Path.{◌≡◌, refl, sym, ◌∙◌, ap, subst}
use mathlib.Core.Logic.{◌⊎◌, inl, inr}
use mathlib.Core.Bool.{Bool, true, false, cond, ◌&&◌}
use mathlib.Core.List.{List, [], ◌∷◌, ◌++◌, map}
use Rattle.std.specs.Prelude.{Option, Some, None}
use Rattle.std.proofs.lemmas.Option.{none-some}
use Prim.Native.Nat.{ℕ, zero, suc, ◌^◌, ◌≤◌, ◌<◌}
use native.Mathlib.Omega.{arith}
use lib.Dec.{T, leb, ltb, leb→le}
use lib.ListN.{length, get_or}
use Rattle.integers.specs.Lists.{build}
use Rattle.integers.proofs.Lists.{is-build}
use Rattle.integers.proofs.Tests.{and_fst, and_snd}
use Rattle.integers.specs.Ranges.{◌to◌, within}
use Rattle.settings.specs.Rules.{first_of}
use Rattle.settings.specs.Settings.{Parameters}
use Rattle.numerals.specs.Numerals.{natural, fit_unsigned, read_unsigned, decimal}
use Rattle.text.specs.Fields.{record_of, read_u64}
use Rattle.text.specs.Lines.{joined, line_of}
use Rattle.text.proofs.Records.{record_each, each_at, u64s_only}
use Rattle.line_machines.specs.Machines.{Step, longest_line, line_step}
use Rattle.chain.specs.Limits.{program_rules}
use Rattle.chain.specs.Params.{param_word, from_five, param_setting, param_refusal}
use Rattle.loads.specs.Files.{param_text}
use Rattle.loads.specs.Loads.{Stage, State, param, load, end, next, refuse, load_word, most_loaded, on_setting, on_param, on_load, take_due, is_stopped, bad_line, load_machine}

-- the fields of the second line, with a leaf count and a seed, and the line
abbrev pub load_fields : ℕ → ℕ → List (List ℕ)
load_fields count seed = load_word ∷ map decimal (count ∷ seed ∷ [])

abbrev pub load_text : ℕ → ℕ → List ℕ
load_text count seed = line_of (load_fields count seed)

-- a leaf count within 1..1000, and a seed of 64 bits
pub record InRange (count seed : ℕ) : Type 0 where
  pub low : 1 ≤ count
  pub high : count ≤ most_loaded
  pub word : seed < 2 ^ 64

-- the run state
abbrev pub at : ℕ → Stage → State
at line due = record { line = line; stage = due }

-- the step of a line is a refusal with some number
abbrev pub Refuses : ℕ → Step State → Type 0
Refuses n s = (number : ℕ) × (s ≡ refuse n number)

-- ---- the numbers of a record

-- a number that is read has 64 bits
read_word : (f : List ℕ) (v : ℕ) → read_u64 f ≡ Some v → v < 2 ^ 64
unfolding read_unsigned fit_unsigned
read_word f v e = go (natural f) e
  where
    by : (n : ℕ) (c : Bool) → ltb n (2 ^ 64) ≡ c → ◌≡◌ {A = Option ℕ} (cond c (Some n) None) (Some v) → v < 2 ^ 64
    by n true q h = let same : n ≡ v = grind arith in subst (λ (x : ℕ). x < 2 ^ 64) same (ltb-true n (2 ^ 64) q)
    by n false q h = absurd (none-some _ h)

    go : (o : Option ℕ) → fit_unsigned o ≡ Some v → v < 2 ^ 64
    go None h = absurd (none-some _ h)
    go (Some n) h = by n (ltb n (2 ^ 64)) refl h

-- a list of n numbers by its elements
elements : (n : ℕ) (xs : List ℕ) → length xs ≡ n → xs ≡ build n (λ i. get_or xs i 0)
elements n xs h = is-build n (λ i. get_or xs i 0) 0 xs h (λ i l. refl)

-- ---- one line by what is due

-- `param` is due: the line is refused, or it is that of a setting that the programs take
pub record Opened (n : ℕ) (line : List ℕ) (s : Step State) : Type 0 where
  pub p : Parameters
  pub accepted : first_of (program_rules p) ≡ 0
  pub reads : line ++ (10 ∷ []) ≡ param_text p
  pub made : s ≡ next n (load p)

param-text : (line xs : List ℕ) → record_of read_u64 param_word 5 line ≡ Some xs → line ++ (10 ∷ []) ≡ param_text (from_five xs)
unfolding param_text line_of build
param-text line xs e =
    let r = u64s_only param_word 5 line xs e in
    ap (λ (l : List ℕ). l ++ (10 ∷ [])) (r.1 ∙ ap (λ (ys : List ℕ). joined (param_word ∷ map decimal ys)) (elements 5 xs r.0))

on-setting : (n : ℕ) (line : List ℕ) (p : Parameters) → line ++ (10 ∷ []) ≡ param_text p → (r : ℕ) → first_of (program_rules p) ≡ r
    → Refuses n (on_setting n p r) ⊎ Opened n line (on_setting n p r)
unfolding on_setting
on-setting n line p reads zero e = inr (record { p = p; accepted = e; reads = reads; made = refl })
on-setting n line p reads (suc r) e = inl (suc r, refl)

on-param : (n : ℕ) (line : List ℕ) (c : Bool) (o : Option (List ℕ)) → record_of read_u64 param_word 5 line ≡ o
    → let s = cond c (on_param n o) (bad_line n param) in Refuses n s ⊎ Opened n line s
unfolding on_param on_setting param_setting param_refusal bad_line is_stopped
on-param n line false o e = inl (13, refl)
on-param n line true None e = inl (13, refl)
on-param n line true (Some xs) e = on-setting n line (from_five xs) (param-text line xs e) (first_of (program_rules (from_five xs))) refl

pub param_step : (n : ℕ) (line : List ℕ) → let s = line_step load_machine (at n param) line in Refuses n s ⊎ Opened n line s
unfolding line_step take_due
param_step n line = on-param n line (leb (length line) longest_line) (record_of read_u64 param_word 5 line) refl

-- `load` is due: the line is refused, or it has a leaf count within 1..1000 and a seed
pub record Asked (n : ℕ) (p : Parameters) (line : List ℕ) (s : Step State) : Type 0 where
  pub count : ℕ
  pub seed : ℕ
  pub ranges : InRange count seed
  pub reads : line ++ (10 ∷ []) ≡ load_text count seed
  pub made : s ≡ next n (end p count seed)

load-text : (line xs : List ℕ) → record_of read_u64 load_word 2 line ≡ Some xs → line ++ (10 ∷ []) ≡ load_text (get_or xs 0 0) (get_or xs 1 0)
unfolding line_of build
load-text line xs e =
    let r = u64s_only load_word 2 line xs e in
    ap (λ (l : List ℕ). l ++ (10 ∷ [])) (r.1 ∙ ap (λ (ys : List ℕ). joined (load_word ∷ map decimal ys)) (elements 2 xs r.0))

on-count : (n : ℕ) (p : Parameters) (line xs : List ℕ) → record_of read_u64 load_word 2 line ≡ Some xs → (c : Bool) → within (1 to most_loaded) (get_or xs 0 0) ≡ c
    → let s = cond c (next n (end p (get_or xs 0 0) (get_or xs 1 0))) (refuse n 13) in Refuses n s ⊎ Asked n p line s
on-count n p line xs e false h = inl (13, refl)
on-count n p line xs e true h =
    let both : T (leb 1 (get_or xs 0 0) && leb (get_or xs 0 0) most_loaded) = subst T (sym h) tt in
    let r = record_each read_u64 (λ v. v < 2 ^ 64) read_word load_word 2 line xs e in
    let ranges : InRange (get_or xs 0 0) (get_or xs 1 0) = record {
      low = leb→le _ _ (and_fst (leb 1 (get_or xs 0 0)) (leb (get_or xs 0 0) most_loaded) both);
      high = leb→le _ _ (and_snd (leb 1 (get_or xs 0 0)) (leb (get_or xs 0 0) most_loaded) both);
      word = each_at (λ v. v < 2 ^ 64) xs 0 r.1 1 (omega (arith, r.0));
    } in
    inr (record { count = get_or xs 0 0; seed = get_or xs 1 0; ranges = ranges; reads = load-text line xs e; made = refl })

on-load : (n : ℕ) (p : Parameters) (line : List ℕ) (c : Bool) (o : Option (List ℕ)) → record_of read_u64 load_word 2 line ≡ o
    → let s = cond c (on_load n p o) (bad_line n (load p)) in Refuses n s ⊎ Asked n p line s
unfolding on_load bad_line is_stopped
on-load n p line false o e = inl (13, refl)
on-load n p line true None e = inl (13, refl)
on-load n p line true (Some xs) e = on-count n p line xs e (within (1 to most_loaded) (get_or xs 0 0)) refl

pub load_step : (n : ℕ) (p : Parameters) (line : List ℕ) → let s = line_step load_machine (at n (load p)) line in Refuses n s ⊎ Asked n p line s
unfolding line_step take_due
load_step n p line = on-load n p line (leb (length line) longest_line) (record_of read_u64 load_word 2 line) refl

-- nothing is due: every line is refused
pub third-step : (n : ℕ) (p : Parameters) (count seed : ℕ) (line : List ℕ) → Refuses n (line_step load_machine (at n (end p count seed)) line)
unfolding line_step take_due bad_line is_stopped
third-step n p count seed line = (13, either (leb (length line) longest_line))
  where
    either : (c : Bool) → cond c (refuse n 13) (refuse n 13) ≡ refuse n 13
    either true = refl
    either false = refl
