-- What a `load` record asks for, as it is read and as it is answered.
use mathlib.Core.Path.{◌≡◌, refl, sym, ◌∙◌, ap, subst}
use mathlib.Core.Bool.{Bool, true, false, cond}
use mathlib.Core.List.{List}
use Rattle.std.specs.Prelude.{Option, Some, None}
use Prim.Native.Nat.{ℕ, ◌≤◌}
use lib.Dec.{T, leb, leb→le}
use lib.ListN.{get_or}
use Rattle.integers.proofs.Tests.{and_fst}
use Rattle.integers.specs.Ranges.{◌to◌, within}
use Rattle.settings.specs.Settings.{Parameters}
use Rattle.text.specs.Fields.{answer_of}
use Rattle.text.proofs.Fields.{answer_yes, answer_no}
use Rattle.line_machines.specs.Machines.{Step}
use Rattle.loads.specs.Loads.{State, end, most_loaded, next, refuse, on_load}
use Rattle.load_runs.specs.Inputs.{asked_of}

-- ---- as it is read: r is what `read_u64s` answered, and xs the numbers

module _ (r : Bool) (xs : List ℕ) (o : Option (List ℕ)) (read : answer_of r xs ≡ o) where
  pub unread_bad : r ≡ false → None ≡ asked_of o
  unfolding asked_of
  unread_bad h = rw (answer_no r xs o read h) refl

  -- no leaf, or more than a load has
  pub count_bad : r ≡ true → within (1 to most_loaded) (get_or xs 0 0) ≡ false → None ≡ asked_of o
  unfolding asked_of
  count_bad h out = rw (answer_yes r xs o read h, out) refl

  pub load_read : r ≡ true → within (1 to most_loaded) (get_or xs 0 0) ≡ true → Some (get_or xs 0 0, get_or xs 1 0) ≡ asked_of o
  unfolding asked_of
  load_read h in_range = rw (answer_yes r xs o read h, in_range) refl

-- ---- as it is answered

module _ (line : ℕ) (p : Parameters) where
  abbrev on_asked : Option (ℕ × ℕ) → Step State
  on_asked (Some (count, seed)) = next line (end p count seed)
  on_asked None = refuse line 13

  by-asked : (o : Option (List ℕ)) → on_load line p o ≡ on_asked (asked_of o)
  unfolding on_load asked_of
  by-asked None = refl
  by-asked (Some xs) = by (within (1 to most_loaded) (get_or xs 0 0))
    where
      by : (c : Bool) → cond c (next line (end p (get_or xs 0 0) (get_or xs 1 0))) (refuse line 13) ≡ on_asked (cond c (Some (get_or xs 0 0, get_or xs 1 0)) None)
      by true = refl
      by false = refl

  pub load_bad : (o : Option (List ℕ)) → asked_of o ≡ None → on_load line p o ≡ refuse line 13
  load_bad o e = by-asked o ∙ ap on_asked e

  pub load-taken : (o : Option (List ℕ)) (count seed : ℕ) → asked_of o ≡ Some (count, seed) → on_load line p o ≡ next line (end p count seed)
  load-taken o count seed e = by-asked o ∙ ap on_asked e

-- a leaf count that is asked for is at least 1
abbrev Counted : Option (ℕ × ℕ) → Type 0
Counted (Some (count, seed)) = 1 ≤ count
Counted None = Unit {0}

asked-counted : (o : Option (List ℕ)) → Counted (asked_of o)
unfolding asked_of
asked-counted None = tt
asked-counted (Some xs) = by (within (1 to most_loaded) (get_or xs 0 0)) refl
  where
    by : (c : Bool) → within (1 to most_loaded) (get_or xs 0 0) ≡ c → Counted (cond c (Some (get_or xs 0 0, get_or xs 1 0)) None)
    by true e = leb→le 1 (get_or xs 0 0) (and_fst (leb 1 (get_or xs 0 0)) (leb (get_or xs 0 0) most_loaded) (subst T (sym e) tt))
    by false e = tt

pub load-some : (o : Option (List ℕ)) (count seed : ℕ) → asked_of o ≡ Some (count, seed) → 1 ≤ count
load-some o count seed e = subst Counted e (asked-counted o)
