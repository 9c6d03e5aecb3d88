-- When each refusal of a count is given.
use mathlib.Core.Path.{◌≡◌, refl, sym, ap, ◌∙◌}
use mathlib.Core.Logic.Iff
use mathlib.Core.Logic.{◌≢◌, ◌↔◌, ◌⊎◌, inl, inr}
use mathlib.Core.Bool.{Bool, true, false, not, cond}
use mathlib.Core.List.{List, [], ◌∷◌}
use Prim.Native.Nat.{ℕ, ◌<◌, ◌≤◌}
use native.Mathlib.Omega.{arith}
use native.Mathlib.Decide.{ℕ_discrete}
use Rattle.std.specs.Prelude.{Result, Ok, Err}
use lib.Dec.{T, not_T, eqb, leb, leb→le, le→leb, nleb→lt}
use lib.IntN.{ℤ, pos, nat_abs}
use lib.ListN.{length, get_or}
use borrow.Author.Tests.{eq-eqb, ne_eqb}
use Rattle.integers.proofs.Tests.{all_true, all_elim, all-fails}
use Rattle.integers.specs.Ranges.{within, In}
use Rattle.matrices.specs.Triangles.{triangular, mirrored}
use Rattle.settings.specs.Rules.{◌gives◌, first_of}
use Rattle.settings.proofs.Rules.{first-at, none-applies}
use Rattle.settings.proofs.Refusals.{Says, says, says_in}
use Rattle.lova.proofs.Tests.{eqb_iff}
use Rattle.quadratic_forms.specs.Forms.{zeros}
use Rattle.quadratic_forms.specs.Counts.{row_range, largest_entry, is_triangle, entries_inside, count_rules, count_refusal, answer, EntryOutside, Proper}

-- the ways out of the code's tests
module _ (N : ℕ) (e : List ℤ) where
  pub rows-refused : within row_range N ≡ false → 24 ≡ count_refusal N (is_triangle N e) e
  unfolding count_refusal first_of
  rows-refused r = rw r refl

  module _ (rows : within row_range N ≡ true) where
    pub length-refused : length e ≢ triangular N → 7 ≡ count_refusal N (is_triangle N e) e
    unfolding count_refusal first_of
    length-refused n = rw (rows, ne_eqb (length e) (triangular N) n) refl

    module _ (long : length e ≡ triangular N) where
      pub entry-refused : entries_inside e ≡ false → 25 ≡ count_refusal N (is_triangle N e) e
      unfolding count_refusal first_of
      entry-refused o = rw (rows, eq-eqb (length e) (triangular N) long, o) refl

      pub none-refused : entries_inside e ≡ true → 0 ≡ count_refusal N (is_triangle N e) e
      unfolding count_refusal first_of
      none-refused o = rw (rows, eq-eqb (length e) (triangular N) long, o) refl

-- ---- each number exactly when its condition holds and no earlier one does

-- "24 for N outside 1..12, then 7, then 25 for an entry above 2^52 or below −2^52"; 0 where the call is proper
pub record Exactly (N : ℕ) (e : List ℤ) (refusal : ℕ) : Type 0 where
  pub rows : (refusal ≡ 24) ↔ (In row_range N → ⊥)
  pub lengths : (refusal ≡ 7) ↔ (In row_range N × (length e ≢ triangular N))
  pub entries : (refusal ≡ 25) ↔ (In row_range N × (length e ≡ triangular N) × EntryOutside e)
  pub none : (refusal ≡ 0) ↔ Proper N e

-- the tests of 7 and 25
says-triangle : (N : ℕ) (e : List ℤ) → Says (is_triangle N e) (length e ≡ triangular N) (length e ≢ triangular N)
says-triangle N e = says (is_triangle N e) (length e ≡ triangular N) (length e ≢ triangular N) (eqb_iff (length e) (triangular N)) Iff.rfl

abbrev Inside : List ℤ → Type 0
Inside e = (x : ℕ) → x < length e → nat_abs (get_or e x (pos 0)) ≤ largest_entry

inside_iff : (e : List ℤ) → T (entries_inside e) ↔ Inside e
inside_iff e = (
  (λ h x l. leb→le _ largest_entry (all_elim (length e) _ h x l)),
  (λ h. all_true (length e) _ (λ x l. le→leb _ largest_entry (h x l))),
)

outside_iff : (e : List ℤ) → (Inside e → ⊥) ↔ EntryOutside e
outside_iff e = (
  (λ f. let r = all-fails (length e) (λ x. leb (nat_abs (get_or e x (pos 0))) largest_entry) (not_T (entries_inside e) (λ t. f ((inside_iff e).0 t))) in
      (r.0, r.1, nleb→lt _ largest_entry r.2)),
  (λ o f. absurd (omega (arith, f o.0 o.1, o.2))),
)

says-inside : (e : List ℤ) → Says (entries_inside e) (Inside e) (EntryOutside e)
says-inside e = says (entries_inside e) (Inside e) (EntryOutside e) (inside_iff e) (outside_iff e)

pub refusal-exactly : (N : ℕ) (e : List ℤ) → Exactly N e (count_refusal N (is_triangle N e) e)
unfolding count_refusal
refusal-exactly N e =
    let rules = count_rules N (is_triangle N e) e in
    let rows = says_in row_range N in
    let long = says-triangle N e in
    let inside = says-inside e in
    let rule24 = first-at rules 0 (omega arith) tt tt in
    let rule7 = first-at rules 1 (omega arith) tt tt in
    let rule25 = first-at rules 2 (omega arith) tt tt in
    let no-rule = none-applies rules tt in
    record {
      rows = (λ q. rows.applies.0 (rule24.0 q).1, λ h. rule24.1 (tt, rows.applies.1 h));
      lengths = (
        λ q. let (f, g) = rule7.0 q in (rows.passed.0 f.0, long.applies.0 g),
        λ h. rule7.1 ((rows.passed.1 h.0, tt), long.applies.1 h.1),
      );
      entries = (
        λ q. let (f, g) = rule25.0 q in (rows.passed.0 f.0, long.passed.0 f.1.0, inside.applies.0 g),
        λ h. rule25.1 ((rows.passed.1 h.0, (long.passed.1 h.1, tt)), inside.applies.1 h.2),
      );
      none = (
        λ q. let f = no-rule.0 q in record { rows = rows.passed.0 f.0; long = long.passed.0 f.1.0; entries = inside.passed.0 f.1.1.0 },
        λ h. no-rule.1 (rows.passed.1 h.rows, (long.passed.1 h.long, (inside.passed.1 h.entries, tt))),
      );
    }

-- ---- the answer

-- the number of a refusal; 0 for a count
number_said : Result ℕ ℕ → ℕ
number_said (Ok n) = 0
number_said (Err r) = r

module _ (N : ℕ) (fits : Bool) (e : List ℤ) where
  pub says-refused : count_refusal N fits e ≢ 0 → Err (count_refusal N fits e) ≡ answer N fits e
  unfolding answer
  says-refused ne = rw (ne_eqb (count_refusal N fits e) 0 ne) refl

  pub says-count : count_refusal N fits e ≡ 0 → Ok (zeros N (mirrored e)) ≡ answer N fits e
  unfolding answer
  says-count z = rw (eq-eqb (count_refusal N fits e) 0 z) refl

  number_is : number_said (answer N fits e) ≡ count_refusal N fits e
  unfolding number_said
  number_is = go (ℕ_discrete (count_refusal N fits e) 0)
    where
      go : Dec (count_refusal N fits e ≡ 0) → number_said (answer N fits e) ≡ count_refusal N fits e
      go (yes z) = ap number_said (sym (says-count z)) ∙ sym z
      go (no f) = ap number_said (sym (says-refused f))

  -- a number is given exactly where it is the first that applies, and the count where none does; P says when
  module _ {P : Type 0} where
    pub refused-by : (r : ℕ) → r ≢ 0 → (count_refusal N fits e ≡ r) ↔ P → (answer N fits e ≡ Err r) ↔ P
    unfolding number_said
    refused-by r ne when = (
      (λ a. when.0 (sym number_is ∙ ap number_said a)),
      (λ p. let f = when.1 p in sym (says-refused (λ z. ne (sym f ∙ z))) ∙ ap Err f),
    )

    pub count_by : (count_refusal N fits e ≡ 0) ↔ P → (answer N fits e ≡ Ok (zeros N (mirrored e))) ↔ P
    unfolding number_said
    count_by when = ((λ a. when.0 (sym number_is ∙ ap number_said a)), (λ p. sym (says-count (when.1 p))))

  -- it is one of these
  pub no_other : (answer N fits e ≡ Ok (zeros N (mirrored e))) ⊎ ((answer N fits e ≡ Err 24) ⊎ ((answer N fits e ≡ Err 7) ⊎ (answer N fits e ≡ Err 25)))
  unfolding answer count_refusal first_of
  no_other = go (within row_range N) fits (entries_inside e)
    where
      go : (a b c : Bool) → let r = first_of ((not a gives 24) ∷ (not b gives 7) ∷ (not c gives 25) ∷ []) in
          let m = cond (eqb r 0) (Ok (zeros N (mirrored e))) (Err r) in
          (m ≡ Ok (zeros N (mirrored e))) ⊎ ((m ≡ Err 24) ⊎ ((m ≡ Err 7) ⊎ (m ≡ Err 25)))
      go false b c = inr (inl refl)
      go true false c = inr (inr (inl refl))
      go true true false = inr (inr (inr refl))
      go true true true = inl refl
