-- What is written is read back, and nothing else: a line has the fields it is joined of, and a record the numbers it is written of.
use mathlib.Core.Path.{◌≡◌, refl, sym, ap, ap₂, ◌∙◌, subst}
use mathlib.Core.Bool.{Bool, true, false, cond}
use mathlib.Core.List.{List, [], ◌∷◌, ◌++◌, map, append-nil}
use Rattle.std.specs.Prelude.{Option, Some, None}
use Rattle.std.proofs.lemmas.Option.{none-some, same_Some}
use Prim.Native.Nat.{ℕ, zero, suc, ◌^◌, ◌≤◌, ◌<◌}
use native.Mathlib.Omega.{arith}
use lib.Dec.{T, eqb}
use lib.IntN.{ℤ}
use lib.ListN.{length, get_or}
use mir.Syntax.{w64}
use mir.Val.{SFits}
use borrow.Author.Tests.{eqb-true, ne_eqb}
use Rattle.numerals.specs.Bytes.{lacks}
use Rattle.numerals.specs.Numerals.{decimal, decimal_Z}
use Rattle.numerals.proofs.Writing.{decimal-lacks, decimal_Z-lacks}
use Rattle.numerals.proofs.RoundTrip.{unsigned_back, signed_back, unsigned_only, signed_only}
use Rattle.text.specs.Fields.{onto, fields, same, push, exactly, after_word, record_of, read_u64, read_i64, read_ternary, cut_at}
use Rattle.text.specs.Lines.{tabbed, joined, ternary_numeral}
use Rattle.text.proofs.Bytes.{same_refl, same_eq}
use Rattle.text.proofs.Fields.{fields-first}

-- each of the values has the property
abbrev pub Each : {A : Type 0} → (A → Type 0) → List A → Type 0
Each P [] = Unit
Each P (v ∷ vs) = P v × Each P vs

pub each_index : {A : Type 0} (P : A → Type 0) (vs : List A) (d : A) → ((i : ℕ) → i < length vs → P (get_or vs i d)) → Each P vs
each_index P [] d h = tt
each_index P (v ∷ vs) d h = (h 0 (omega arith), each_index P vs d (λ i l. h (suc i) (omega arith)))

pub each_at : {A : Type 0} (P : A → Type 0) (vs : List A) (d : A) → Each P vs → (i : ℕ) → i < length vs → P (get_or vs i d)
each_at P [] d e i h = absurd (omega arith)
each_at P (v ∷ vs) d e zero h = e.0
each_at P (v ∷ vs) d e (suc i) h = each_at P vs d e.1 i (omega arith)

pub each_holds : {A : Type 0} (P Q : A → Type 0) → ((v : A) → P v → Q v) → (vs : List A) → Each P vs → Each Q vs
each_holds P Q h [] e = tt
each_holds P Q h (v ∷ vs) e = (h v e.0, each_holds P Q h vs e.1)

pub each_map : {A B : Type 0} (f : A → B) (P : A → Type 0) (Q : B → Type 0) → ((v : A) → P v → Q (f v)) → (vs : List A) → Each P vs → Each Q (map f vs)
each_map f P Q h [] e = tt
each_map f P Q h (v ∷ vs) e = (h v e.0, each_map f P Q h vs e.1)

-- fields joined and cut again
before_tab : (f s g : List ℕ) (gs : List (List ℕ)) → lacks 9 f ≡ true → fields s ≡ g ∷ gs → fields (f ++ s) ≡ (f ++ g) ∷ gs
unfolding lacks cut_at onto
before_tab [] s g gs h e = e
before_tab (x ∷ f) s g gs h e = go (eqb x 9) h (λ (l : lacks 9 f ≡ true). before_tab f s g gs l e)
  where
    go : (b : Bool) → cond b false (lacks 9 f) ≡ true → (lacks 9 f ≡ true → fields (f ++ s) ≡ (f ++ g) ∷ gs)
        → cond b ([] ∷ fields (f ++ s)) (onto x (fields (f ++ s))) ≡ (x ∷ (f ++ g)) ∷ gs
    go true l r = absurd (subst T (sym l) tt)
    go false l r = rw (r l)

fields-tabbed : (fs : List (List ℕ)) → Each (λ g. lacks 9 g ≡ true) fs → fields (tabbed fs) ≡ [] ∷ fs
unfolding tabbed cut_at
fields-tabbed [] h = refl
fields-tabbed (f ∷ fs) h = ap (λ (gs : List (List ℕ)). [] ∷ gs) (before_tab f (tabbed fs) [] fs h.0 (fields-tabbed fs h.1) ∙ ap (λ (g : List ℕ). g ∷ fs) (append-nil f))

pub fields-joined : (f : List ℕ) (fs : List (List ℕ)) → Each (λ g. lacks 9 g ≡ true) (f ∷ fs) → fields (joined (f ∷ fs)) ≡ f ∷ fs
unfolding joined
fields-joined f fs h = before_tab f (tabbed fs) [] fs h.0 (fields-tabbed fs h.1) ∙ ap (λ (g : List ℕ). g ∷ fs) (append-nil f)

-- a line cut and joined again
tab_first : (s : List ℕ) → joined ([] ∷ fields s) ≡ 9 ∷ joined (fields s)
unfolding joined tabbed
tab_first s = rw (fields-first s)

other-first : (x : ℕ) (s : List ℕ) → joined (onto x (fields s)) ≡ x ∷ joined (fields s)
unfolding joined onto
other-first x s = rw (fields-first s)

pub joined-fields : (s : List ℕ) → joined (fields s) ≡ s
unfolding cut_at joined tabbed
joined-fields [] = refl
joined-fields (x ∷ s) = go (eqb x 9) refl (joined-fields s)
  where
    go : (b : Bool) → eqb x 9 ≡ b → joined (fields s) ≡ s → joined (cond b ([] ∷ fields s) (onto x (fields s))) ≡ x ∷ s
    go true p r = rw (eqb-true x 9 p) (tab_first s ∙ ap (λ (t : List ℕ). 9 ∷ t) r)
    go false p r = other-first x s ∙ ap (λ (t : List ℕ). x ∷ t) r

-- a record written and read again, by `show` and `read`
module _ {A : Type 0} (read : List ℕ → Option A) (show : A → List ℕ) where
  exactly-back : (vs : List A) → Each (λ v. read (show v) ≡ Some v) vs → exactly read (length vs) (map show vs) ≡ Some vs
  unfolding exactly push
  exactly-back [] h = refl
  exactly-back (v ∷ vs) h = rw (h.0, exactly-back vs h.1)

  pub record_back : (w : List ℕ) (vs : List A) → lacks 9 w ≡ true → Each (λ v. lacks 9 (show v) ≡ true) vs → Each (λ v. read (show v) ≡ Some v) vs
      → record_of read w (length vs) (joined (w ∷ map show vs)) ≡ Some vs
  unfolding record_of after_word
  record_back w vs t l r =
      let k : Each (λ (g : List ℕ). lacks 9 g ≡ true) (map show vs) = each_map show (λ v. lacks 9 (show v) ≡ true) (λ g. lacks 9 g ≡ true) (λ v h. h) vs l in
      rw (fields-joined w (map show vs) (t, k), same_refl w) (exactly-back vs r)

  -- a line that is read as a record has as many numbers as were asked for, and is the line of them
  exactly_only : (n : ℕ) (fs : List (List ℕ)) (vs : List A) → ((f : List ℕ) (v : A) → read f ≡ Some v → f ≡ show v) → exactly read n fs ≡ Some vs
      → (length vs ≡ n) × (fs ≡ map show vs)
  unfolding exactly push
  exactly_only zero [] vs u e = rw (← same_Some _ _ e) (refl, refl)
  exactly_only zero (f ∷ fs) vs u e = absurd (none-some vs e)
  exactly_only (suc n) [] vs u e = absurd (none-some vs e)
  exactly_only (suc n) (f ∷ fs) vs u e = go (λ (xs : List A) (q : exactly read n fs ≡ Some xs). exactly_only n fs xs u q) (read f) refl (exactly read n fs) refl e
    where
      go : ((xs : List A) → exactly read n fs ≡ Some xs → (length xs ≡ n) × (fs ≡ map show xs)) → (o : Option A) → read f ≡ o → (p : Option (List A)) → exactly read n fs ≡ p
          → push o p ≡ Some vs → (length vs ≡ suc n) × ((f ∷ fs) ≡ map show vs)
      go rest None a p b h = absurd (none-some vs h)
      go rest (Some v) a None b h = absurd (none-some vs h)
      go rest (Some v) a (Some ws) b h =
          let r = rest ws b in
          rw (← same_Some _ _ h) (ap suc r.0, ap₂ (λ (g : List ℕ) (gs : List (List ℕ)). g ∷ gs) (u f v a) r.1)

  after_only : (w : List ℕ) (n : ℕ) (fs : List (List ℕ)) (vs : List A) → ((f : List ℕ) (v : A) → read f ≡ Some v → f ≡ show v) → after_word read w n fs ≡ Some vs
      → (length vs ≡ n) × (fs ≡ w ∷ map show vs)
  unfolding after_word
  after_only w n [] vs u e = absurd (none-some vs e)
  after_only w n (f ∷ fs) vs u e = go (same f w) refl e
    where
      go : (b : Bool) → same f w ≡ b → cond b (exactly read n fs) None ≡ Some vs → (length vs ≡ n) × ((f ∷ fs) ≡ w ∷ map show vs)
      go true p h = let r = exactly_only n fs vs u h in (r.0, ap₂ (λ (g : List ℕ) (gs : List (List ℕ)). g ∷ gs) (same_eq f w p) r.1)
      go false p h = absurd (none-some vs h)

  pub record_only : (w : List ℕ) (n : ℕ) (line : List ℕ) (vs : List A) → ((f : List ℕ) (v : A) → read f ≡ Some v → f ≡ show v) → record_of read w n line ≡ Some vs
      → (length vs ≡ n) × (line ≡ joined (w ∷ map show vs))
  unfolding record_of
  record_only w n line vs u e = let r = after_only w n (fields line) vs u e in (r.0, sym (joined-fields line) ∙ ap joined r.1)

-- what each field that can be read gives, each value of a record is
module _ {A : Type 0} (read : List ℕ → Option A) (P : A → Type 0) (u : (f : List ℕ) (v : A) → read f ≡ Some v → P v) where
  exactly-each : (n : ℕ) (fs : List (List ℕ)) (vs : List A) → exactly read n fs ≡ Some vs → (length vs ≡ n) × Each P vs
  unfolding exactly push
  exactly-each zero [] vs e = subst (λ (xs : List A). (length xs ≡ 0) × Each P xs) (same_Some _ _ e) (refl, tt)
  exactly-each zero (f ∷ fs) vs e = absurd (none-some vs e)
  exactly-each (suc n) [] vs e = absurd (none-some vs e)
  exactly-each (suc n) (f ∷ fs) vs e = go (λ (xs : List A) (q : exactly read n fs ≡ Some xs). exactly-each n fs xs q) (read f) refl (exactly read n fs) refl e
    where
      go : ((xs : List A) → exactly read n fs ≡ Some xs → (length xs ≡ n) × Each P xs) → (o : Option A) → read f ≡ o → (p : Option (List A)) → exactly read n fs ≡ p
          → push o p ≡ Some vs → (length vs ≡ suc n) × Each P vs
      go rest None a p b h = absurd (none-some vs h)
      go rest (Some v) a None b h = absurd (none-some vs h)
      go rest (Some v) a (Some ws) b h =
          let r = rest ws b in
          subst (λ (xs : List A). (length xs ≡ suc n) × Each P xs) (same_Some _ _ h) (ap suc r.0, (u f v a, r.1))

  pub record_each : (w : List ℕ) (n : ℕ) (line : List ℕ) (vs : List A) → record_of read w n line ≡ Some vs → (length vs ≡ n) × Each P vs
  unfolding record_of after_word
  record_each w n line vs e = go (fields line) e
    where
      by : (b : Bool) (fs : List (List ℕ)) → cond b (exactly read n fs) None ≡ Some vs → (length vs ≡ n) × Each P vs
      by true fs h = exactly-each n fs vs h
      by false fs h = absurd (none-some vs h)

      go : (fs : List (List ℕ)) → after_word read w n fs ≡ Some vs → (length vs ≡ n) × Each P vs
      go [] h = absurd (none-some vs h)
      go (f ∷ fs) h = by (same f w) fs h

-- ternary entries: each byte is 0, 1 or 2
ternary-small : (f : List ℕ) (x : ℕ) → read_ternary f ≡ Some x → x ≤ 2
unfolding read_ternary
ternary-small f x e = go (same f (48 ∷ [])) (same f (49 ∷ [])) (same f (45 ∷ 49 ∷ [])) e
  where
    go : (a b c : Bool) → cond a (Some 0) (cond b (Some 1) (cond c (Some 2) None)) ≡ Some x → x ≤ 2
    go true b c h = let z : 0 ≡ x = same_Some _ _ h in omega arith
    go false true c h = let z : 1 ≡ x = same_Some _ _ h in omega arith
    go false false true h = let z : 2 ≡ x = same_Some _ _ h in omega arith
    go false false false h = absurd (none-some x h)

pub ternary-each : (w : List ℕ) (n : ℕ) (line vs : List ℕ) → record_of read_ternary w n line ≡ Some vs → (length vs ≡ n) × Each (λ x. x ≤ 2) vs
ternary-each w n line vs e = record_each read_ternary (λ x. x ≤ 2) ternary-small w n line vs e

-- and each of these is read from its field
read-ternary : (x : ℕ) → x ≤ 2 → read_ternary (ternary_numeral x) ≡ Some x
unfolding read_ternary ternary_numeral same
read-ternary zero h = refl
read-ternary (suc zero) h = refl
read-ternary (suc (suc zero)) h = refl
read-ternary (suc (suc (suc x))) h = absurd (omega arith)

-- which has no byte below the minus
pub ternary-lacks : (b x : ℕ) → b < 45 → lacks b (ternary_numeral x) ≡ true
unfolding ternary_numeral lacks
ternary-lacks b x h = go (eqb x 0) (eqb x 1)
  where
    other : (y : ℕ) → 45 ≤ y → eqb y b ≡ false
    other y l = ne_eqb y b (λ e. omega (arith, e))

    go : (u v : Bool) → lacks b (cond u (48 ∷ []) (cond v (49 ∷ []) (45 ∷ 49 ∷ []))) ≡ true
    go true v = rw (other 48 (omega arith))
    go false true = rw (other 49 (omega arith))
    go false false = rw (other 45 (omega arith), other 49 (omega arith))

pub ternaries_back : (w vs : List ℕ) → lacks 9 w ≡ true → Each (λ x. x ≤ 2) vs → record_of read_ternary w (length vs) (joined (w ∷ map ternary_numeral vs)) ≡ Some vs
ternaries_back w vs t h = record_back read_ternary ternary_numeral w vs t
    (each_holds (λ x. x ≤ 2) (λ v. lacks 9 (ternary_numeral v) ≡ true) (λ v l. ternary-lacks 9 v (omega arith)) vs h)
    (each_holds (λ x. x ≤ 2) (λ v. read_ternary (ternary_numeral v) ≡ Some v) read-ternary vs h)

-- unsigned numbers
pub u64s_back : (w : List ℕ) (vs : List ℕ) → lacks 9 w ≡ true → Each (λ v. v < 2 ^ 64) vs → record_of read_u64 w (length vs) (joined (w ∷ map decimal vs)) ≡ Some vs
u64s_back w vs t h = record_back read_u64 decimal w vs t
    (each_holds (λ v. v < 2 ^ 64) (λ v. lacks 9 (decimal v) ≡ true) (λ v l. decimal-lacks 9 v (omega arith)) vs h)
    (each_holds (λ v. v < 2 ^ 64) (λ v. read_u64 (decimal v) ≡ Some v) unsigned_back vs h)

pub u64s_only : (w : List ℕ) (n : ℕ) (line vs : List ℕ) → record_of read_u64 w n line ≡ Some vs → (length vs ≡ n) × (line ≡ joined (w ∷ map decimal vs))
u64s_only w n line vs e = record_only read_u64 decimal w n line vs unsigned_only e

-- signed numbers
pub i64s_back : (w : List ℕ) (vs : List ℤ) → lacks 9 w ≡ true → Each (SFits w64) vs → record_of read_i64 w (length vs) (joined (w ∷ map decimal_Z vs)) ≡ Some vs
i64s_back w vs t h = record_back read_i64 decimal_Z w vs t
    (each_holds (SFits w64) (λ v. lacks 9 (decimal_Z v) ≡ true) (λ v l. decimal_Z-lacks 9 v (omega arith)) vs h)
    (each_holds (SFits w64) (λ v. read_i64 (decimal_Z v) ≡ Some v) signed_back vs h)

pub i64s_only : (w : List ℕ) (n : ℕ) (line : List ℕ) (vs : List ℤ) → record_of read_i64 w n line ≡ Some vs → (length vs ≡ n) × (line ≡ joined (w ∷ map decimal_Z vs))
i64s_only w n line vs e = record_only read_i64 decimal_Z w n line vs signed_only e
