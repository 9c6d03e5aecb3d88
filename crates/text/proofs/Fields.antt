-- Fields of a line, and a loop that reads them one after another, for values of any type and any way to read one.
use mathlib.Core.Path.{◌≡◌, refl, sym, ap, ◌∙◌}
use mathlib.Core.Bool.{Bool, true, false, not, cond}
use mathlib.Core.List.{List, [], ◌∷◌, ◌++◌, append_assoc, append-nil}
use Rattle.std.specs.Prelude.{Option, Some, None}
use Prim.Native.Nat.{ℕ, suc, ◌+◌, ◌-◌, ◌≤◌, ◌<◌}
use native.Mathlib.Omega.{arith}
use native.Mathlib.Numerals.{add-one}
use native.Mathlib.Nat.{sub-zero}
use native.Mathlib.Decide.{dec_lt, dec_le}
use lib.Dec.{leb, ltb, eqb}
use lib.ListN.{length, take, drop, set, length-drop, length-set}
use lib.Seq.{drop-drop, take_all, take-suc-set, length-take-le}
use borrow.Author.Tests.{le-leb, lt-leb, lt-ltb, le-ltb, not-true, not-false}
use Rattle.text.specs.Fields.{onto, fields, until_tab, same, push, exactly, after_word, record_of, answer_of, cut_at}
use Rattle.text.proofs.Bytes.{until_within, same_eq}

-- the fields from index at on; none past the end
unfoldable pub fields_from : ℕ → List ℕ → List (List ℕ)
fields_from at s = cond (leb at (length s)) (fields (drop at s)) []

pub fields-none : (s : List ℕ) (at : ℕ) → length s < at → fields_from at s ≡ []
unfolding fields_from
fields-none s at h = rw (lt-leb at (length s) h)

fields-some : (s : List ℕ) (at : ℕ) → at ≤ length s → fields_from at s ≡ fields (drop at s)
unfolding fields_from
fields-some s at h = rw (le-leb at (length s) h)

-- counted from a later start
fields_later : (s : List ℕ) (at k : ℕ) → at ≤ length s → fields_from k (drop at s) ≡ fields_from (at + k) s
fields_later s at k h = go (dec_le (at + k) (length s))
  where
    go : Dec (at + k ≤ length s) → fields_from k (drop at s) ≡ fields_from (at + k) s
    go (yes l) = fields-some (drop at s) k (rw length-drop (omega arith)) ∙ ap fields (drop-drop k at s) ∙ sym (fields-some s (at + k) l)
    go (no l) = fields-none (drop at s) k (rw length-drop (omega arith)) ∙ sym (fields-none s (at + k) (omega arith))

-- the first field, and those after it
pub fields-first : (s : List ℕ) → fields s ≡ take (until_tab s) s ∷ fields_from (until_tab s + 1) s
unfolding cut_at until_tab onto
fields-first [] = ap (λ (fs : List (List ℕ)). [] ∷ fs) (sym (fields-none [] 1 (omega arith)))
fields-first (x ∷ s) = go (eqb x 9) (fields-first s)
  where
    go : (b : Bool) → fields s ≡ take (until_tab s) s ∷ fields_from (until_tab s + 1) s
        → cond b ([] ∷ fields s) (onto x (fields s)) ≡ take (cond b 0 (suc (until_tab s))) (x ∷ s) ∷ fields_from (cond b 0 (suc (until_tab s)) + 1) (x ∷ s)
    go true r = ap (λ (fs : List (List ℕ)). [] ∷ fs) (sym (fields-some (x ∷ s) 1 (omega arith)))
    go false r =
        let e : suc (until_tab s) + 1 ≡ 1 + (until_tab s + 1) = omega arith in
        rw (r, e) (ap (λ (fs : List (List ℕ)). (x ∷ take (until_tab s) s) ∷ fs) (fields_later (x ∷ s) 1 (until_tab s + 1) (omega arith)))

-- the field that starts at at and ends before end, as the part `&line[at..end]` has it, and those after it
pub field_at : (s : List ℕ) (at end : ℕ) → at ≤ length s → end ≡ at + until_tab (drop at s)
    → fields_from at s ≡ take (end - at) (drop at s) ∷ fields_from (end + 1) s
field_at s at end h e =
    let u : end - at ≡ until_tab (drop at s) = omega arith in
    let p : end + 1 ≡ at + (until_tab (drop at s) + 1) = omega arith in
    fields-some s at h ∙ fields-first (drop at s) ∙ rw (u, p) (ap (λ (fs : List (List ℕ)). take (until_tab (drop at s)) (drop at s) ∷ fs) (fields_later s at (until_tab (drop at s) + 1) h))

pub field_end : (s : List ℕ) (at end : ℕ) → at ≤ length s → end ≡ at + until_tab (drop at s) → (at ≤ end) × (end ≤ length s)
field_end s at end h e =
    let l : until_tab (drop at s) ≤ length s - at = rw (← length-drop at s) (until_within (drop at s)) in
    (omega arith, omega arith)

-- an answer, told from the side of the caller
module _ {A : Type 0} (r : Bool) (vs : List A) (o : Option (List A)) (e : answer_of r vs ≡ o) where
  pub answer_yes : r ≡ true → o ≡ Some vs
  unfolding answer_of
  answer_yes h = sym e ∙ ap (λ (b : Bool). answer_of b vs) h

  pub answer_no : r ≡ false → o ≡ None
  unfolding answer_of
  answer_no h = sym e ∙ ap (λ (b : Bool). answer_of b vs) h

-- values before those of an answer
unfoldable pub prepend : {A : Type 0} → List A → Option (List A) → Option (List A)
prepend vs None = None
prepend vs (Some ws) = Some (vs ++ ws)

prepend-empty : {A : Type 0} (o : Option (List A)) → o ≡ prepend [] o
unfolding prepend
prepend-empty None = refl
prepend-empty (Some vs) = refl

prepend-push : {A : Type 0} (vs : List A) (v : A) (o : Option (List A)) → prepend vs (push (Some v) o) ≡ prepend (vs ++ (v ∷ [])) o
unfolding prepend push
prepend-push vs v None = refl
prepend-push vs v (Some ws) = ap Some (sym (append_assoc vs (v ∷ []) ws))

-- the state of a loop that reads the n fields after the word: i of them are read, into out, and the next starts at index at
abbrev pub Reading : {A : Type 0} → (List ℕ → Option A) → List ℕ → ℕ → List ℕ → ℕ → ℕ → List A → Type 0
Reading read word n line i at out = (i ≤ n) × (length out ≡ n) × (record_of read word n line ≡ prepend (take i out) (exactly read (n - i) (fields_from at line)))

module _ {A : Type 0} (read : List ℕ → Option A) (word : List ℕ) (n : ℕ) (line : List ℕ) where
  first_word : record_of read word n line ≡ cond (same (take (until_tab line) line) word) (exactly read n (fields_from (until_tab line + 1) line)) None
  unfolding record_of after_word
  first_word = rw (fields-first line)

  -- another word, and the word itself
  pub other_word : (r : Bool) (out : List A) → r ≡ same (take (until_tab line) line) word → not r ≡ true → answer_of false out ≡ record_of read word n line
  unfolding answer_of
  other_word r out e h = sym (first_word ∙ rw (← e, not-true r h))

  pub reading_none : (r : Bool) (out : List A) → r ≡ same (take (until_tab line) line) word → not r ≡ false → length out ≡ n → Reading read word n line 0 (length word + 1) out
  reading_none r out e h l =
      let t : same (take (until_tab line) line) word ≡ true = sym e ∙ not-false r h in
      let u : length word ≡ until_tab line = ap length (sym (same_eq (take (until_tab line) line) word t)) ∙ length-take-le (until_tab line) line (until_within line) in
      (omega arith, l, first_word ∙ rw (t, u, sub-zero n) (prepend-empty (exactly read n (fields_from (until_tab line + 1) line))))

  -- at the next field
  module _ (i at : ℕ) (out : List A) (h : i < n) (w : Reading read word n line i at out) where
    left : n - i ≡ suc (n - (i + 1))
    left = omega arith

    pub field_missing : length line < at → answer_of false out ≡ record_of read word n line
    unfolding answer_of exactly prepend
    field_missing l = sym (w.2 ∙ rw (fields-none line at l, left))

    at_field : (end : ℕ) → at ≤ length line → end ≡ at + until_tab (drop at line)
        → record_of read word n line ≡ prepend (take i out) (push (read (take (end - at) (drop at line))) (exactly read (n - (i + 1)) (fields_from (end + 1) line)))
    unfolding exactly
    at_field end l e = w.2 ∙ rw (field_at line at end l e, left)

    pub field_bad : (end : ℕ) → at ≤ length line → end ≡ at + until_tab (drop at line) → None ≡ read (take (end - at) (drop at line))
        → answer_of false out ≡ record_of read word n line
    unfolding answer_of push prepend
    field_bad end l e b = sym (at_field end l e ∙ rw (← b))

    pub field_read : (end : ℕ) (v : A) → at ≤ length line → end ≡ at + until_tab (drop at line) → Some v ≡ read (take (end - at) (drop at line))
        → Reading read word n line (i + 1) (end + 1) (set out i v)
    field_read end v l e b =
        (omega arith, length-set out i v ∙ w.1, at_field end l e ∙ rw (← b, add-one i, take-suc-set out i v (omega (arith, w.1))) (prepend-push (take i out) v _))

  -- past the last field
  all_read : (out : List A) → prepend out (exactly read 0 []) ≡ answer_of true out
  unfolding prepend exactly answer_of
  all_read out = ap Some (append-nil out)

  one_more : (out : List A) (f : List ℕ) (fs : List (List ℕ)) → prepend out (exactly read 0 (f ∷ fs)) ≡ answer_of false out
  unfolding prepend exactly answer_of
  one_more out f fs = refl

  pub reading_all : (i at : ℕ) (out : List A) → n ≤ i → Reading read word n line i at out → answer_of (ltb (length line) at) out ≡ record_of read word n line
  reading_all i at out h w = sym (w.2 ∙ rw (z, take_all i out (omega (arith, w.1))) (by (dec_lt (length line) at)))
    where
      z : n - i ≡ 0
      z = omega arith

      by : Dec (length line < at) → prepend out (exactly read 0 (fields_from at line)) ≡ answer_of (ltb (length line) at) out
      by (yes g) = rw (lt-ltb (length line) at g, fields-none line at g) (all_read out)
      by (no g) = rw (le-ltb (length line) at (omega arith), field_at line at (at + until_tab (drop at line)) (omega arith) refl) (one_more out _ _)
