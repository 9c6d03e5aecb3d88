-- An input of a program that reads lines: its first line, and what comes after it.
use borrow.Author.Tests.{le-leb}
use mathlib.Core.Path.{◌≡◌, refl, ◌∙◌, ap}
use mathlib.Core.Logic.{◌⊎◌, inl, inr}
use mathlib.Core.Bool.{Bool, true, false, cond}
use mathlib.Core.List.{List, [], ◌∷◌, ◌++◌, append_assoc}
use Prim.Native.Nat.{ℕ, ◌≤◌}
use lib.Dec.{eqb}
use lib.ListN.{length}
use borrow.Author.Tests.{eqb-true}
use Rattle.numerals.specs.Bytes.{lacks}
use Rattle.text.specs.Fields.{onto, cut_at}
use Rattle.text.specs.Lines.{joined, line_of}
use Rattle.line_machines.specs.Machines.{Machine, Stops, longest_line, lines, line_step, last_output, printed}
use Rattle.line_machines.proofs.Bytes.{parts, line-ended, printed-more}

-- an input that begins with this line
pub record Begins (input : List ℕ) : Type 0 where
  pub line : List ℕ
  pub rest : List ℕ
  pub is : input ≡ line ++ (10 ∷ rest)
  pub are : lines input ≡ line ∷ lines rest

-- every other one has no line feed
abbrev pub Unended : List ℕ → Type 0
Unended input = lines input ≡ input ∷ []

begins-more : (x : ℕ) (s : List ℕ) (c : Bool) → eqb x 10 ≡ c → Begins s ⊎ Unended s
    → ((line : List ℕ) × (rest : List ℕ) × ((x ∷ s) ≡ line ++ (10 ∷ rest)) × (cond c ([] ∷ lines s) (onto x (lines s)) ≡ line ∷ lines rest))
    ⊎ (cond c ([] ∷ lines s) (onto x (lines s)) ≡ (x ∷ s) ∷ [])
unfolding onto
begins-more x s true e r = inl ([], s, ap (λ (y : ℕ). y ∷ s) (eqb-true x 10 e), refl)
begins-more x s false e (inl b) = inl (x ∷ b.line, b.rest, ap (λ (t : List ℕ). x ∷ t) b.is, rw b.are refl)
begins-more x s false e (inr h) = inr (rw h refl)

pub begins : (input : List ℕ) → Begins input ⊎ Unended input
unfolding cut_at
begins [] = inr refl
begins (x ∷ s) = go (begins-more x s (eqb x 10) refl (begins s))
  where
    go : ((line : List ℕ) × (rest : List ℕ) × ((x ∷ s) ≡ line ++ (10 ∷ rest)) × (lines (x ∷ s) ≡ line ∷ lines rest)) ⊎ Unended (x ∷ s) → Begins (x ∷ s) ⊎ Unended (x ∷ s)
    go (inl b) = inl (record { line = b.0; rest = b.1; is = b.2; are = b.3 })
    go (inr h) = inr h

module _ {S : Type 0} (M : Machine S) (stops : Stops M) (s : S) where
  -- what is printed for it
  pub begins_shown : (input : List ℕ) (b : Begins input) → printed M s (lines input) ≡ (line_step M s b.line).output ++ printed M (line_step M s b.line).state (lines b.rest)
  begins_shown input b =
      let p = parts b.rest in
      ap (printed M s) b.are ∙ printed-more M stops s b.line (lines b.rest) p.tail p.head p.are

  pub unended_shown : (input : List ℕ) → Unended input → printed M s (lines input) ≡ last_output M s input
  unfolding printed
  unended_shown input h = ap (printed M s) h

  -- the line of some fields, where it is not too long
  pub line_shown : (fs : List (List ℕ)) (rest : List ℕ) → lacks 10 (joined fs) ≡ true → length (joined fs) ≤ longest_line
      → printed M s (lines (line_of fs ++ rest)) ≡ (M.on_line s (joined fs)).output ++ printed M (M.on_line s (joined fs)).state (lines rest)
  unfolding line_of line_step
  line_shown fs rest one short =
      let is : line_of fs ++ rest ≡ joined fs ++ (10 ∷ rest) = append_assoc (joined fs) (10 ∷ []) rest in
      let b : Begins (line_of fs ++ rest) = record { line = joined fs; rest = rest; is = is; are = ap lines is ∙ line-ended (joined fs) rest one } in
      begins_shown (line_of fs ++ rest) b ∙ rw (le-leb (length (joined fs)) longest_line short) refl
