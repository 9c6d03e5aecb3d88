-- Lines as they are written: a row of numbers one after another, and what the buffer holds up to a place.
use mathlib.Core.Path.{◌≡◌, refl, sym, ap, ◌∙◌}
use mathlib.Core.List.{List, [], ◌∷◌, ◌++◌, map, map-append, append_assoc, append-nil}
use Prim.Native.Nat.{ℕ, suc, ◌+◌, ◌*◌, ◌≤◌, ◌<◌}
use native.Mathlib.Omega.{arith}
use native.Mathlib.Numerals.{add-one}
use lib.ListN.{length, get_or, take, set, length-append, length-set}
use lib.Seq.{take-suc, take-suc-set}
use Rattle.numerals.specs.Bytes.{written}
use Rattle.numerals.proofs.Buffers.{written_none, written_cons, written_twice, length-written, take-written}
use Rattle.text.specs.Lines.{tabbed, joined, line_of}

pub tabbed_append : (fs gs : List (List ℕ)) → tabbed (fs ++ gs) ≡ tabbed fs ++ tabbed gs
unfolding tabbed
tabbed_append [] gs = refl
tabbed_append (f ∷ fs) gs = rw (tabbed_append fs gs, append_assoc)

pub tabbed-one : (f : List ℕ) → tabbed (f ∷ []) ≡ 9 ∷ f
unfolding tabbed
tabbed-one f = rw append-nil

-- a line of one field, of two, and of more
pub joined-one : (f : List ℕ) → joined (f ∷ []) ≡ f
unfolding joined tabbed
joined-one f = append-nil f

pub joined-two : (f g : List ℕ) → (f ++ (9 ∷ [])) ++ g ≡ joined (f ∷ g ∷ [])
unfolding joined
joined-two f g = append_assoc f (9 ∷ []) g ∙ ap (λ (s : List ℕ). f ++ s) (sym (tabbed-one g))

pub joined-more : (f : List ℕ) (fs gs : List (List ℕ)) → joined (f ∷ fs) ++ tabbed gs ≡ joined (f ∷ (fs ++ gs))
unfolding joined
joined-more f fs gs = append_assoc f (tabbed fs) (tabbed gs) ∙ ap (λ (s : List ℕ). f ++ s) (sym (tabbed_append fs gs))

-- the state of a loop that writes a row from at on, by `show` to at most 20 bytes a number: i numbers are written, up to the place to
abbrev pub Putting : {A : Type 0} → (A → List ℕ) → List A → List ℕ → ℕ → ℕ → ℕ → List ℕ → Type 0
Putting show vs d at i to e =
    (i ≤ length vs) × (length e ≡ length d) × (to ≡ at + length (tabbed (map show (take i vs)))) × (to ≤ at + 21 * i) × (e ≡ written d at (tabbed (map show (take i vs))))

module _ {A : Type 0} (show : A → List ℕ) (vs : List A) (d : List ℕ) (at : ℕ) where
  pub putting_none : Putting show vs d at 0 at d
  unfolding tabbed
  putting_none = (omega arith, refl, omega arith, omega arith, written_none d at)

  tabbed-more : (i : ℕ) (z : A) → i < length vs → tabbed (map show (take (i + 1) vs)) ≡ tabbed (map show (take i vs)) ++ (9 ∷ show (get_or vs i z))
  tabbed-more i z h =
      rw (add-one i, take-suc vs i z h, map-append show (take i vs) (get_or vs i z ∷ []))
      (tabbed_append (map show (take i vs)) (show (get_or vs i z) ∷ []) ∙ ap (λ (s : List ℕ). tabbed (map show (take i vs)) ++ s) (tabbed-one (show (get_or vs i z))))

  pub putting_more : (i to r : ℕ) (e f : List ℕ) (v z : A) → at + 21 * length vs ≤ length d → i < length vs → v ≡ get_or vs i z → length (show v) ≤ 20
      → Putting show vs d at i to e → r ≡ to + 1 + length (show v) → f ≡ written (set e to 9) (to + 1) (show v)
      → Putting show vs d at (i + 1) r f
  putting_more i to r e f v z room h q k w p t =
      let m : tabbed (map show (take (i + 1) vs)) ≡ tabbed (map show (take i vs)) ++ (9 ∷ show v) = rw q (tabbed-more i z h) in
      let l : length (tabbed (map show (take (i + 1) vs))) ≡ length (tabbed (map show (take i vs))) + suc (length (show v)) = ap length m ∙ length-append (tabbed (map show (take i vs))) (9 ∷ show v) in
      let g : f ≡ written e to (9 ∷ show v) = t ∙ written_cons e to 9 (show v) (omega arith) in (
        omega arith,
        ap length g ∙ length-written e to (9 ∷ show v) (omega arith) ∙ w.1,
        omega arith,
        omega arith,
        g ∙ rw (w.4, w.2, m) (written_twice d at (tabbed (map show (take i vs))) (9 ∷ show v) (omega arith)),
      )

-- the buffer up to the place to is s
pub record Holds (d : List ℕ) (to : ℕ) (s : List ℕ) : Type 0 where
  pub long : to ≡ length s
  pub room : to ≤ length d
  pub start : take to d ≡ s

-- nothing is written yet
pub holds-none : (d : List ℕ) → Holds d 0 []
holds-none d = record { long = refl; room = omega arith; start = refl }

-- t is written next, as the functions that begin with `put` say it
pub holds_more : (d e s t : List ℕ) (to r : ℕ) → Holds d to s → to + length t ≤ length d → r ≡ to + length t → e ≡ written d to t → Holds e r (s ++ t)
holds_more d e s t to r w h p q =
    let l : length e ≡ length d = ap length q ∙ length-written d to t h in
    record {
      long = rw length-append (omega (arith, w.long));
      room = omega arith;
      start = rw (q, p) (take-written d to t w.room ∙ ap (λ (u : List ℕ). u ++ t) w.start);
    }

-- more fields are written next
pub holds-fields : (d e f : List ℕ) (fs gs : List (List ℕ)) (to r : ℕ) → Holds d to (joined (f ∷ fs)) → to + length (tabbed gs) ≤ length d
    → r ≡ to + length (tabbed gs) → e ≡ written d to (tabbed gs) → Holds e r (joined (f ∷ (fs ++ gs)))
holds-fields d e f fs gs to r w h p q = rw (← joined-more f fs gs) (holds_more d e (joined (f ∷ fs)) (tabbed gs) to r w h p q)

-- one byte is written next
pub holds_byte : (d s : List ℕ) (to x : ℕ) → Holds d to s → to < length d → Holds (set d to x) (to + 1) (s ++ (x ∷ []))
holds_byte d s to x w h = record {
  long = rw length-append (omega (arith, w.long));
  room = rw length-set (omega arith);
  start = rw (add-one to, take-suc-set d to x h) (ap (λ (u : List ℕ). u ++ (x ∷ [])) w.start);
}

-- a line feed after the fields makes their line
pub holds-line : (d : List ℕ) (fs : List (List ℕ)) (to : ℕ) → Holds d to (joined fs) → to < length d → Holds (set d to 10) (to + 1) (line_of fs)
unfolding line_of
holds-line d fs to w h = holds_byte d (joined fs) to 10 w h
