-- A line that is being written: what the buffer holds up to the place that comes next.
use mathlib.Core.Path.{◌≡◌, sym, ◌∙◌, ap}
use mathlib.Core.List.{List, [], ◌∷◌, ◌++◌, append_assoc}
use Prim.Native.Nat.{ℕ, ◌+◌, ◌≤◌, ◌<◌}
use native.Mathlib.Omega.{arith}
use lib.ListN.{length, take, set}
use Rattle.numerals.specs.Bytes.{written}
use Rattle.numerals.proofs.Buffers.{length-written}
use Rattle.text.specs.Lines.{tabbed, joined, line_of}
use Rattle.text.proofs.Lines.{Holds, tabbed-one, joined-one, joined-more, holds-none, holds_more, holds-fields, holds-line}

-- a buffer of n bytes that holds s up to the place `to`
pub record Put (n : ℕ) (d : List ℕ) (to : ℕ) (s : List ℕ) : Type 0 where
  pub holds : Holds d to s
  pub long : length d ≡ n

module _ (n : ℕ) (d e : List ℕ) where
  -- the word of a line
  pub put_word : (w : List ℕ) (r : ℕ) → length d ≡ n → length w ≤ n → (r ≡ 0 + length w) × (e ≡ written d 0 w) → Put n e r (joined (w ∷ []))
  put_word w r l h p =
      let room : 0 + length w ≤ length d = omega arith in
      rw (joined-one w) (record { holds = holds_more d e [] w 0 r (holds-none d) room p.0 p.1; long = ap length p.1 ∙ length-written d 0 w room ∙ l })

  -- further fields
  pub put-fields : (f : List ℕ) (fs gs : List (List ℕ)) (to r : ℕ) → Put n d to (joined (f ∷ fs)) → r ≤ n → r ≡ to + length (tabbed gs) → e ≡ written d to (tabbed gs)
      → Put n e r (joined (f ∷ (fs ++ gs)))
  put-fields f fs gs to r w h p q =
      let room : to + length (tabbed gs) ≤ length d = omega (arith, w.long) in
      record { holds = holds-fields d e f fs gs to r w.holds room p q; long = ap length q ∙ length-written d to (tabbed gs) room ∙ w.long }

  -- further fields and the line feed
  pub put_rest : (f : List ℕ) (fs gs : List (List ℕ)) (to r : ℕ) → Put n d to (joined (f ∷ fs)) → r ≤ n → r ≡ to + length (tabbed gs ++ (10 ∷ [])) → e ≡ written d to (tabbed gs ++ (10 ∷ []))
      → (r ≤ length e) × (take r e ≡ line_of (f ∷ (fs ++ gs)))
  unfolding line_of
  put_rest f fs gs to r w h p q =
      let room : to + length (tabbed gs ++ (10 ∷ [])) ≤ length d = omega (arith, w.long) in
      let k = holds_more d e (joined (f ∷ fs)) (tabbed gs ++ (10 ∷ [])) to r w.holds room p q in
      (k.room, k.start ∙ sym (append_assoc (joined (f ∷ fs)) (tabbed gs) (10 ∷ [])) ∙ ap (λ (s : List ℕ). s ++ (10 ∷ [])) (joined-more f fs gs))

-- the line feed
pub put-end : (n : ℕ) (d : List ℕ) (fs : List (List ℕ)) (to : ℕ) → Put n d to (joined fs) → to < n → (to + 1 ≤ length (set d to 10)) × (take (to + 1) (set d to 10) ≡ line_of fs)
put-end n d fs to w h = let k = holds-line d fs to w.holds (omega (arith, w.long)) in (k.room, k.start)

-- a tab and a word
pub word-put : (d e v w : List ℕ) (at r : ℕ) → v ≡ w → length w ≤ 15 → (r ≡ at + length (9 ∷ w)) × (e ≡ written d at (9 ∷ w))
    → (r ≡ at + length (tabbed (v ∷ []))) × (e ≡ written d at (tabbed (v ∷ []))) × (r ≤ at + 16)
word-put d e v w at r h l p = rw (h, tabbed-one w) (p.0, p.1, omega (arith, p.0))
