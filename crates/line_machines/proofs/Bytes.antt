-- By bytes or by lines, and in whatever chunks: a program that reads lines prints the same.
use borrow.Author.Tests.{lt-leb}
use mathlib.Core.Path.{◌≡◌, refl, sym, ◌∙◌, ap, ap₂}
use mathlib.Core.Bool.{Bool, true, false, not, cond, true≢false}
use mathlib.Core.List.{List, [], ◌∷◌, ◌++◌, append_assoc, append-nil}
use Prim.Native.Nat.{ℕ, ◌+◌, ◌≤◌, ◌<◌}
use native.Mathlib.Omega.{arith}
use lib.Dec.{T, leb, ltb, eqb, eqb→eq, ltb→lt, nltb→le}
use lib.ListN.{length, length-append}
use Rattle.numerals.specs.Bytes.{lacks}
use Rattle.text.specs.Fields.{onto, cut_at}
use Rattle.line_machines.specs.Machines.{Step, Machine, Stops, longest_line, lines, line_step, last_output, printed, output_of, Feeding, Fed, unfed, ended, feed_byte, feed_all, feed_output, feed_end, bytewise, chunked, whole}

-- ---- tests

true-T : (c : Bool) → c ≡ true → T c
true-T true e = tt
true-T false e = absurd (true≢false (sym e))

false-T : (c : Bool) → c ≡ false → T (not c)
false-T true e = absurd (true≢false e)
false-T false e = tt

-- ---- lines

-- a byte that is no line feed, in front of what comes
front-one : (x : ℕ) (p q : List ℕ) (rest : List (List ℕ)) (bs : List ℕ) (c : Bool) → cond c false (lacks 10 p) ≡ true
    → (lacks 10 p ≡ true → lines (p ++ bs) ≡ (p ++ q) ∷ rest)
    → cond c ([] ∷ lines (p ++ bs)) (onto x (lines (p ++ bs))) ≡ (x ∷ (p ++ q)) ∷ rest
unfolding onto
front-one x p q rest bs true l g = absurd (true≢false (sym l))
front-one x p q rest bs false l g = rw (g l) refl

-- a line under way is in front of the first part of what comes
front : (p bs q : List ℕ) (rest : List (List ℕ)) → lacks 10 p ≡ true → lines bs ≡ q ∷ rest → lines (p ++ bs) ≡ (p ++ q) ∷ rest
unfolding cut_at lacks
front [] bs q rest l e = e
front (x ∷ p) bs q rest l e = front-one x p q rest bs (eqb x 10) l (λ k. front p bs q rest k e)

-- an input has at least one part
pub record Parts (bs : List ℕ) : Type 0 where
  pub head : List ℕ
  pub tail : List (List ℕ)
  pub are : lines bs ≡ head ∷ tail

parts-one : (x : ℕ) (s : List ℕ) (c : Bool) → Parts s → (h : List ℕ) × (t : List (List ℕ)) × (cond c ([] ∷ lines s) (onto x (lines s)) ≡ h ∷ t)
unfolding onto
parts-one x s true r = ([], lines s, refl)
parts-one x s false r = (x ∷ r.head, r.tail, rw r.are refl)

pub parts : (bs : List ℕ) → Parts bs
unfolding cut_at
parts [] = record { head = []; tail = []; are = refl }
parts (x ∷ s) = let r = parts-one x s (eqb x 10) (parts s) in record { head = r.0; tail = r.1; are = r.2 }

-- a line that has ended is a part of its own
pub line-ended : (p bs : List ℕ) → lacks 10 p ≡ true → lines (p ++ (10 ∷ bs)) ≡ p ∷ lines bs
unfolding cut_at
line-ended p bs l = front p (10 ∷ bs) [] (lines bs) l refl ∙ ap (λ (q : List ℕ). q ∷ lines bs) (append-nil p)

lacks-one : (c : Bool) (u v : Bool) → cond c false u ≡ true → (u ≡ true → v ≡ true) → cond c false v ≡ true
lacks-one true u v l g = absurd (true≢false (sym l))
lacks-one false u v l g = g l

-- a byte more that is no line feed
lacks-more : (p : List ℕ) (b : ℕ) → lacks 10 p ≡ true → eqb b 10 ≡ false → lacks 10 (p ++ (b ∷ [])) ≡ true
unfolding lacks
lacks-more [] b l e = rw e refl
lacks-more (x ∷ p) b l e = lacks-one (eqb x 10) (lacks 10 p) (lacks 10 (p ++ (b ∷ []))) l (λ k. lacks-more p b k e)

same-either : {A : Type 0} (c : Bool) (x : A) → cond c x x ≡ x
same-either true x = refl
same-either false x = refl

-- ---- some bytes, and then those after them

module _ {S : Type 0} (M : Machine S) where
  pub feed_append : (f : Feeding S) (xs ys : List ℕ) → feed_all M f (xs ++ ys) ≡ feed_all M (feed_all M f xs) ys
  unfolding feed_all
  feed_append f [] ys = refl
  feed_append f (b ∷ xs) ys = feed_append (feed_byte M f b).feeding xs ys

  pub output_append : (f : Feeding S) (xs ys : List ℕ) → feed_output M f (xs ++ ys) ≡ feed_output M f xs ++ feed_output M (feed_all M f xs) ys
  unfolding feed_all feed_output
  output_append f [] ys = refl
  output_append f (b ∷ xs) ys =
      ap (λ (o : List ℕ). (feed_byte M f b).output ++ o) (output_append (feed_byte M f b).feeding xs ys)
      ∙ sym (append_assoc (feed_byte M f b).output (feed_output M (feed_byte M f b).feeding xs) (feed_output M (feed_all M (feed_byte M f b).feeding xs) ys))

  -- what is printed for some bytes, and then for those after them
  pub bytewise_append : (f : Feeding S) (xs ys : List ℕ) → bytewise M f (xs ++ ys) ≡ feed_output M f xs ++ bytewise M (feed_all M f xs) ys
  bytewise_append f xs ys =
      ap₂ (λ (o : List ℕ) (g : Feeding S). o ++ feed_end M g) (output_append f xs ys) (feed_append f xs ys)
      ∙ append_assoc (feed_output M f xs) (feed_output M (feed_all M f xs) ys) (feed_end M (feed_all M (feed_all M f xs) ys))

module _ {S : Type 0} (M : Machine S) (stops : Stops M) where
  -- ---- a program that has stopped

  abbrev nothing : S → Step S
  nothing s = record { state = s; output = [] }

  -- it stays so, and prints nothing
  pub takes-nothing : (s : S) (line : List ℕ) → M.stopped s ≡ true → line_step M s line ≡ nothing s
  unfolding line_step
  takes-nothing s line e = rw (stops.no_line s line e, stops.no_bad s e) (same-either (leb (length line) longest_line) (nothing s))

  ends-nothing : (s : S) (rest : List ℕ) → M.stopped s ≡ true → last_output M s rest ≡ []
  unfolding last_output
  ends-nothing s [] e = stops.no_end s e
  ends-nothing s (x ∷ rest) e = ap (λ (t : Step S). t.output) (stops.no_bad s e)

  pub prints-nothing : (s : S) (ps : List (List ℕ)) → M.stopped s ≡ true → printed M s ps ≡ []
  unfolding printed
  prints-nothing s [] e = refl
  prints-nothing s (rest ∷ []) e = ends-nothing s rest e
  prints-nothing s (line ∷ (more ∷ ps)) e = rw (takes-nothing s line e) (prints-nothing s (more ∷ ps) e)

  -- a byte after that
  fed-stopped : (f : Feeding S) (b : ℕ) → M.stopped f.state ≡ true → (M.stopped (feed_byte M f b).feeding.state ≡ true) × ((feed_byte M f b).output ≡ [])
  unfolding feed_byte
  fed-stopped f b e = by (eqb b 10) (ltb (length f.pending) longest_line)
    where
      by : (c d : Bool) → let r = cond c (ended (line_step M f.state f.pending))
          (cond d (record { feeding = record { state = f.state; pending = f.pending ++ (b ∷ []) }; output = [] }) (ended (line_step M f.state (f.pending ++ (b ∷ []))))) in
          (M.stopped r.feeding.state ≡ true) × (r.output ≡ [])
      by true d = rw (takes-nothing f.state f.pending e) (e, refl)
      by false true = (e, refl)
      by false false = rw (takes-nothing f.state (f.pending ++ (b ∷ [])) e) (e, refl)

  pub feeds_nothing : (f : Feeding S) (bs : List ℕ) → M.stopped f.state ≡ true → bytewise M f bs ≡ []
  unfolding feed_output feed_all
  feeds_nothing f [] e = ends-nothing f.state f.pending e
  feeds_nothing f (b ∷ bs) e =
      let r = fed-stopped f b e in
      rw r.1 (feeds_nothing (feed_byte M f b).feeding bs r.0)

  -- ---- by lines

  pub printed-more : (s : S) (line : List ℕ) (ps more : List (List ℕ)) (h : List ℕ) → ps ≡ h ∷ more → printed M s (line ∷ ps) ≡ (line_step M s line).output ++ printed M (line_step M s line).state ps
  unfolding printed
  printed-more s line ps more h e = rw e refl

  -- a line that is too long
  pub too_long : (s : S) (line : List ℕ) → longest_line < length line → line_step M s line ≡ M.on_bad s
  unfolding line_step
  too_long s line h = rw (lt-leb (length line) longest_line h) refl

  -- the first part is too long: what a bad line prints is all that is printed
  printed_bad : (s : S) (line : List ℕ) (ps : List (List ℕ)) → longest_line < length line → printed M s (line ∷ ps) ≡ (M.on_bad s).output
  unfolding printed last_output
  printed_bad s [] [] h = absurd (omega arith)
  printed_bad s (x ∷ line) [] h = refl
  printed_bad s line (more ∷ ps) h =
      rw (too_long s line h)
      (ap (λ (l : List ℕ). (M.on_bad s).output ++ l) (prints-nothing (M.on_bad s).state (more ∷ ps) (stops.by_bad s))
      ∙ append-nil (M.on_bad s).output)

  -- byte by byte is line by line, for every line under way
  abbrev Linewise : List ℕ → Type 0
  Linewise bs = (f : Feeding S) → lacks 10 f.pending ≡ true → length f.pending ≤ longest_line → bytewise M f bs ≡ printed M f.state (lines (f.pending ++ bs))

  module _ (f : Feeding S) (b : ℕ) (bs : List ℕ) (l : lacks 10 f.pending ≡ true) (rec : Linewise bs) where
    -- what is printed from a byte's step on
    abbrev after : Fed S → List ℕ
    after r = (r.output ++ feed_output M r.feeding bs) ++ feed_end M (feed_all M r.feeding bs)

    -- a line feed
    fed-end : b ≡ 10 → after (ended (line_step M f.state f.pending)) ≡ printed M f.state (lines (f.pending ++ (b ∷ bs)))
    unfolding lacks
    fed-end e =
        let t = line_step M f.state f.pending in
        let p = parts bs in
        append_assoc t.output (feed_output M (ended t).feeding bs) (feed_end M (feed_all M (ended t).feeding bs))
        ∙ ap (λ (o : List ℕ). t.output ++ o) (rec (ended t).feeding refl (omega arith))
        ∙ sym (printed-more f.state f.pending (lines bs) p.tail p.head p.are)
        ∙ ap (printed M f.state) (sym (line-ended f.pending bs l))
        ∙ ap (λ (x : ℕ). printed M f.state (lines (f.pending ++ (x ∷ bs)))) (sym e)

    -- a byte of the line
    fed_byte : eqb b 10 ≡ false → length f.pending < longest_line
        → after (record { feeding = record { state = f.state; pending = f.pending ++ (b ∷ []) }; output = [] }) ≡ printed M f.state (lines (f.pending ++ (b ∷ bs)))
    fed_byte e h =
        let long : length (f.pending ++ (b ∷ [])) ≡ length f.pending + 1 = length-append f.pending (b ∷ []) in
        rec (record { state = f.state; pending = f.pending ++ (b ∷ []) }) (lacks-more f.pending b l e) (omega arith)
        ∙ ap (λ (q : List ℕ). printed M f.state (lines q)) (append_assoc f.pending (b ∷ []) bs)

    -- a byte too many
    fed-long : eqb b 10 ≡ false → longest_line ≤ length f.pending
        → after (ended (line_step M f.state (f.pending ++ (b ∷ [])))) ≡ printed M f.state (lines (f.pending ++ (b ∷ bs)))
    fed-long e h =
        let p = parts bs in
        let line = f.pending ++ (b ∷ []) in
        let long : length line ≡ length f.pending + 1 = length-append f.pending (b ∷ []) in
        let whole_long : length (line ++ p.head) ≡ length line + length p.head = length-append line p.head in
        let bad = M.on_bad f.state in
        let first_part : lines (f.pending ++ (b ∷ bs)) ≡ (line ++ p.head) ∷ p.tail
        = ap lines (sym (append_assoc f.pending (b ∷ []) bs)) ∙ front line bs p.head p.tail (lacks-more f.pending b l e) p.are in
        ap (λ (t : Step S). after (ended t)) (too_long f.state line (omega arith))
        ∙ append_assoc bad.output (feed_output M (ended bad).feeding bs) (feed_end M (feed_all M (ended bad).feeding bs))
        ∙ ap (λ (o : List ℕ). bad.output ++ o) (feeds_nothing (ended bad).feeding bs (stops.by_bad f.state))
        ∙ append-nil bad.output
        ∙ sym (printed_bad f.state (line ++ p.head) p.tail (omega arith))
        ∙ ap (printed M f.state) (sym first_part)

    fed_any : length f.pending ≤ longest_line → after (feed_byte M f b) ≡ printed M f.state (lines (f.pending ++ (b ∷ bs)))
    unfolding feed_byte
    fed_any h = by (eqb b 10) (ltb (length f.pending) longest_line) refl refl
      where
        by : (c d : Bool) → eqb b 10 ≡ c → ltb (length f.pending) longest_line ≡ d
            → after (cond c (ended (line_step M f.state f.pending))
            (cond d (record { feeding = record { state = f.state; pending = f.pending ++ (b ∷ []) }; output = [] }) (ended (line_step M f.state (f.pending ++ (b ∷ []))))))
            ≡ printed M f.state (lines (f.pending ++ (b ∷ bs)))
        by true d e g = fed-end (eqb→eq b 10 (true-T (eqb b 10) e))
        by false true e g = fed_byte e (ltb→lt (length f.pending) longest_line (true-T (ltb (length f.pending) longest_line) g))
        by false false e g = fed-long e (nltb→le (length f.pending) longest_line (false-T (ltb (length f.pending) longest_line) g))

  by_lines : (bs : List ℕ) → Linewise bs
  unfolding feed_output feed_all printed cut_at
  by_lines [] f l h = ap (λ (q : List ℕ). printed M f.state (q ∷ [])) (sym (append-nil f.pending)) ∙ ap (printed M f.state) (sym (front f.pending [] [] [] l refl))
  by_lines (b ∷ bs) f l h = fed_any f b bs l (by_lines bs) h

  -- ---- in chunks

  chunks : (cs : List (List ℕ)) (f : Feeding S) → chunked M f cs ≡ bytewise M f (whole cs)
  unfolding chunked whole feed_output feed_all
  chunks [] f = refl
  chunks (c ∷ cs) f = ap (λ (o : List ℕ). feed_output M f c ++ o) (chunks cs (feed_all M f c)) ∙ sym (bytewise_append M f c (whole cs))

  -- the input byte by byte is the program
  pub by_bytes : (input : List ℕ) → bytewise M (unfed M) input ≡ output_of M input
  unfolding output_of lacks
  by_bytes input = by_lines input (unfed M) refl (omega arith)

  -- in whatever chunks the input comes, the program prints the same
  pub any_chunks : (cs : List (List ℕ)) → chunked M (unfed M) cs ≡ output_of M (whole cs)
  any_chunks cs = chunks cs (unfed M) ∙ by_bytes (whole cs)

  -- ---- a state in which every line comes to the same, and stops the program

  module _ (s : S) (t : Step S) (same_line : (line : List ℕ) → M.on_line s line ≡ t) (same_bad : M.on_bad s ≡ t) (halts : M.stopped t.state ≡ true) where
    any_line : (line : List ℕ) → line_step M s line ≡ t
    unfolding line_step
    any_line line = rw (same_line line, same_bad) (same-either (leb (length line) longest_line) t)

    -- what is printed from such a line's step on is its output
    no_more : (bs : List ℕ) (r : Fed S) → r ≡ ended t → (r.output ++ feed_output M r.feeding bs) ++ feed_end M (feed_all M r.feeding bs) ≡ t.output
    no_more bs r e =
        ap (λ (u : Fed S). (u.output ++ feed_output M u.feeding bs) ++ feed_end M (feed_all M u.feeding bs)) e
        ∙ append_assoc t.output (feed_output M (ended t).feeding bs) (feed_end M (feed_all M (ended t).feeding bs))
        ∙ ap (λ (o : List ℕ). t.output ++ o) (feeds_nothing (ended t).feeding bs halts)
        ∙ append-nil t.output

    from-pending : (bs : List ℕ) (x : ℕ) (pending : List ℕ) → bytewise M (record { state = s; pending = x ∷ pending }) bs ≡ t.output
    unfolding feed_output feed_all feed_byte last_output
    from-pending [] x pending = ap (λ (u : Step S). u.output) same_bad
    from-pending (b ∷ bs) x pending = by (eqb b 10) (ltb (length (x ∷ pending)) longest_line) (from-pending bs x (pending ++ (b ∷ [])))
      where
        by : (c d : Bool) → bytewise M (record { state = s; pending = x ∷ (pending ++ (b ∷ [])) }) bs ≡ t.output
            → let r = cond c (ended (line_step M s (x ∷ pending)))
            (cond d (record { feeding = record { state = s; pending = (x ∷ pending) ++ (b ∷ []) }; output = [] }) (ended (line_step M s ((x ∷ pending) ++ (b ∷ []))))) in
            (r.output ++ feed_output M r.feeding bs) ++ feed_end M (feed_all M r.feeding bs) ≡ t.output
        by true d rec = no_more bs (ended (line_step M s (x ∷ pending))) (ap (λ (u : Step S). ended u) (any_line (x ∷ pending)))
        by false true rec = rec
        by false false rec = no_more bs (ended (line_step M s ((x ∷ pending) ++ (b ∷ [])))) (ap (λ (u : Step S). ended u) (any_line ((x ∷ pending) ++ (b ∷ []))))

    -- any input but the empty one prints that line's output
    pub any_input : (b : ℕ) (bs : List ℕ) → bytewise M (record { state = s; pending = [] }) (b ∷ bs) ≡ t.output
    unfolding feed_output feed_all feed_byte
    any_input b bs = by (eqb b 10) (from-pending bs b [])
      where
        by : (c : Bool) → bytewise M (record { state = s; pending = b ∷ [] }) bs ≡ t.output
            → let r = cond c (ended (line_step M s [])) (record { feeding = record { state = s; pending = b ∷ [] }; output = [] }) in
            (r.output ++ feed_output M r.feeding bs) ++ feed_end M (feed_all M r.feeding bs) ≡ t.output
        by true rec = no_more bs (ended (line_step M s [])) (ap (λ (u : Step S). ended u) (any_line []))
        by false rec = rec
